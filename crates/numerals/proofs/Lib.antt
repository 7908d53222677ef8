pub mod Decimal
pub mod Negative
pub mod Spelling
