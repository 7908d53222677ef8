pub mod Row
pub mod Lookup
