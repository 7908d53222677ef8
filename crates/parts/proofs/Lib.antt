pub mod Cases
pub mod Found
pub mod Texts
