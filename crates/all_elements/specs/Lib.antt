pub mod Laid
pub mod Letter
