pub mod Laid
pub mod Search
