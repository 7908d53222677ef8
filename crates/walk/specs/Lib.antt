pub mod Metadata
pub mod Pass
