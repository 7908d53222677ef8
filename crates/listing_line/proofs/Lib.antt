pub mod Joining
mod Groups
mod Parts
pub mod Short
pub mod Lines
