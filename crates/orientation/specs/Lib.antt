pub mod Matrix
pub mod Texts
pub mod Group
