pub mod Scaled
pub mod Ready
