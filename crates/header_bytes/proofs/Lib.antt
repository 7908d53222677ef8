pub mod HeaderBytes
pub mod Standing
