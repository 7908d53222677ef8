pub mod Decoded
pub mod Encoded
pub mod Kept
pub mod Samples
pub mod Table
