pub mod Kept
pub mod Utf8
pub mod Scalar
pub mod Texts
