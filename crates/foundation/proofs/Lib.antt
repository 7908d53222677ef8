pub mod BigEndian
pub mod Bytes
pub mod Parts
pub mod Digits
