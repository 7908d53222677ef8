pub mod Readings
pub mod Window
pub mod Stream
