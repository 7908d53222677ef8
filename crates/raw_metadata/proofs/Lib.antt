pub mod Answers
pub mod Readings
pub mod Window
pub mod Stream
pub mod Cases
