pub mod PutIn
pub mod Rows
pub mod OtherBytes
pub mod OldReader
