pub mod Tagged
pub mod Number
pub mod Read
