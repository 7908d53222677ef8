pub mod Number
pub mod Expansion
pub mod Resolved
pub mod Held
