pub mod Calendar
pub mod Fields
pub mod Date
pub mod Bounds
