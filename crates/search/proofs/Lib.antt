pub mod Find
pub mod First
pub mod Cases
