mod Plans
mod Outcomes
pub mod InOrder
pub mod Cases
