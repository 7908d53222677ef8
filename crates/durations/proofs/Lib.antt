pub mod Lists
pub mod Finite
pub mod Whole
pub mod Steps
pub mod Sizes
pub mod Ends
pub mod SoFar
mod Cases
