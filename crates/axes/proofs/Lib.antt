pub mod Lengths
pub mod ReadBack
pub mod Cases
