pub mod Matrix
pub mod Back
pub mod ReadBack
