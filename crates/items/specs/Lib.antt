pub mod At
pub mod Parts
