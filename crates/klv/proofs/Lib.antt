pub mod Item
pub mod Laid
pub mod Length
pub mod Level
pub mod Place
pub mod Samples
