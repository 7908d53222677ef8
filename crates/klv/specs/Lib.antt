pub mod Item
pub mod Header
pub mod Level
pub mod OneText
pub mod Limits
