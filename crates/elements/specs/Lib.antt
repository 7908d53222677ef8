pub mod Types
pub mod Element
