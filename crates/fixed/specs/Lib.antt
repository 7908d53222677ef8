pub mod Distance
pub mod Fixed
pub mod Laws
