mod Keys
mod Nans
mod TwosComplement
pub mod Whole
pub mod Near
pub mod Cases
