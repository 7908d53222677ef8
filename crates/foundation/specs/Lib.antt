pub mod BigEndian
pub mod Fuel
pub mod Text
pub mod Refusals
pub mod Pieces
pub mod Digits
