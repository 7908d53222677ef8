mod Difference
mod Near
mod Held
mod Rounding
mod Once
mod Sum
mod Quotient
mod TwoParts
mod PowerOfTwo
mod AnyDivisor
pub mod Range
pub mod Q15
pub mod Q31
