pub mod Matrices
pub mod TextEnds
pub mod Cases
