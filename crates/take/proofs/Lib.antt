pub mod Packet
pub mod Cases
