pub mod Packets
pub mod Average
pub mod Running
