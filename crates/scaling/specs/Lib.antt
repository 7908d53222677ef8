pub mod Quaternion
