pub mod Integer
pub mod Mask
