pub mod Run
pub mod Bounds
pub mod Left
