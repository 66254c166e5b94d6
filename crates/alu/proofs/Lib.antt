pub mod Arms
pub mod Bounds
