pub mod Footprint
pub mod Changes
