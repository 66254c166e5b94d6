pub mod Spared
pub mod Contained
pub mod Elements
pub mod Untouched
pub mod Later
pub mod Results
pub mod Turns
pub mod Changes
