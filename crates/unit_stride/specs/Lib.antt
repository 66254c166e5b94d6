pub mod Pages
pub mod Tested
