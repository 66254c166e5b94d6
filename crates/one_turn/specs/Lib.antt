pub mod Holds
pub mod Performable
