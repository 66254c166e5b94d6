pub mod RunLaws
pub mod Printing
pub mod Ends
