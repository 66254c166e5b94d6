pub mod Integers
pub mod Rows
pub mod Increments
pub mod Meanings
