pub mod Multiply
