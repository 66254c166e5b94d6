pub mod Runnable
pub mod Step
