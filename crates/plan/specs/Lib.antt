pub mod Plan
pub mod Sources
pub mod Range
