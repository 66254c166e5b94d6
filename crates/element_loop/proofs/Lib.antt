pub mod Readiness
pub mod LoopLaws
