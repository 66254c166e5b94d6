pub mod Widths
pub mod Diff
pub mod LowBits
pub mod WrapLaws
pub mod SignedLaws
pub mod Bounds
pub mod FlagLaws
