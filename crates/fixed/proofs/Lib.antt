pub mod RoundLaws
pub mod ClipLaws
pub mod SumLaws
pub mod AverageLaws
pub mod ShiftLaws
pub mod Bounds
