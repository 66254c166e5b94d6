pub mod SumLaws
pub mod ShiftLaws
