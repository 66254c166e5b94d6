pub mod LineLaws
pub mod SheetLaws
pub mod Enough
