pub mod Operators
pub mod FoldLaws
pub mod Reductions
