pub mod Values
pub mod SourceCases
pub mod SegmentCases
pub mod ReductionCases
pub mod PermutationCases
pub mod TrapCases
pub mod Boards
pub mod ChangeCases
