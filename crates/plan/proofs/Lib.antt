pub mod OperandLaws
pub mod AccessLaws
pub mod PlanLaws
pub mod RangeLaws
pub mod SourceLaws
