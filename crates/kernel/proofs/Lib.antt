pub mod KernelLaws
pub mod PlanLaws
