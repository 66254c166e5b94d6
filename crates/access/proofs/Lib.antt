pub mod AccessLaws
pub mod OnePage
pub mod Reason
