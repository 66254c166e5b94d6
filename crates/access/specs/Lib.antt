pub mod Access
pub mod OnePage
pub mod Reason
