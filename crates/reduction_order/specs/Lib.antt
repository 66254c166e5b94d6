pub mod AnyOrder
pub mod ExactSums
