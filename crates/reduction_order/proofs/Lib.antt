pub mod Bitwise
pub mod Lesser
pub mod Folds
pub mod AnyOrders
pub mod ExactSums
