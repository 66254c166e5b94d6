pub mod Fold
pub mod Reducible
