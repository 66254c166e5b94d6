pub mod AccessCheck
pub mod Foretold
