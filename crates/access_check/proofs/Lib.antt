pub mod CheckLaws
pub mod WordLaws
pub mod Foretold
