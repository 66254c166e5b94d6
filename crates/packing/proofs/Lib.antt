pub mod PackLaws
pub mod Packings
