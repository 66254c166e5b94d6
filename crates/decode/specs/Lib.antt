pub mod Listing
pub mod Word
pub mod Fields
