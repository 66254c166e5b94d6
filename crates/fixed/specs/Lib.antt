pub mod Round
pub mod Fixed
