pub mod Sheet
pub mod Listed
