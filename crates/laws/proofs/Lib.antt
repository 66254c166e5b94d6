pub mod Chain
pub mod Apart
