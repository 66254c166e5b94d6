pub mod Board
pub mod Vtype
pub mod Control
