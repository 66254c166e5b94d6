pub mod OperandLaws
pub mod ProductLaws
pub mod DivideLaws
pub mod MultiplyAddLaws
