pub mod WidthLaws
pub mod BytesLaws
pub mod BitLaws
pub mod ElementLaws
