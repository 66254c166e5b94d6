pub mod MaskLaws
pub mod ResultLaws
pub mod MoveLaws
