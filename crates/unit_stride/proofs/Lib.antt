pub mod PageLaws
pub mod PackedLaws
pub mod TestedLaws
pub mod UnmaskedLaws
pub mod MaskedLaws
pub mod FewPages
