use Rattle.plan.specs.declared.OneTurn.TheVariants as O
use Rattle.plan.specs.Range.{OneTurnFits}
use Rattle.plan.proofs.OperandLaws.{variant_fits}
use Rattle.legality.specs.Legal.{one_turn_legal}
use Rattle.legality.proofs.LegalLaws.{one-turn-by, from-zero-by}
use borrow.Author.Rules.{rules}
use Rattle.legality.proofs.one_turn_legal.Goals as goal

pub may_start-requires : goal.may_start-requires
unfolding one_turn_legal
may_start-requires c = search rules

pub mask_apart-requires : goal.mask_apart-requires
unfolding one_turn_legal
mask_apart-requires c = search rules

pub may_start-requires-in-Reduction : goal.may_start-requires-in-Reduction
unfolding one_turn_legal
may_start-requires-in-Reduction c = search rules

pub reduction_placed-requires : goal.reduction_placed-requires
unfolding one_turn_legal
reduction_placed-requires c = search (variant_fits OneTurnFits O.Reduction)

pub may_start-requires-in-Packing : goal.may_start-requires-in-Packing
unfolding one_turn_legal
may_start-requires-in-Packing c = search rules

pub packing_placed-requires : goal.packing_placed-requires
unfolding one_turn_legal
packing_placed-requires c = search (variant_fits OneTurnFits O.Packing)

pub may_start-requires-in-ScalarMove : goal.may_start-requires-in-ScalarMove
unfolding one_turn_legal
may_start-requires-in-ScalarMove c = search rules

pub returns-in-Setting : goal.returns-in-Setting
unfolding one_turn_legal
returns-in-Setting c = search one-turn-by

pub returns-in-Mask : goal.returns-in-Mask
unfolding one_turn_legal
returns-in-Mask c = search from-zero-by

pub returns-in-Reduction : goal.returns-in-Reduction
unfolding one_turn_legal
returns-in-Reduction c = search from-zero-by

pub returns-in-Packing : goal.returns-in-Packing
unfolding one_turn_legal
returns-in-Packing c = search from-zero-by

pub returns-in-ScalarMove : goal.returns-in-ScalarMove
unfolding one_turn_legal
returns-in-ScalarMove c = search one-turn-by
