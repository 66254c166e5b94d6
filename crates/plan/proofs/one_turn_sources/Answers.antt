use Rattle.plan.specs.Sources.{one_turn_sources}
use Rattle.plan.proofs.SourceLaws.{variant-listed, nothing-listed, mask-listed, reduction-listed, packing-listed, move-listed}
use Rattle.plan.proofs.one_turn_sources.Goals as goal

pub returns-in-Setting : goal.returns-in-Setting
returns-in-Setting c = search (variant-listed one_turn_sources, nothing-listed)

pub returns-in-Mask : goal.returns-in-Mask
returns-in-Mask c = search mask-listed

pub returns-in-Reduction : goal.returns-in-Reduction
returns-in-Reduction c = search reduction-listed

pub returns-in-Packing : goal.returns-in-Packing
returns-in-Packing c = search packing-listed

pub returns-in-ScalarMove : goal.returns-in-ScalarMove
returns-in-ScalarMove c = search move-listed
