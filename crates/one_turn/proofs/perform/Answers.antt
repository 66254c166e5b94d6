use Rattle.one_turn.proofs.ResultLaws.{setting-fits, mask-holds, mask-is-apart, reduction-holds, packing-holds, move-holds}
use Rattle.one_turn.proofs.ResultLaws.{setting-left, mask-left, reduction-left, packing-left, move-left}
use Rattle.one_turn.proofs.perform.Goals as goal
use Rattle.one_turn.proofs.perform.Goals.{in-Mask, in-Reduction, in-Packing, in-ScalarMove}

pub setting-requires : goal.setting-requires
setting-requires c = search setting-fits

pub returns-in-Setting : goal.returns-in-Setting
returns-in-Setting c = search setting-left

pub mask_turn-requires : goal.mask_turn-requires
mask_turn-requires c = (search mask-holds, search mask-is-apart)

pub reduce-requires : goal.reduce-requires
reduce-requires c = search reduction-holds

pub pack-requires : goal.pack-requires
pack-requires c = search packing-holds

pub scalar_turn-requires : goal.scalar_turn-requires
scalar_turn-requires c = search move-holds

pub returns : goal.returns
returns c =
    let given = c.args.control in
    let left = c.with_vstart.ensures in
    elim c.match-t.branch [
      | in-Mask w ↦ mask-left _ _ _ _ _ _ _ _ _ given _ w.in-Mask.is left w.mask_turn.ensures w.registers-is w.scalars-is
      | in-Reduction w ↦ reduction-left _ _ _ _ _ _ _ _ given _ w.in-Reduction.is left w.reduce.ensures w.registers-is w.scalars-is
      | in-Packing w ↦ packing-left _ _ _ _ _ _ _ _ given _ w.in-Packing.is left w.pack.ensures w.registers-is w.scalars-is
      | in-ScalarMove w ↦
          move-left _ _ _ _ _ _ _ _ _ given _ w.in-ScalarMove.is left w.scalar_turn.ensures w.registers-is w.scalars-is
    ]
