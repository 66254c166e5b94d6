use Rattle.one_turn.proofs.MaskLaws.{going_more, going-all, first-or-end}
use Rattle.one_turn.proofs.set_first.Goals as goal

pub loop-i-preserved : goal.loop-i-preserved
loop-i-preserved c = search going_more

pub returns : goal.returns
returns c = search (going-all, first-or-end)
