use Rattle.one_turn.proofs.MaskLaws.{first-here, first_more, first-none}
use Rattle.one_turn.proofs.first.Goals as goal

pub returns-then-set_at : goal.returns-then-set_at
returns-then-set_at c = search first-here

pub loop-i-preserved : goal.loop-i-preserved
loop-i-preserved c = search first_more

pub returns : goal.returns
returns c = search first-none
