use Rattle.sheet.proofs.RunLaws.{turn-leaves, turn-answers}
use Rattle.sheet.proofs.Machine.take_turn.Goals as goal

pub returns : goal.returns
returns c =
    let left = rw c.base.ensures at c.turn-turned.ensures in
    (turn-leaves _ _ _ _ _ _ _ _ left c.report_turn.ensures.0, (turn-answers _ _ _ _ _ _ _ _ left, c.report_turn.ensures.1))
