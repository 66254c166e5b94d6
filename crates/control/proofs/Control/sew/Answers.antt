use Rattle.control.proofs.Laws.{sew-shifted}
use Rattle.control.proofs.Control.sew.Goals as goal

pub returns : goal.returns
returns c = search sew-shifted
