use native.Mathlib.Omega.{arith}
use Rattle.control.proofs.Laws.{sew-ge}
use Rattle.legality.proofs.may_start.Goals as goal

pub nonzero_div-result : goal.nonzero_div-result
nonzero_div-result c = omega (arith, sew-ge c.args.control.vtype, c.sew.ensures)

pub returns : goal.returns
returns c = rw c.sew.ensures
