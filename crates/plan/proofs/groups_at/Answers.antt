use Rattle.plan.proofs.OperandLaws.{sew-some, lmul8-most}
use Rattle.plan.proofs.groups_at.Goals as goal

pub emul8-requires : goal.emul8-requires
emul8-requires c = search (sew-some, lmul8-most)

pub returns : goal.returns
returns c = rw (c.emul8.ensures, c.lmul8-lmul8.ensures, c.sew-sew.ensures)
