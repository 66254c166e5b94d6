use Rattle.sheet_read.proofs.LineLaws.{Opened}
use Rattle.sheet_read.proofs.open.Given as goal

abbrev pub invariant-loop-i : goal.invariant-loop-i
invariant-loop-i l = Opened l.s l.initial.right-items l.i l.right-items
