use Rattle.sheet_read.proofs.SheetLaws.{Counted}
use Rattle.sheet_read.proofs.count.Given as goal

abbrev pub invariant-loop-k : goal.invariant-loop-k
invariant-loop-k l = Counted l.s l.at l.k
