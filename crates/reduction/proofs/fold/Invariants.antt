use Rattle.reduction.proofs.FoldLaws.{Folding}
use Rattle.reduction.proofs.fold.Given as goal

abbrev pub invariant-loop-i : goal.invariant-loop-i
invariant-loop-i l = Folding l.vlenb l.registers l.r l.vl l.i l.acc
