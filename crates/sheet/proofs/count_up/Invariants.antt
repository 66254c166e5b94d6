use Rattle.sheet.proofs.Printing.{Filled}
use Rattle.sheet.proofs.count_up.Given as goal

abbrev pub invariant-loop-a : goal.invariant-loop-a
invariant-loop-a l = Filled l.initial.memory l.a l.memory
