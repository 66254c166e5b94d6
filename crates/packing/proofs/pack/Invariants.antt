-- What is still to be written, written now, gives the whole; the sources are read as they were before.
use Rattle.packing.proofs.PackLaws.{Walked}
use Rattle.packing.proofs.pack.Given as goal

abbrev pub invariant-loop-i : goal.invariant-loop-i
invariant-loop-i l = Walked l.vlenb l.p l.vl l.initial.registers l.i l.n l.registers
