-- What is still to be set, set now, gives the whole; the elements are active as they were before.
use Rattle.one_turn.proofs.MaskLaws.{Going}
use Rattle.one_turn.proofs.set_first.Given as goal

abbrev pub invariant-loop-i : goal.invariant-loop-i
invariant-loop-i l = Going l.vlenb l.m l.f l.vl l.initial.registers l.i l.registers
