-- The first from i up is the first of all.
use Prim.Native.Nat.{◌-◌}
use mathlib.Core.Path.{◌≡◌}
use Rattle.machine.specs.OneTurn.{first_of}
use Rattle.one_turn.proofs.first.Given as goal

abbrev pub invariant-loop-i : goal.invariant-loop-i
invariant-loop-i l = first_of l.vlenb l.registers l.m.masked l.m.vs2 l.i (l.vl - l.i) ≡ first_of l.vlenb l.registers l.m.masked l.m.vs2 0 l.vl
