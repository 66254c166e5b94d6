-- n is the population of the first i elements, and so at most i.
use Prim.Native.Nat.{◌≤◌}
use mathlib.Core.Path.{◌≡◌}
use Rattle.machine.specs.OneTurn.{population_of}
use Rattle.one_turn.proofs.count.Given as goal

abbrev pub invariant-loop-i : goal.invariant-loop-i
invariant-loop-i l = (l.n ≤ l.i) × (l.n ≡ population_of l.vlenb l.registers l.m.masked l.m.vs2 l.i)
