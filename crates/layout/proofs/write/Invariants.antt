use Prim.Native.Nat.{◌+◌, ◌-◌}
use mathlib.Core.Path.{◌≡◌}
use Rattle.layout.specs.Layout.{with_bytes}
use Rattle.layout.proofs.write.Given as goal

abbrev pub invariant-loop-k : goal.invariant-loop-k
invariant-loop-k g l = with_bytes l.l (l.a + l.k) (g.row.N - l.k) l.rest ≡ with_bytes l.initial.l l.a g.row.N l.x
