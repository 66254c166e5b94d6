use mathlib.Core.Path.{◌≡◌}
use Prim.Native.Nat.{◌<◌, ◌^◌}
use Rattle.hexadecimal.specs.Hexadecimal.{number_at}
use Rattle.hexadecimal.proofs.number.Given as goal

abbrev pub invariant-loop-i : goal.invariant-loop-i
invariant-loop-i l = (l.x ≡ number_at l.line l.at l.i) × (l.x < 16 ^ l.i)
