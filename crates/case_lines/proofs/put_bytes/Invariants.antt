use Prim.Native.Nat.{◌+◌, ◌-◌, ◌*◌}
use Rattle.text.proofs.TextLaws.{Left}
use Rattle.case_lines.specs.Lines.{bytes_at}
use Rattle.case_lines.proofs.put_bytes.Given as goal

abbrev pub invariant-loop-k : goal.invariant-loop-k
invariant-loop-k l = Left l.initial.bytes (bytes_at l.line l.at l.n) l.bytes (bytes_at l.line (l.at + 2 * l.k) (l.n - l.k))
