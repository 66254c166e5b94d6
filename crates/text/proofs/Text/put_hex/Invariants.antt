use Rattle.text.specs.Text.{hex}
use Rattle.text.proofs.TextLaws.{Left}
use Rattle.text.proofs.Text.put_hex.Given as goal

abbrev pub invariant-loop-k : goal.invariant-loop-k
invariant-loop-k l = Left l.initial.self (hex l.n l.x) l.self (hex l.k l.x)
