use lib.ListN.{drop}
use Rattle.text.proofs.TextLaws.{Left}
use Rattle.text.proofs.Text.put.Given as goal

abbrev pub invariant-loop-byte : goal.invariant-loop-byte
invariant-loop-byte l = Left l.initial.self l.text l.self (drop l.byte-index l.text)
