use lib.ListN.{drop}
use Rattle.text.proofs.TextLaws.{Left}
use Rattle.case_lines.specs.Lines.{spaced}
use Rattle.case_lines.proofs.put_spaced.Given as goal

abbrev pub invariant-loop-number : goal.invariant-loop-number
invariant-loop-number l = Left l.initial.text (spaced l.numbers) l.text (spaced (drop l.number-index l.numbers))
