use native.Mathlib.Omega.{arith}
use Rattle.text.proofs.TextLaws.{wrote_none, wrote_one, wrote-more, numeral-room}
use Rattle.text.proofs.Text.+put_numeral.Goals as goal
use Rattle.text.proofs.Text.+put_numeral.Goals.{then-radix-x, else-radix-x}

pub returns-then-n-eq0 : goal.returns-then-n-eq0
returns-then-n-eq0 t c = search wrote_none

pub put_byte-requires : goal.put_byte-requires
put_byte-requires t c =
    elim c.if-radix-x.branch [ then-radix-x w ↦ search numeral-room | else-radix-x w ↦ rw w.self-is (omega arith) ]

pub returns : goal.returns
returns t c = elim c.if-radix-x.branch [ then-radix-x w ↦ search wrote-more | else-radix-x w ↦ search wrote_one ]
