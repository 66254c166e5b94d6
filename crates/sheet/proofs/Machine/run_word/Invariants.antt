use Rattle.sheet.specs.Left.{held}
use Rattle.sheet.proofs.RunLaws.{Turning}
use Rattle.sheet.proofs.Machine.run_word.Given as goal

abbrev pub invariant-loop-turn : goal.invariant-loop-turn
invariant-loop-turn l = Turning l.word l.allow (held l.initial.self) l.initial.text l._turn l.text l.self
