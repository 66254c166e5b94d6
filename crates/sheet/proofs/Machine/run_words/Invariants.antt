use Rattle.sheet.specs.Left.{held}
use Rattle.sheet.proofs.RunLaws.{Running}
use Rattle.sheet.proofs.Machine.run_words.Given as goal

abbrev pub invariant-loop-k : goal.invariant-loop-k
invariant-loop-k l = Running l.sheet l.words (held l.initial.self) l.initial.text l.k l.text l.self
