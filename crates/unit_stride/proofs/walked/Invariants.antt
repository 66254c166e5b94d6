use mathlib.Core.Bool.{true}
use Rattle.machine.specs.Effect.{active_of}
use Rattle.unit_stride.proofs.MaskedLaws.{Walking}
use Rattle.unit_stride.proofs.walked.Given as goal

abbrev pub invariant-loop-k : goal.invariant-loop-k
invariant-loop-k l = Walking (active_of l.vlenb l.registers true) l.rights l.memory l.t l.vstart l.remaining l.k l.tally
