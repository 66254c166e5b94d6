use Rattle.kernel.proofs.KernelLaws.{Sweeping}
use Rattle.kernel.proofs.kernel.Given as goal

abbrev pub invariant-loop-i : goal.invariant-loop-i
invariant-loop-i g l = Sweeping l.fn.s g.O.Operation.op g.row.N l.initial.registers l.registers l.i
