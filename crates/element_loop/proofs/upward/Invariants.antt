use Rattle.element_loop.proofs.LoopLaws.{Going}
use Rattle.element_loop.proofs.upward.Given as goal

abbrev pub invariant-loop-k : goal.invariant-loop-k
invariant-loop-k g l =
    Going l.board l.e l.initial.registers l.scalars l.initial.memory l.rights l.control l.allowance l.k l.registers l.memory l.vxsat
