use Rattle.execute.proofs.StepLaws.{Moving}
use Rattle.execute.proofs.move_fields.Given as goal

abbrev pub invariant-loop : goal.invariant-loop
invariant-loop l =
    Moving l.vlenb l.initial.registers l.initial.memory l.store l.dest l.n l.i l.a l.registers l.memory l.reg l.field l.counter
