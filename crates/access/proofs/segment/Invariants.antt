use Rattle.access.proofs.AccessLaws.{Testing}
use Rattle.access.proofs.segment.Given as goal

abbrev pub invariant-loop : goal.invariant-loop
invariant-loop l = Testing l.rights l.memory l.store l.a l.n l.nf l.field l.counter
