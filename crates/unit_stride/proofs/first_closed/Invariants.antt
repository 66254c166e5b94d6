use Rattle.unit_stride.proofs.UnmaskedLaws.{Scanned}
use Rattle.unit_stride.proofs.first_closed.Given as goal

abbrev pub invariant-loop-page : goal.invariant-loop-page
invariant-loop-page l = Scanned l.rights l.right l.first l.last l.page
