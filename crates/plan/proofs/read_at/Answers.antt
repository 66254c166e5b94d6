use Rattle.plan.specs.Plan.{read_at}
use Rattle.plan.proofs.OperandLaws.{between, sew-most, eew-most, in_group}
use borrow.Author.Rules.{rules}
use Rattle.plan.proofs.read_at.Goals as goal

pub sew-sew-requires : goal.sew-sew-requires
unfolding read_at
sew-sew-requires c = search rules

pub eew-requires : goal.eew-requires
unfolding read_at
eew-requires c = search sew-most

pub groups_at-group-requires : goal.groups_at-group-requires
unfolding read_at
groups_at-group-requires c = search eew-most

pub returns-in-Absent : goal.returns-in-Absent
unfolding read_at
returns-in-Absent c = search (between read_at)

pub returns-in-Bit : goal.returns-in-Bit
unfolding read_at
returns-in-Bit c = search (between read_at)

pub returns-in-Eighth : goal.returns-in-Eighth
returns-in-Eighth c = search in_group
