use Rattle.decode.specs.declared.Source.TheVariants.{Scalar}
use Rattle.decode.specs.Fields.{SourceFits}
use Rattle.plan.specs.Plan.{index_of}
use Rattle.plan.proofs.OperandLaws.{variant_fits, indexed}
use borrow.Author.Rules.{rules}
use Rattle.plan.proofs.index_of.Goals as goal

pub groups_at-requires : goal.groups_at-requires
unfolding index_of
groups_at-requires c = search rules

pub scalar-requires : goal.scalar-requires
unfolding index_of
scalar-requires c = search (variant_fits SourceFits Scalar)

pub returns-in-Vector : goal.returns-in-Vector
unfolding index_of
returns-in-Vector c = search indexed

pub returns-in-Scalar : goal.returns-in-Scalar
unfolding index_of
returns-in-Scalar c = search indexed

pub returns-in-Immediate : goal.returns-in-Immediate
unfolding index_of
returns-in-Immediate c = search indexed
