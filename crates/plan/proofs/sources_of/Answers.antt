use Rattle.plan.specs.declared.Plan.TheVariants as P
use Rattle.plan.specs.Sources.{sources_of}
use Rattle.plan.specs.Range.{PlanFits}
use Rattle.plan.proofs.OperandLaws.{variant_fits}
use Rattle.plan.proofs.SourceLaws.{variant-listed, nothing-listed}
use Rattle.plan.proofs.sources_of.Goals as goal

pub one_turn_sources-requires : goal.one_turn_sources-requires
unfolding sources_of
one_turn_sources-requires c = search (variant_fits PlanFits P.OneTurn)

pub element_sources-requires : goal.element_sources-requires
unfolding sources_of
element_sources-requires c = search (variant_fits PlanFits P.Elements)

pub returns-in-Illegal : goal.returns-in-Illegal
unfolding sources_of
returns-in-Illegal c = search (variant-listed sources_of, nothing-listed)

pub returns-in-OneTurn : goal.returns-in-OneTurn
unfolding sources_of
returns-in-OneTurn c = search (variant-listed sources_of)

pub returns-in-Elements : goal.returns-in-Elements
unfolding sources_of
returns-in-Elements c = search (variant-listed sources_of)
