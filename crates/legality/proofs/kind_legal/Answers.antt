use Rattle.plan.specs.declared.Plan.TheVariants as P
use Rattle.plan.specs.Range.{PlanFits}
use Rattle.plan.proofs.OperandLaws.{variant_fits}
use Rattle.legality.specs.Legal.{kind_legal}
use Rattle.legality.proofs.LegalLaws.{kind-by}
use Rattle.legality.proofs.kind_legal.Goals as goal

pub one_turn_legal-requires : goal.one_turn_legal-requires
unfolding kind_legal
one_turn_legal-requires c = search (variant_fits PlanFits P.OneTurn)

pub elements_legal-requires : goal.elements_legal-requires
unfolding kind_legal
elements_legal-requires c = search (variant_fits PlanFits P.Elements)

pub returns-in-Illegal : goal.returns-in-Illegal
unfolding kind_legal
returns-in-Illegal c = search kind-by

pub returns-in-OneTurn : goal.returns-in-OneTurn
unfolding kind_legal
returns-in-OneTurn c = search kind-by

pub returns-in-Elements : goal.returns-in-Elements
unfolding kind_legal
returns-in-Elements c = search kind-by
