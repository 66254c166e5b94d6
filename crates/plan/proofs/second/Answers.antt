use Rattle.decode.specs.declared.Source.TheVariants.{Scalar, Immediate}
use Rattle.decode.specs.Fields.{SourceFits}
use Rattle.plan.proofs.OperandLaws.{variant_fits, vector-source, scalar-source, immediate-source}
use Rattle.plan.proofs.second.Goals as goal

pub scalar-requires : goal.scalar-requires
scalar-requires c = search (variant_fits SourceFits Scalar)

pub immediate-requires : goal.immediate-requires
immediate-requires c = search (variant_fits SourceFits Immediate)

pub returns-in-Vector : goal.returns-in-Vector
returns-in-Vector c = search vector-source

pub returns-in-Scalar : goal.returns-in-Scalar
returns-in-Scalar c = search scalar-source

pub returns-in-Immediate : goal.returns-in-Immediate
returns-in-Immediate c = search immediate-source
