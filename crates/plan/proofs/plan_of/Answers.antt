use Rattle.decode.specs.declared.Instruction.TheVariants as I
use Rattle.decode.specs.Fields.{Fits}
use Rattle.plan.specs.declared.OneTurn.TheVariants as O
use Rattle.plan.specs.declared.Plan.TheVariants as P
use Rattle.plan.specs.Plan.{plan_of}
use Rattle.plan.proofs.OperandLaws.{variant_fits}
use Rattle.plan.proofs.PlanLaws.{planned, planned-by}
use borrow.Author.Rules.{rules}
use Rattle.plan.proofs.plan_of.Goals as goal

pub reducing-requires : goal.reducing-requires
unfolding plan_of
reducing-requires c = search rules

pub packing_at-requires : goal.packing_at-requires
unfolding plan_of
packing_at-requires c = search rules

pub scalar_moving-requires : goal.scalar_moving-requires
unfolding plan_of
scalar_moving-requires c = search rules

pub computing-requires : goal.computing-requires
unfolding plan_of
computing-requires c = search (rules, variant_fits Fits I.Arithmetic)

pub permuting-requires : goal.permuting-requires
unfolding plan_of
permuting-requires c = search (rules, variant_fits Fits I.Permutation)

pub transferring-requires : goal.transferring-requires
unfolding plan_of
transferring-requires c = search (rules, variant_fits Fits I.Memory)

pub returns-in-Illegal : goal.returns-in-Illegal
unfolding plan_of
returns-in-Illegal c = search planned

pub returns-in-Setting : goal.returns-in-Setting
unfolding plan_of
returns-in-Setting c = search planned

pub returns-in-Mask : goal.returns-in-Mask
unfolding plan_of
returns-in-Mask c = search planned

pub returns-in-Reduction : goal.returns-in-Reduction
unfolding plan_of
returns-in-Reduction c = search (planned-by (λ r. P.OneTurn (O.Reduction r)))

pub returns-in-Pack : goal.returns-in-Pack
unfolding plan_of
returns-in-Pack c = search (planned-by (λ p. P.OneTurn (O.Packing p)))

pub returns-in-ScalarMove : goal.returns-in-ScalarMove
unfolding plan_of
returns-in-ScalarMove c = search (planned-by (λ m. P.OneTurn (O.ScalarMove m)))

pub returns-in-Arithmetic : goal.returns-in-Arithmetic
unfolding plan_of
returns-in-Arithmetic c = search (planned-by P.Elements)

pub returns-in-Permutation : goal.returns-in-Permutation
unfolding plan_of
returns-in-Permutation c = search (planned-by P.Elements)

pub returns-in-Memory : goal.returns-in-Memory
unfolding plan_of
returns-in-Memory c = search (planned-by P.Elements)
