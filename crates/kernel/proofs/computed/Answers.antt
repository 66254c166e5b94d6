use native.Mathlib.Omega.{arith}
use mathlib.Core.Path.{refl}
use Rattle.execute.specs.Step.{declined}
use Rattle.kernel.proofs.PlanLaws.{vd-start, vs2-start, vs1-start, placed, is-attempted}
use Rattle.kernel.proofs.computed.Goals as goal

pub returns-then-e : goal.returns-then-e
returns-then-e c = λ rights memory x d. declined

pub overflow_mul-s : goal.overflow_mul-s
overflow_mul-s c = omega (arith, vd-start _ _ _ _ _ _ c.requires c.if-e.false c.if-end-from.false)

pub start_of-requires : goal.start_of-requires
start_of-requires c = omega (arith, vs2-start _ _ _ _ _ _ c.requires c.if-e.false c.if-end-from.false)

pub source_of-requires : goal.source_of-requires
source_of-requires c = omega (arith, vs1-start _ _ _ _ _ _ c.requires c.if-e.false c.if-end-from.false)

pub returns-in_default : goal.returns-in_default
returns-in_default c = λ rights memory x d. declined

pub by_operation-requires : goal.by_operation-requires
by_operation-requires c =
    let is-operation = c.kernel_of.ensures c.in-Some.o c.in-Some.is in
    rw (c.start_of.ensures, c.source_of.ensures) (placed _ _ _ _ _ _ c.requires c.if-e.false c.if-end-from.false _ is-operation)

pub returns : goal.returns
returns c =
    let is-operation = c.kernel_of.ensures c.in-Some.o c.in-Some.is in
    is-attempted _ _ _ _ _ _ c.requires c.if-e.false c.if-end-from.false _ is-operation c.args.board _ _ refl
    (rw (c.start_of.ensures, c.source_of.ensures) at c.by_operation.ensures)
