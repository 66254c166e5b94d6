use Rattle.std.proofs.Common.{arith, rules}
use Rattle.layout.proofs.WidthLaws.{size-pos}
use Rattle.access.proofs.AccessLaws.{is-aligned, last_fits, faults-misaligned, faults-past-memory, faults-closed, granted}
use Rattle.access.proofs.access.Goals as goal

pub returns-then-not-aligned : goal.returns-then-not-aligned
returns-then-not-aligned c = search faults-misaligned

pub overflow_sub-last : goal.overflow_sub-last
overflow_sub-last c = search size-pos

pub overflow_add-last : goal.overflow_add-last
overflow_add-last c = search (last_fits, is-aligned)

pub returns-then-size-last : goal.returns-then-size-last
returns-then-size-last c = faults-past-memory _ _ _ _ _ (is-aligned _ _ _ c.aligned.ensures c.if-not-aligned.false) _ _
    c.requires.1 (omega (arith, c.if-size-last.true)) c.denied_answer.ensures c.fault_at-then-size-last.ensures

pub returns-then-right-own : goal.returns-then-right-own
returns-then-right-own c = search (granted, is-aligned, rules)

pub returns : goal.returns
returns c = search (faults-closed, is-aligned, rules)
