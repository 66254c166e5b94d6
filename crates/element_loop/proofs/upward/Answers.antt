use Rattle.layout.proofs.BytesLaws.{slice-bytes}
use Rattle.element_loop.proofs.LoopLaws.{going-none, step-more, next-index, end_fits, next-steppable}
use Rattle.element_loop.proofs.LoopLaws.{trap-left, stop-fits, stop-left}
use borrow.Author.Rules.{rules}
use Rattle.element_loop.proofs.upward.Goals as goal

pub loop-k-init : goal.loop-k-init
loop-k-init g c = search (going-none, slice-bytes)

pub overflow_add-i : goal.overflow_add-i
overflow_add-i g c = search (next-index, end_fits)

pub element-requires : goal.element-requires
element-requires g c = next-steppable _ _ _ _ _ _ _ _ c.requires.0 _ _ _ _ c.loop-k.invariant _ _ _
    c.saturating_sub-remaining.ensures c.min-count.ensures c.loop-k-test.true c.requires.1

pub returns-in-Err : goal.returns-in-Err
returns-in-Err g c = trap-left _ _ _ _ _ _ _ _ c.requires.0 _ _ _ _ c.loop-k.invariant _ _ _ _ _ _ _
    c.trapped.ensures c.saturating_sub-remaining.ensures c.min-count.ensures c.loop-k-test.true
    c.element.ensures c.in-Err.is

pub loop-k-preserved : goal.loop-k-preserved
loop-k-preserved g c = step-more _ _ _ _ _ _ _ _ c.requires.0 _ _ _ _ c.loop-k.invariant _ _ _ _ _ _ _
    c.saturating_sub-remaining.ensures c.min-count.ensures c.loop-k-test.true
    c.element.ensures c.in-Ok.is c.saturated-vxsat.ensures (search slice-bytes) (search rules) (search rules)

pub stopped-requires : goal.stopped-requires
stopped-requires g c = search stop-fits

pub returns : goal.returns
returns g c = stop-left _ _ _ _ _ _ _ _ c.requires.0 _ _ _ _ c.loop-k.invariant _ _ _
    c.stopped.ensures c.saturating_sub-remaining.ensures c.min-count.ensures c.loop-k-test.false
