use Rattle.unit_stride.proofs.MaskedLaws.{walking-none, walking-more, walking-fault, walking-done}
use Rattle.unit_stride.proofs.MaskedLaws.{mask_at}
use Rattle.unit_stride.proofs.walked.Goals as goal

pub loop-k-init : goal.loop-k-init
loop-k-init c = search walking-none

pub active-active-requires : goal.active-active-requires
active-active-requires c = search mask_at

pub loop-k-preserved : goal.loop-k-preserved
loop-k-preserved c = walking-more _ _ _ _ _ _ c.requires.0 _ _ c.loop-k.invariant c.loop-k-test.true
    _ _ _ _ _ c.active-active.ensures c.address-a.ensures c.page_tested.ensures c.tallied-tally.ensures
    c.test.ensures c.in_default.is

pub returns-in-Err : goal.returns-in-Err
returns-in-Err c = walking-fault _ _ _ _ _ _ c.requires.0 _ _ c.loop-k.invariant c.loop-k-test.true
    _ _ _ _ _ c.active-active.ensures c.address-a.ensures c.page_tested.ensures c.tallied-tally.ensures
    c.test.ensures _ c.in-Err.is

pub returns : goal.returns
returns c = rw c.finished.ensures (search walking-done)
