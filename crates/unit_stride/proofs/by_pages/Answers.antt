use native.Mathlib.Omega.{arith}
use mathlib.Core.Path.{refl}
use Rattle.unit_stride.proofs.UnmaskedLaws.{at-outside, last-page}
use Rattle.unit_stride.proofs.UnmaskedLaws.{at-closed, at-end, at_clear}
use Rattle.unit_stride.proofs.by_pages.Goals as goal

pub returns-then-inside-eq0 : goal.returns-then-inside-eq0
returns-then-inside-eq0 c = search at-outside

pub overflow_mul-closed : goal.overflow_mul-closed
overflow_mul-closed c =
    let found = c.first_closed.ensures.closed _ c.in-Some.is in
    omega (arith, found.1.0, last-page c.args.rights.now _ _ _ _ c.requires.0 _ _ _ c.requires.1.0 c.saturating_sub.ensures c.min-inside.ensures c.if-inside-eq0.false)

pub overflow_add-element : goal.overflow_add-element
overflow_add-element c =
    let found = c.first_closed.ensures.closed _ c.in-Some.is in
    omega (arith, found.1.0, c.saturating_sub-in-Some.ensures, last-page c.args.rights.now _ _ _ _ c.requires.0 _ _ _ c.requires.1.0 c.saturating_sub.ensures c.min-inside.ensures c.if-inside-eq0.false)

pub overflow_sub-result : goal.overflow_sub-result
overflow_sub-result c = (c.first_closed.ensures.closed _ c.in-Some.is).0

pub returns-in-Some : goal.returns-in-Some
returns-in-Some c = at-closed _ _ _ _ _ c.requires.0 _ _ _ c.requires.1.0 c.saturating_sub.ensures c.min-inside.ensures
    c.if-inside-eq0.false _ _ c.right_needed-right.ensures _ c.first_closed.ensures (rw c.in-Some.is refl) _ _ c.in-Some.is
    c.saturating_sub-in-Some.ensures c.denied_answer-in-Some.ensures

pub returns-then-inside-remaining : goal.returns-then-inside-remaining
returns-then-inside-remaining c = at-end _ _ _ _ _ c.requires.0 _ _ _ c.requires.1.0 c.saturating_sub.ensures c.min-inside.ensures
    c.if-inside-eq0.false _ _ c.right_needed-right.ensures _ c.first_closed.ensures refl c.in_default.is
    _ c.if-inside-remaining.true c.denied_answer-then-inside-remaining.ensures

pub returns : goal.returns
returns c = rw c.finished.ensures (at_clear _ _ _ _ _ c.requires.0 _ _ _ c.requires.1.0 c.saturating_sub.ensures c.min-inside.ensures
    c.if-inside-eq0.false _ _ c.right_needed-right.ensures _ c.first_closed.ensures refl c.in_default.is c.if-inside-remaining.false)
