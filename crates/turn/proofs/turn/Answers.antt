use native.Mathlib.Omega.{arith}
use Rattle.control.proofs.Laws.{valid}
use Rattle.turn.proofs.Turns.{accepted-scalars, accepted-rights, accepted-sew, accepted-vl, all-lent, all-left, decoded-fits}
use Rattle.turn.proofs.Turns.{refused-word, illegal-word, one-turn-performable, one-turn-word, elements-runnable, elements-word}
use Rattle.turn.proofs.turn.Goals as goal

pub returns-in-Err : goal.returns-in-Err
returns-in-Err c = search refused-word

pub unreachable-requires : goal.unreachable-requires
unreachable-requires c =
    let count = accepted-scalars _ _ _ _ _ _ _ c.refusal-refused.ensures c.in_default.is in
    omega (arith, count, c.in_default-first_chunk_mut.ensures.cases)

pub unreachable-requires-in_default-try_from : goal.unreachable-requires-in_default-try_from
unreachable-requires-in_default-try_from c =
    c.in_default-try_from.ensures.1 (accepted-rights _ _ _ _ _ _ _ c.refusal-refused.ensures c.in_default.is)

pub checked-requires : goal.checked-requires
checked-requires c = (search (accepted-sew, valid), (search (accepted-vl, valid), search decoded-fits))

pub perform-requires : goal.perform-requires
perform-requires c =
    let count = accepted-scalars _ _ _ _ _ _ _ c.refusal-refused.ensures c.in_default.is in
    let lent = all-lent _ count _ c.in-Some.ensures.cases in
    rw lent (one-turn-performable _ _ _ _ _ _ _ _ _ _ _ (valid c.args.hart) c.refusal-refused.ensures c.in_default.is c.decode.ensures
    (rw lent at c.checked.ensures) c.in-OneTurn.is)

pub elements-requires : goal.elements-requires
elements-requires c =
    let count = accepted-scalars _ _ _ _ _ _ _ c.refusal-refused.ensures c.in_default.is in
    let lent = all-lent _ count _ c.in-Some.ensures.cases in
    rw (lent, c.in-Ok.ensures.1.same) (elements-runnable _ _ _ _ _ _ _ _ _ _ c.refusal-refused.ensures c.in_default.is
    c.decode.ensures (rw lent at c.checked.ensures) _ (valid c.args.hart) c.in-Elements.is)

pub returns-in-Illegal : goal.returns-in-Illegal
returns-in-Illegal c =
    let count = accepted-scalars _ _ _ _ _ _ _ c.refusal-refused.ensures c.in_default.is in
    let lent = all-lent _ count _ c.in-Some.ensures.cases in
    rw (all-left c.args.scalars.now count c.in-Some.scalars.now, lent)
    (illegal-word _ _ _ _ _ _ _ _ _ _ c.refusal-refused.ensures c.in_default.is
    c.decode.ensures (rw lent at c.checked.ensures) _ _ c.in-Illegal.is c.answered-in-Illegal.ensures)

pub returns-in-OneTurn : goal.returns-in-OneTurn
returns-in-OneTurn c =
    let count = accepted-scalars _ _ _ _ _ _ _ c.refusal-refused.ensures c.in_default.is in
    let lent = all-lent _ count _ c.in-Some.ensures.cases in
    rw (all-left c.args.scalars.now count c.perform.new.scalars)
    (one-turn-word _ _ _ _ _ _ _ _ _ _ c.refusal-refused.ensures c.in_default.is
    c.decode.ensures (rw lent at c.checked.ensures) _ _ _ _ _ _ c.in-OneTurn.is (rw lent at c.perform.ensures)
    c.finished.ensures)

pub returns-in-Elements : goal.returns-in-Elements
returns-in-Elements c =
    let count = accepted-scalars _ _ _ _ _ _ _ c.refusal-refused.ensures c.in_default.is in
    let lent = all-lent _ count _ c.in-Some.ensures.cases in
    rw (all-left c.args.scalars.now count c.in-Some.scalars.now, lent)
    (elements-word _ _ _ _ _ _ _ _ _ _ c.refusal-refused.ensures c.in_default.is
    c.decode.ensures (rw lent at c.checked.ensures) _ _ _ c.in-Elements.is (rw (lent, c.in-Ok.ensures.1.same) at c.elements.ensures))
