use mathlib.Core.Logic.{⊎_elim}
use Rattle.control.proofs.Laws.{valid}
use Rattle.turn.proofs.Turns.{accepted-scalars, accepted-rights, accepted-sew, accepted-vl, decoded-fits}
use Rattle.access_check.proofs.WordLaws.{refused-word, other_word, illegal-word, no-one-turn, elements-ready, elements-word}
use Rattle.access_check.proofs.check.Goals as goal

pub returns-in-Err : goal.returns-in-Err
returns-in-Err c = search refused-word

pub returns-then-not-is_unit_stride : goal.returns-then-not-is_unit_stride
returns-then-not-is_unit_stride c = search other_word

pub checked-requires : goal.checked-requires
checked-requires c = (search (accepted-sew, valid), (search (accepted-vl, valid), search decoded-fits))

pub unreachable-requires : goal.unreachable-requires
unreachable-requires c = c.in_default-try_from.ensures.1 (search accepted-scalars)

pub unreachable-requires-in_default-try_from-2 : goal.unreachable-requires-in_default-try_from-2
unreachable-requires-in_default-try_from-2 c = c.in_default-try_from-2.ensures.1 (search accepted-rights)

pub elements-requires : goal.elements-requires
elements-requires c = elements-ready _ _ c.args.registers.now _ c.args.memory.now _ _ _ _ _ c.refusal-refused.ensures
    c.in_default.is c.decode-instruction.ensures c.is_unit_stride.ensures c.if-not-is_unit_stride.false _
    (rw c.in-Ok.ensures.1.same at c.checked.ensures) _ (valid c.args.hart) c.in-Elements.is

pub returns-in-Illegal : goal.returns-in-Illegal
returns-in-Illegal c =
    let checked = rw c.in-Ok.ensures.1.same at c.checked.ensures in
    ⊎_elim (λ e. search illegal-word) (λ f. let taken = f.1 in search (no-one-turn, decoded-fits, valid)) c.in-Illegal.is

pub returns-in-Elements : goal.returns-in-Elements
returns-in-Elements c = elements-word _ _ _ _ _ _ _ _ _ _ c.refusal-refused.ensures c.in_default.is
    c.decode-instruction.ensures c.is_unit_stride.ensures c.if-not-is_unit_stride.false _
    (rw c.in-Ok.ensures.1.same at c.checked.ensures) _ (valid c.args.hart) c.in-Elements.is _
    (rw c.in-Ok-try_from.ensures.1.same at c.elements.ensures)
