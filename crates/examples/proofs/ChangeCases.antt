-- What words read and write, and what a change between turns comes to, by computation.
use Prim.Native.Nat.{ℕ, ◌-◌, ◌^◌}
use mathlib.Core.Path.{◌≡◌, refl, sym, ap, ◌∙◌, subst}
use mathlib.Core.Logic.{inl}
use mathlib.Core.List.{List, [], ◌∷◌}
use native.Mathlib.Omega.{arith}
use mathlib.Core.Bool.{Bool, false, not}
use lib.ListN.{get_or}
use lib.Dec.{T, eqb, lit<}
use borrow.Author.Tests.{eq-eqb}
use Rattle.answer.specs.declared.Answer.TheVariants.{Finished, Paused}
use Rattle.width.specs.Width.{wrap, signed}
use Rattle.control.specs.Board.{base}
use Rattle.control.specs.Vtype.{vlmax_of, supported_of}
use Rattle.control.specs.Control.{possible_of, typed_well_of}
use Rattle.turn_theory.specs.Turn.{turn, clean, written}
use Rattle.refusal.specs.Refusal.{refusal_of}
use Rattle.decode.specs.Listing.{listing, vmunary0, vwxunary0, find, entry_of}
use Rattle.decode.specs.Word.{decode_of, arithmetic_of, resolved_of, source_of, avl_of, setting_of, width_of, mask_of, whole_of, unit_of}
use Rattle.decode.specs.Word.{memory_of}
use Rattle.layout.specs.Layout.{bytes_at, bit_at, with_bytes, element_at, with_element}
use Rattle.group.specs.Group.{placed_of, emul8_of, may_overlap_of, may_share_of, spares_v0}
use Rattle.access.specs.Access.{access_of, fields_access}
use Rattle.plan.specs.Plan.{read_at, second_of, index_of, shaped_of, permuting_of, moving_of, by_mode, reducing_of, packing_of}
use Rattle.plan.specs.Plan.{scalar_moving_of}
use Rattle.plan.specs.Plan.{plan_of}
use Rattle.plan.specs.Sources.{element_sources, reduction_sources, packing_sources, sources_of}
use Rattle.legality.specs.Legal.{read_fits, operands_fit, elements_legal, sources_fit, kind_legal, legal_of}
use Rattle.machine.specs.State.{State, Outcome}
use Rattle.machine.specs.Effect.{put_of, put_all, value_of, each_field, acting_of, effect_of}
use Rattle.machine.specs.Machine.{turn_of, rejection_at}
use Rattle.footprint.specs.Footprint.{any_of, any_from, uses_register, names_scalar, scalars_of, action_addresses}
use Rattle.footprint.specs.Changes.{Change, with_change, with_changes, touches, Resumed, ProceedsResumed, resumed_turns, followed_by}
use Rattle.footprint.proofs.Changes.{changes-follow}
use Rattle.examples.specs.ChangeCases.{lesson, those_from, rest_after, Differs, FollowUnless, changes_made, resumed_run}
use Rattle.examples.specs.ChangeCases.{ChangeCases}

-- two states that differ in one number
apart_in : (look : State → ℕ) (s s' : State) → T (not (eqb (look s) (look s'))) → s ≡ s' → ⊥
apart_in look s s' h e = subst (λ (t : Bool). T (not t)) (eq-eqb (look s) (look s') (ap look e)) h

differing : (change : State → State) (word : ℕ) (look : State → ℕ) → (turn_of base word 1 lesson).answer ≡ Paused
    → (rest_after change word).answer ≡ Finished
    → T (not (eqb (look (rest_after change word).after) (look (change (turn_of base word (2 ^ 32 - 1) lesson).after))))
    → Differs change word
differing change word look p f h = record { pauses = p; finishes = f; differs = apart_in look _ _ h }

paused-not-finished : Paused ≡ Finished → ⊥
paused-not-finished e = let z : ◌≡◌ {A = ℕ} 0 1 = cc in omega arith

-- after a first turn of 1 from `lesson` that pauses, some changes and the uncut rest
abbrev after_one : List Change → List Resumed
after_one cs = record { changes = cs; next = record { allowance = 2 ^ 32 - 1; rights = lesson.rights } } ∷ []

proceeds-after-one : (word : ℕ) (cs : List Change) → (turn_of base word 1 lesson).answer ≡ Paused
    → ProceedsResumed base word lesson 1 (after_one cs)
proceeds-after-one word cs p = (lit< tt, ((λ e. paused-not-finished (sym p ∙ e)), (inl (unfold turn_of in refl), lit< tt)))

-- the theorem, at the pupil's run
by-theorem : (turn_of base 0xB68664D7 1 lesson).answer ≡ Paused → any_of (touches base 0xB68664D7 lesson) changes_made ≡ false
    → resumed_run.answer ≡ Finished → resumed_run ≡ followed_by changes_made (turn_of base 0xB68664D7 (2 ^ 32 - 1) lesson)
by-theorem p = changes-follow.uncut 0xB68664D7 1 lesson (after_one changes_made) (proceeds-after-one 0xB68664D7 changes_made p)

needs : (test : ℕ → State → Change → Bool) (word : ℕ) (c : Change) → Differs (with_change c) word → test word lesson c ≡ false
    → FollowUnless test → ⊥
unfolding turn_of resumed_turns with_changes
needs test word c d h t =
    d.differs (ap (λ (o : Outcome). o.after)
    (t word 1 lesson (after_one (c ∷ [])) (proceeds-after-one word (c ∷ []) d.pauses) (rw h) d.finishes))

abbrev byte_at : ℕ → State → ℕ
byte_at k s = get_or s.registers k 0

pub change-cases : ChangeCases
unfolding turn_of turn clean written decode_of arithmetic_of resolved_of source_of entry_of find listing vwxunary0 vmunary0 setting_of avl_of
    memory_of width_of unit_of mask_of whole_of rejection_at refusal_of possible_of typed_well_of supported_of vlmax_of plan_of shaped_of permuting_of
    moving_of by_mode reducing_of packing_of scalar_moving_of read_at second_of index_of legal_of kind_legal elements_legal operands_fit read_fits placed_of emul8_of
    may_overlap_of spares_v0 sources_fit may_share_of sources_of element_sources reduction_sources packing_sources effect_of acting_of value_of each_field
    put_all put_of element_at with_element bytes_at bit_at with_bytes access_of fields_access signed wrap any_from uses_register names_scalar scalars_of
    action_addresses with_changes touches resumed_turns those_from
change-cases = record {
  sources-and-v0 = refl;
  two-widths = refl;
  whole-groups = refl;
  fields = refl;
  single-registers = refl;
  scalar-operands = refl;
  settings-and-moves = refl;
  bytes = refl;
  bytes_left = refl;
  bytes-of-registers = refl;
  untouched = refl;
  products = refl;
  counted = refl;
  as-uncut = by-theorem refl refl refl;
  needed = needs;
  source = differing _ 0x02848557 (byte_at 161) refl refl tt;
  destination = differing _ 0x02848557 (byte_at 161) refl refl tt;
  source-past-vl = differing _ 0x3E80B557 (byte_at 162) refl refl tt;
  field = differing _ 0x22058507 (byte_at 177) refl refl tt;
  mask = differing _ 0x00848557 (byte_at 161) refl refl tt;
  carries = differing _ 0x40848557 (byte_at 161) refl refl tt;
  scalar = differing _ 0x02864557 (byte_at 161) refl refl tt;
  base-address = differing _ 0x02058507 (byte_at 161) refl refl tt;
  byte-read = differing _ 0x02058507 (byte_at 161) refl refl tt;
  byte-written = differing _ 0x02058427 (λ s. get_or s.memory 5 0) refl refl tt;
  vstart = differing _ 0xB68664D7 (byte_at 144) refl refl tt;
  vl = differing _ 0xB68664D7 (byte_at 146) refl refl tt;
}
