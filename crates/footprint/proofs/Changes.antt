-- A FINISHED RUN WITH CHANGES BETWEEN ITS TURNS IS THE UNCUT RUN, FOLLOWED BY THE CHANGES. Each change is moved to the front of the turns
-- before it; what is left is demand 3, from the first state with all changes made; and they are moved to the end of that uncut turn.
use Prim.Native.Nat.{ℕ, ◌-◌, ◌^◌, ◌<◌}
use mathlib.Core.Path.{◌≡◌, refl, sym, ap, ap₂, ◌∙◌, subst}
use mathlib.Core.Logic.{◌⊎◌, inl, inr}
use mathlib.Core.Bool.{true, false, ◌&&◌}
use mathlib.Core.List.{List, [], ◌∷◌, ◌++◌}
use mathlib.Core.Option.{Option, none, some}
use native.Mathlib.Nat.{le_refl}
use Rattle.answer.specs.declared.Answer.{Answer}
use Rattle.answer.specs.declared.Answer.TheVariants.{Finished, Paused, Illegal, LoadMisaligned, LoadAccess, StoreMisaligned, StoreAccess}
use Rattle.answer.specs.declared.Answer.TheVariants.{BadRegisters, BadScalars, BadMemory, BadRights, BadControl, NoGroup}
use Rattle.control.specs.declared.Board.{Board}
use Rattle.control.specs.Board.{Valid, base, small}
use Rattle.control.proofs.Laws.{possible-apart, base-valid, small-valid}
use Rattle.decode.specs.Word.{decode_of}
use Rattle.decode.proofs.Fields.{fits}
use Rattle.plan.specs.declared.Plan.{Plan}
use Rattle.plan.specs.declared.Plan.TheVariants as P
use Rattle.plan.specs.Sources.{sources_of}
use Rattle.turn_theory.specs.Turn.{finished}
use Rattle.turn_theory.proofs.Laws.{turn-rejected}
use Rattle.machine.specs.State.{State, Outcome, with_rights, core_of}
use Rattle.machine.specs.Machine.{rejection_at, Opened, semantics_of, answer_of, ran_of, outcome_of, plan_turn, plan_at, turn_of}
use Rattle.machine.specs.Demands.{is_trap, changes_nothing, untouched, Next, turns_of, last_rights, Between, Proceeds}
use Rattle.machine.proofs.PlanFacts.{plan-sound}
use Rattle.machine.proofs.Lawful.{facts}
use Rattle.machine.proofs.Demands.{rejection-rejects, Rejecting, apart, turn_with, point_of, following-plan, joined, demand-3}
use Rattle.footprint.specs.Footprint.{any_of, destinations_of, scalars_of}
use Rattle.footprint.specs.Changes.{Change, changed_registers, with_change, with_changes, touches, Resumed, resumed_state, resumed_turns}
use Rattle.footprint.specs.Changes.{ProceedsResumed, all_changes, turns_alone, without_changes, followed_by, ChangesFollow}
use Rattle.footprint.proofs.Spared.{or-none, Avoids}
use Rattle.footprint.proofs.Contained.{PlanContained}
use Rattle.footprint.proofs.Elements.{ElementSpared, active-kept}
use Rattle.footprint.proofs.Untouched as Untouched
use Rattle.footprint.proofs.Untouched.{Untouched, AvoidsScalars}
use Rattle.footprint.proofs.Later.{PlanLater, same-later, untouched-later, turn-onward}
use Rattle.footprint.proofs.Turns.{rejection-same, elements-spared, plan-same, contained-at, turn-kept}

-- ---- changes and rights

changes-rights : (cs : List Change) (s : State) → (with_changes cs s).rights ≡ s.rights
unfolding with_changes
changes-rights [] s = refl
changes-rights (c ∷ cs) s = changes-rights cs (with_change c s)

rights-changes : (cs : List Change) (r : List ℕ) (s : State) → with_rights r (with_changes cs s) ≡ with_changes cs (with_rights r s)
unfolding with_changes
rights-changes [] r s = refl
rights-changes (c ∷ cs) r s = rights-changes cs r (with_change c s)

changes-both : (cs ds : List Change) (s : State) → with_changes (cs ++ ds) s ≡ with_changes ds (with_changes cs s)
unfolding with_changes
changes-both [] ds s = refl
changes-both (c ∷ cs) ds s = changes-both cs ds (with_change c s)

-- ---- a rejection is no trap, and no finish

nothing-traps : (a : Answer) → (changes_nothing a && is_trap a) ≡ false
nothing-traps Finished = refl
nothing-traps Paused = refl
nothing-traps Illegal = refl
nothing-traps LoadMisaligned = refl
nothing-traps LoadAccess = refl
nothing-traps StoreMisaligned = refl
nothing-traps StoreAccess = refl
nothing-traps BadRegisters = refl
nothing-traps BadScalars = refl
nothing-traps BadMemory = refl
nothing-traps BadRights = refl
nothing-traps BadControl = refl
nothing-traps NoGroup = refl

-- ---- all changes of a list

abbrev All : (Change → Type 0) → List Change → Type 0
All P [] = Unit {0}
All P (c ∷ cs) = P c × All P cs

all_first : (P : Change → Type 0) (cs ds : List Change) → All P (cs ++ ds) → All P cs
all_first P [] ds h = tt
all_first P (c ∷ cs) ds h = (h.0, all_first P cs ds h.1)

all_rest : (P : Change → Type 0) (cs ds : List Change) → All P (cs ++ ds) → All P ds
all_rest P [] ds h = h
all_rest P (c ∷ cs) ds h = all_rest P cs ds h.1

all_map : (P Q : Change → Type 0) → ((c : Change) → P c → Q c) → (cs : List Change) → All P cs → All Q cs
all_map P Q f [] h = tt
all_map P Q f (c ∷ cs) h = (f c h.0, all_map P Q f cs h.1)

module _ (b : Board) (w : Valid b) (word : ℕ) where
  -- the answer that rejects the word at a state
  abbrev rejection_in : State → Option Answer
  rejection_in s = rejection_at b (plan_at b word s) s.rights (core_of s) s.control.vstart

  rejected-turn : (s : State) (a : Answer) (n : ℕ) → rejection_in s ≡ some a → turn_of b word n s ≡ untouched a s
  unfolding turn_of
  rejected-turn s a n h =
      let p : Plan = plan_at b word s in
      ap (outcome_of b p s.rights) (turn-rejected (semantics_of b p) (turn_with b p s.rights n) (point_of b p s) a h)

  -- ---- changes that are not touched

  abbrev AllUntouched : State → List Change → Type 0
  AllUntouched s = All (Untouched b word s)

  all-later : (s s' : State) → ((c : Change) → Untouched b word s c → Untouched b word s' c) → (cs : List Change)
      → AllUntouched s cs → AllUntouched s' cs
  all-later s s' = all_map (Untouched b word s) (Untouched b word s')

  all-untouched : (s : State) (cs : List Change) → any_of (touches b word s) cs ≡ false → AllUntouched s cs
  all-untouched s [] h = tt
  all-untouched s (c ∷ cs) h =
      let q = or-none (touches b word s c) (any_of (touches b word s) cs) h in
      (Untouched.untouched b word s c q.0, all-untouched s cs q.1)

  -- under other rights
  rights-later : (s : State) (r : List ℕ) (cs : List Change) → AllUntouched s cs → AllUntouched (with_rights r s) cs
  rights-later s r =
      all-later s (with_rights r s) (λ c. untouched-later b s (with_rights r s) (le_refl _) word c refl
      (same-later b.vlenb (plan_at b word s) s.control.vstart s.registers))

  -- ---- after a change the rejection is the same, and no other change is touched

  rejection-changed : (s : State) (c : Change) → AvoidsScalars c (scalars_of (decode_of word)) → rejection_in (with_change c s) ≡ rejection_in s
  rejection-changed s c h =
      ap (λ (p : Plan). rejection_at b p s.rights (core_of (with_change c s)) s.control.vstart) (plan-same b word s c h)
      ∙ rejection-same b (plan_at b word s) s.rights c (core_of s) s.control.vstart

  -- what a word names does not go by the state
  abbrev Unnamed : Change → Type 0
  Unnamed c = AvoidsScalars c (scalars_of (decode_of word))

  none_named : (s : State) (cs : List Change) → AllUntouched s cs → All Unnamed cs
  none_named s = all_map (Untouched b word s) Unnamed (λ c u. u.scalars)

  rejection-changes : (s : State) (cs : List Change) → All Unnamed cs → rejection_in (with_changes cs s) ≡ rejection_in s
  unfolding with_changes
  rejection-changes s [] h = refl
  rejection-changes s (c ∷ cs) h = rejection-changes (with_change c s) cs h.1 ∙ rejection-changed s c h.0

  module _ (s : State) (h : rejection_in s ≡ none) (d : Change) where
    plan-later : (p : Plan) → rejection_at b p s.rights (core_of s) s.control.vstart ≡ none → PlanContained b s.control p
        → Avoids b.vlenb d (sources_of p ++ destinations_of p)
        → PlanLater b.vlenb p s.control.vstart s.registers (changed_registers d s.registers)
    plan-later P.Illegal q y a = tt
    plan-later (P.OneTurn t) q y a = tt
    plan-later (P.Elements e) q y a =
        let spared : (i : ℕ) → i < e.end → ElementSpared b.vlenb d e i = elements-spared b w.some d s e q y a in
        record {
          active = λ i l u. active-kept b.vlenb d e.masked i s.registers (spared i u).mask;
          offset = λ i l u. (spared i u).vs2 s.registers;
        }

    change-later : Untouched b word s d → (c : Change) → Untouched b word s c → Untouched b word (with_change d s) c
    change-later u c =
        untouched-later b s (with_change d s) (le_refl _) word c (plan-same b word s d u.scalars)
        (plan-later (plan_at b word s) h (contained-at b w word s h) u.registers)

  -- after a list of changes, where the word is legal
  record Changed (s : State) (cs : List Change) : Type 0 where
    turns : (n : ℕ) → turn_of b word n (with_changes cs s) ≡ followed_by cs (turn_of b word n s)
    later : (ds : List Change) → AllUntouched s ds → AllUntouched (with_changes cs s) ds

  changed : (s : State) (cs : List Change) → rejection_in s ≡ none → AllUntouched s cs → Changed s cs
  unfolding with_changes
  changed s [] h u = record { turns = λ n. refl; later = λ ds v. v }
  changed s (c ∷ cs) h u =
      let s' : State = with_change c s in
      let next = change-later s h c u.0 in
      let more = changed s' cs (rejection-changed s c u.0.scalars ∙ h) (all-later s s' next cs u.1) in
      record {
        turns = λ n. more.turns n ∙ ap (followed_by cs) (turn-kept b w word s c u.0 n);
        later = λ ds v. more.later ds (all-later s s' next ds v);
      }

  -- and where it is not
  rejected-changed : (s : State) (cs : List Change) (a : Answer) (n : ℕ) → rejection_in s ≡ some a → All Unnamed cs
      → turn_of b word n (with_changes cs s) ≡ followed_by cs (turn_of b word n s)
  rejected-changed s cs a n h x =
      rejected-turn (with_changes cs s) a n (rejection-changes s cs x ∙ h) ∙ sym (ap (followed_by cs) (rejected-turn s a n h))

  turn-changed : (s : State) (cs : List Change) (n : ℕ) → AllUntouched s cs
      → turn_of b word n (with_changes cs s) ≡ followed_by cs (turn_of b word n s)
  turn-changed s cs n u = go (rejection_in s) refl where
    go : (x : Option Answer) → rejection_in s ≡ x → turn_of b word n (with_changes cs s) ≡ followed_by cs (turn_of b word n s)
    go (some a) e = rejected-changed s cs a n e (none_named s cs u)
    go none e = (changed s cs e u).turns n

  -- ---- after a turn that does not finish

  turn-later : (s : State) (n : ℕ) (r : List ℕ) (cs : List Change) → rejection_in s ≡ none → ((turn_of b word n s).answer ≡ Finished → ⊥)
      → AllUntouched s cs → AllUntouched (with_rights r (turn_of b word n s).after) cs
  unfolding turn_of
  turn-later s n r cs h u =
      let p : Plan = plan_at b word s in
      let unended : (ran_of b p n s).ending ≡ finished → ⊥ = λ z. u (ap answer_of z) in
      let possible = possible-apart b s.control (facts b p s.rights (core_of s) s.control.vstart h).acceptable.possible in
      let sound = plan-sound b s.scalars s.control (decode_of word) w possible (fits word) in
      let on = turn-onward b p sound (turn_with b p s.rights n) (point_of b p s) unended in
      let s' : State = with_rights r (plan_turn b p n s).after in
      all-later s s' (λ c. untouched-later b s s' on.vstart word c (following-plan b p word n s r refl unended) on.later) cs

  -- ---- a word that is rejected stays so: no page is opened after a rejection, and no change is seen

  rejecting : (s : State) (a : Answer) → rejection_in s ≡ some a → changes_nothing a ≡ true
  rejecting s a h = subst Rejecting h (rejection-rejects b (plan_at b word s) s.rights (core_of s) s.control.vstart)

  same-rights : (a : Answer) (r r' : List ℕ) → changes_nothing a ≡ true → (r' ≡ r) ⊎ ((is_trap a ≡ true) × Opened r r') → r' ≡ r
  same-rights a r r' k (inl e) = e
  same-rights a r r' k (inr h) =
      absurd (apart (λ t. t) (changes_nothing a && is_trap a) false (rw (k, h.0)) refl (nothing-traps a))

  rejected-always : (s : State) (a : Answer) (n : ℕ) (us : List Resumed) → rejection_in s ≡ some a → ProceedsResumed b word s n us
      → All Unnamed (all_changes us) → (resumed_turns b word s n us).answer ≡ a
  unfolding resumed_turns
  rejected-always s a n [] h q x = ap (λ (o : Outcome). o.answer) (rejected-turn s a n h)
  rejected-always s a n (u ∷ us) h q x =
      let e : turn_of b word n s ≡ untouched a s = rejected-turn s a n h in
      let r : u.next.rights ≡ s.rights =
      same-rights a s.rights u.next.rights (rejecting s a h) (subst (λ (o : Outcome). Between o u.next) e q.1.1.0) in
      let again : rejection_in (resumed_state u s) ≡ some a =
      ap (λ (z : List ℕ). rejection_in (with_rights z (with_changes u.changes s))) (r ∙ sym (changes-rights u.changes s))
      ∙ rejection-changes s u.changes (all_first Unnamed u.changes (all_changes us) x) ∙ h in
      ap (λ (o : Outcome). (resumed_turns b word (resumed_state u o.after) u.next.allowance us).answer) e
      ∙ rejected-always (resumed_state u s) a u.next.allowance us again
      (subst (λ (o : Outcome). ProceedsResumed b word (resumed_state u o.after) u.next.allowance us) e q.1.1.1)
      (all_rest Unnamed u.changes (all_changes us) x)

  finished-legal : (s : State) (n : ℕ) (us : List Resumed) → ProceedsResumed b word s n us → All Unnamed (all_changes us)
      → (resumed_turns b word s n us).answer ≡ Finished → rejection_in s ≡ none
  finished-legal s n us q x f = go (rejection_in s) refl where
    go : (r : Option Answer) → rejection_in s ≡ r → rejection_in s ≡ none
    go (some a) e = absurd (apart changes_nothing a Finished (rejecting s a e) refl (sym (rejected-always s a n us e q x) ∙ f))
    go none e = e

  -- ---- all changes before the first turn

  record Front (s : State) (n : ℕ) (us : List Resumed) : Type 0 where
    proceeds : Proceeds b word (with_changes (all_changes us) s) n (turns_alone us)
    same : turns_of b word (with_changes (all_changes us) s) n (turns_alone us) ≡ resumed_turns b word s n us

  front : (s : State) (n : ℕ) (us : List Resumed) → ProceedsResumed b word s n us → AllUntouched s (all_changes us)
      → (resumed_turns b word s n us).answer ≡ Finished → Front s n us
  unfolding turns_of resumed_turns with_changes
  front s n [] q u f = record { proceeds = q; same = refl }
  front s n (v ∷ us) q u f =
      let o : Outcome = turn_of b word n s in
      let r : List ℕ = v.next.rights in
      let s₁ : State = with_rights r o.after in
      let rest : List Change = all_changes us in
      let all : List Change = v.changes ++ rest in
      let resumed : State = resumed_state v o.after in
      let names = none_named s all u in
      let legal : rejection_in s ≡ none = finished-legal s n (v ∷ us) q names f in
      let moved : with_changes v.changes s₁ ≡ resumed = sym (rights-changes v.changes r o.after) in
      let untouched₁ : AllUntouched s₁ all = turn-later s n r all legal q.1.0 u in
      let legal₁ : rejection_in s₁ ≡ none =
      sym (rejection-changes s₁ v.changes (all_first Unnamed v.changes rest names)) ∙ ap rejection_in moved
      ∙ finished-legal resumed v.next.allowance us q.1.1.1 (all_rest Unnamed v.changes rest names) f in
      let later : AllUntouched resumed rest =
      subst (λ (z : State). AllUntouched z rest) moved
      ((changed s₁ v.changes legal₁ (all_first (Untouched b word s₁) v.changes rest untouched₁)).later rest
      (all_rest (Untouched b word s₁) v.changes rest untouched₁)) in
      let more : Front resumed v.next.allowance us = front resumed v.next.allowance us q.1.1.1 later f in
      let first : turn_of b word n (with_changes all s) ≡ followed_by all o = turn-changed s all n u in
      let here : with_changes rest resumed ≡ with_rights r (followed_by all o).after =
      ap (with_changes rest) (sym moved) ∙ sym (changes-both v.changes rest s₁) ∙ sym (rights-changes all r o.after) in
      record {
        proceeds =
            subst (λ (x : Outcome). (n < 2 ^ 32) × ((x.answer ≡ Finished → ⊥) × (Between x v.next
            × Proceeds b word (with_rights r x.after) v.next.allowance (turns_alone us)))) (sym first) (
              q.0,
              (
                q.1.0,
                (
                  subst (λ (z : List ℕ). (r ≡ z) ⊎ ((is_trap o.answer ≡ true) × Opened z r)) (sym (changes-rights all o.after))
                      q.1.1.0,
                  subst (λ (z : State). Proceeds b word z v.next.allowance (turns_alone us)) here more.proceeds,
                ),
              ),
            );
        same =
            ap (λ (x : Outcome). joined x (turns_of b word (with_rights r x.after) v.next.allowance (turns_alone us))) first
            ∙ ap (λ (z : State). joined o (turns_of b word z v.next.allowance (turns_alone us))) (sym here)
            ∙ ap (joined o) more.same;
      }

  -- ---- the theorem

  uncut-changed : (n : ℕ) (s : State) (us : List Resumed) → ProceedsResumed b word s n us
      → any_of (touches b word s) (all_changes us) ≡ false → (resumed_turns b word s n us).answer ≡ Finished
      → resumed_turns b word s n us
      ≡ followed_by (all_changes us) (turn_of b word (2 ^ 32 - 1) (with_rights (last_rights s.rights (turns_alone us)) s))
  uncut-changed n s us q t f =
      let all : List Change = all_changes us in
      let u : AllUntouched s all = all-untouched s all t in
      let moved = front s n us q u f in
      let last : List ℕ → List ℕ = λ r. last_rights r (turns_alone us) in
      let r : List ℕ = last s.rights in
      sym moved.same
      ∙ sym ((demand-3 b w).uncut word n (with_changes all s) (turns_alone us) moved.proceeds
      (ap (λ (o : Outcome). o.answer) moved.same ∙ f))
      ∙ ap (λ (z : List ℕ). turn_of b word (2 ^ 32 - 1) (with_rights (last z) (with_changes all s))) (changes-rights all s)
      ∙ ap (turn_of b word (2 ^ 32 - 1)) (rights-changes all r s)
      ∙ turn-changed (with_rights r s) all (2 ^ 32 - 1) (rights-later s r all u)

unchanged-turns : (b : Board) (word n : ℕ) (s : State) (us : List Next)
    → resumed_turns b word s n (without_changes us) ≡ turns_of b word s n us
unfolding turns_of resumed_turns with_changes
unchanged-turns b word n s [] = refl
unchanged-turns b word n s (u ∷ us) =
    ap (joined (turn_of b word n s)) (unchanged-turns b word u.allowance (with_rights u.rights (turn_of b word n s).after) us)

-- ---- demand 3 is the case with no changes: it follows from the theorem alone

no-changes : (us : List Next) → all_changes (without_changes us) ≡ []
no-changes [] = refl
no-changes (u ∷ us) = no-changes us

same-turns : (us : List Next) → turns_alone (without_changes us) ≡ us
same-turns [] = refl
same-turns (u ∷ us) = ap (λ (vs : List Next). u ∷ vs) (same-turns us)

unchanged-proceeds : (b : Board) (word n : ℕ) (s : State) (us : List Next) → Proceeds b word s n us
    → ProceedsResumed b word s n (without_changes us)
unfolding with_changes
unchanged-proceeds b word n s [] h = h
unchanged-proceeds b word n s (u ∷ us) h =
    let s' : State = with_rights u.rights (turn_of b word n s).after in
    (h.0, (h.1.0, (h.1.1.0, unchanged-proceeds b word u.allowance s' us h.1.1.1)))

pub without-changes : (b : Board) → ChangesFollow b → (word n : ℕ) (s : State) (us : List Next) → Proceeds b word s n us
    → (turns_of b word s n us).answer ≡ Finished
    → turn_of b word (2 ^ 32 - 1) (with_rights (last_rights s.rights us) s) ≡ turns_of b word s n us
unfolding with_changes
without-changes b f word n s us h e =
    let same : resumed_turns b word s n (without_changes us) ≡ turns_of b word s n us = f.unchanged word n s us in
    let uncut : List Change → List Next → Outcome =
    λ cs vs. followed_by cs (turn_of b word (2 ^ 32 - 1) (with_rights (last_rights s.rights vs) s)) in
    sym (sym same
    ∙ f.uncut word n s (without_changes us) (unchanged-proceeds b word n s us h)
    (ap (any_of (touches b word s)) (no-changes us)) (ap (λ (o : Outcome). o.answer) same ∙ e)
    ∙ ap₂ uncut (no-changes us) (same-turns us))

pub changes-follow-on : (b : Board) → Valid b → ChangesFollow b
unfolding with_changes
changes-follow-on b w = record {
  uncut = λ word. uncut-changed b w word;
  unchanged = unchanged-turns b;
  one-turn = λ word n s c h. turn-kept b w word s c (Untouched.untouched b word s c h) n;
}

-- with no premise left, on the two boards that there are
pub changes-follow : ChangesFollow base
changes-follow = changes-follow-on base base-valid

pub small-changes-follow : ChangesFollow small
small-changes-follow = changes-follow-on small small-valid
