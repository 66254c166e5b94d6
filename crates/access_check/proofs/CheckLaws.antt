-- From the test of each element to the definition of the check: what an uncut turn answers where no element faults, and where one does.
use Rattle.std.specs.Prelude.{Result, Ok, Err, ⊤}
use Prim.Native.Nat.{ℕ, zero, ◌+◌, ◌-◌, ◌^◌, ◌≤◌, ◌<◌, min}
use mathlib.Core.Path.{◌≡◌, refl, sym, ap, subst, ◌∙◌}
use mathlib.Core.Bool.{Bool, true, false, cond}
use mathlib.Core.List.{List}
use mathlib.Core.Option.{none, some}
use native.Mathlib.Omega.{arith}
use native.Mathlib.Nat.{add-zero}
use lib.ListN.{length}
use borrow.Author.Tests.{lt-ltb, not-true}
use Rattle.laws.proofs.Apart.{both_left, both_right}
use Rattle.answer.specs.declared.Answer.{Answer}
use Rattle.answer.specs.declared.Answer.TheVariants.{Illegal}
use Rattle.control.specs.declared.Board.{Board}
use Rattle.decode.specs.Word.{decode_of}
use Rattle.access.specs.declared.Fault.{Fault}
use Rattle.access.specs.Access.{access_of, field_address, or_next, fields_access}
use Rattle.refusal.specs.Refusal.{refusal_of}
use Rattle.plan.specs.declared.Read.TheVariants as R
use Rattle.plan.specs.declared.Action.TheVariants as A
use Rattle.plan.specs.declared.Transfer.{Transfer}
use Rattle.plan.specs.declared.Elementwise.{Elementwise}
use Rattle.plan.specs.declared.Plan.{Plan}
use Rattle.plan.specs.declared.Plan.TheVariants as P
use Rattle.legality.specs.Legal.{legal_of}
use Rattle.turn_theory.specs.Turn.{inactive, fault, write, faults, Semantics, trapped, rejected, Point, TurnEnd}
use Rattle.turn_theory.specs.Turn.{Turn, clean, remaining, passing, turn}
use Rattle.turn_theory.proofs.Laws.{clean-exact, done, runs_done, turn-cases, turn-rejected}
use Rattle.machine.specs.State.{State, Outcome, Core, core_of}
use Rattle.machine.specs.Effect.{Write, active_of, value_of, element_address, if_granted, acting_of, effect_of}
use Rattle.machine.specs.Machine.{rejection_at, semantics_of, answer_of, plan_turn, plan_at, turn_of}
use Rattle.machine.specs.Demands.{is_trap, changes_nothing}
use Rattle.machine.proofs.Demands.{turn_with, point_of, answer-cases}
use Rattle.execute.specs.Step.{check_of}
use Rattle.element_loop.proofs.LoopLaws.{check-fault, check-granted}
use Rattle.unit_stride.specs.declared.Checked.{Checked}
use Rattle.access_check.specs.AccessCheck.{is_unit_stride, pages_tested, nothing_tested, access_check_of}
use Rattle.unit_stride.specs.Tested.{test_of, Tested, none-faults, first-faults}

-- ---- the effect of an element is what its access test says

-- a plan without offsets and segments, which moves by t
pub record Stepping (e : Elementwise) (t : Transfer) : Type 0 where
  pub offset : e.vs2 ≡ R.Constant 0
  pub single : e.dest.nf ≡ 0
  pub action : e.action ≡ A.Transfer t

granted-check : (v : Result ⊤ Fault) (l : List Write) → check_of (if_granted v (write l)) ≡ v
granted-check (Ok tt) l = refl
granted-check (Err f) l = refl

or-granted : (v : Result ⊤ Fault) → or_next v (Ok tt) ≡ v
or-granted (Ok tt) = refl
or-granted (Err f) = refl

module _ (b : Board) (rights : List ℕ) (s : Core) (e : Elementwise) (t : Transfer) (u : Stepping e t) (i : ℕ) where
  one_field : fields_access rights (length s.memory) t.store (element_address t i 0) t.bytes 0 1
      ≡ access_of rights (length s.memory) t.store (element_address t i 0) t.bytes
  unfolding fields_access
  one_field =
      let z : field_address (element_address t i 0) t.bytes 0 ≡ element_address t i 0 = omega arith in
      or-granted _ ∙ ap (λ (a : ℕ). access_of rights (length s.memory) t.store a t.bytes) z

  acting-check : check_of (acting_of b rights s e i e.action)
      ≡ access_of rights (length s.memory) t.store (element_address t i 0) t.bytes
  unfolding acting_of value_of
  acting-check = rw (u.action, u.offset, u.single) (granted-check _ _ ∙ one_field)

  pub effect-test : check_of (effect_of b rights s e i)
      ≡ test_of (active_of b.vlenb s.registers e.masked) rights (length s.memory) t i
  unfolding effect_of
  effect-test = go (active_of b.vlenb s.registers e.masked i)
    where
      go : (p : Bool) → check_of (cond p (acting_of b rights s e i e.action) inactive)
          ≡ cond p (access_of rights (length s.memory) t.store (element_address t i 0) t.bytes) (Ok tt)
      go true = acting-check
      go false = refl

-- ---- an uncut turn that a fault stops

module _ (I : Semantics) (t : Turn I) (p : Point I) where
  -- whatever is written until then
  trapped-at : (k : ℕ) (x : I.Fault) → I.rejection t.rights p.state p.vstart ≡ none → remaining I p ≤ t.allowance
      → k < remaining I p → ((j : ℕ) → p.vstart ≤ j → j < p.vstart + k → faults (I.effect t.rights p.state j) ≡ false)
      → I.effect t.rights p.state (p.vstart + k) ≡ fault x
      → turn I t p ≡ record { ending = trapped x; passed = k; after = record { state = passing I t.rights p k; vstart = p.vstart + k } }
  unfolding turn
  trapped-at k x h a l f q =
      let n : ℕ = remaining I p in
      let m : min t.allowance n ≡ n = omega arith in
      let z : clean I t.rights p.state p.vstart n ≡ k =
      clean-exact I t.rights p.state p.vstart n k l f (ap faults q) in
      rw (h, m, z, lt-ltb k n l, q)

-- ---- what the answers are

module _ (b : Board) (p : Plan) (t : Turn (semantics_of b p)) (q : Point (semantics_of b p)) where
  abbrev ended : TurnEnd (semantics_of b p)
  ended = turn (semantics_of b p) t q

  rejects : (a : Answer) → ended.ending ≡ rejected a → changes_nothing a ≡ true
  rejects a = answer-cases b p t q (λ o. o.ending ≡ rejected a → changes_nothing a ≡ true)
      (λ x h e. let z : x ≡ a = cc in subst (λ (y : Answer). changes_nothing y ≡ true) z h)
      (λ x k c h e. absurd (let z : ◌≡◌ {A = ℕ} 0 1 = cc in omega arith))
      (λ c e. absurd (let z : ◌≡◌ {A = ℕ} 0 1 = cc in omega arith))
      (λ c e. absurd (let z : ◌≡◌ {A = ℕ} 0 1 = cc in omega arith))

  traps : (x : Fault) → ended.ending ≡ trapped x → (is_trap x.answer ≡ true) × (changes_nothing x.answer ≡ false)
  traps x = answer-cases b p t q (λ o. o.ending ≡ trapped x → (is_trap x.answer ≡ true) × (changes_nothing x.answer ≡ false))
      (λ a h e. absurd (let z : ◌≡◌ {A = ℕ} 0 1 = cc in omega arith))
      (λ y k c h e.
      let z : y ≡ x = cc in
      subst (λ (w : Fault). (is_trap w.answer ≡ true) × (changes_nothing w.answer ≡ false)) z
      (both_left (is_trap y.answer) _ h, not-true _ (both_right (is_trap y.answer) _ h)))
      (λ c e. absurd (let z : ◌≡◌ {A = ℕ} 0 1 = cc in omega arith))
      (λ c e. absurd (let z : ◌≡◌ {A = ℕ} 0 1 = cc in omega arith))

  not-rejected : (semantics_of b p).rejection t.rights q.state q.vstart ≡ none → (a : Answer) → ended.ending ≡ rejected a → ⊥
  not-rejected h a = turn-cases (semantics_of b p) t q (λ o. o.ending ≡ rejected a → ⊥) (record {
    on-rejected = λ x e f. (let z : ◌≡◌ {A = ℕ} 0 1 = cc in omega arith);
    on-trapped = λ x k g l f e z. (let y : ◌≡◌ {A = ℕ} 0 1 = cc in omega arith);
    on-paused = λ k g l e f z. (let y : ◌≡◌ {A = ℕ} 0 1 = cc in omega arith);
    on-finished = λ g l z. (let y : ◌≡◌ {A = ℕ} 0 1 = cc in omega arith);
  })

  -- the answer of a turn that is not rejected
  legal-answer : (semantics_of b p).rejection t.rights q.state q.vstart ≡ none → changes_nothing (answer_of ended.ending) ≡ false
  legal-answer h =
      answer-cases b p t q (λ o. ((a : Answer) → o.ending ≡ rejected a → ⊥) → changes_nothing (answer_of o.ending) ≡ false)
      (λ a k f. absurd (f a refl))
      (λ x k c h f. not-true _ (both_right (is_trap x.answer) _ h))
      (λ c f. refl)
      (λ c f. refl)
      (not-rejected h)

-- ---- the check by what the state and the word come to

module _ (b : Board) (word : ℕ) (s : State) where
  abbrev uncut : Turn (semantics_of b (plan_at b word s))
  uncut = turn_with b (plan_at b word s) s.rights (2 ^ 32 - 1)

  abbrev from : Point (semantics_of b (plan_at b word s))
  from = point_of b (plan_at b word s) s

  pub rejected-with : (a : Answer) → rejection_at b (plan_at b word s) s.rights (core_of s) s.control.vstart ≡ some a
      → nothing_tested a ≡ access_check_of b word s
  unfolding access_check_of turn_of
  rejected-with a h =
      let e : turn (semantics_of b (plan_at b word s)) uncut from ≡ record { ending = rejected a; passed = zero; after = from } =
      turn-rejected (semantics_of b (plan_at b word s)) uncut from a h in
      let c : changes_nothing a ≡ true =
      rejects b (plan_at b word s) uncut from a (ap (λ (o : TurnEnd (semantics_of b (plan_at b word s))). o.ending) e) in
      rw (e, c)

  pub refused-check : (a : Answer)
      → refusal_of b (length s.registers) (length s.scalars) (length s.memory) s.rights s.control ≡ Err a
      → nothing_tested a ≡ access_check_of b word s
  unfolding rejection_at
  refused-check a h = rejected-with a (rw h)

  module _ (h : refusal_of b (length s.registers) (length s.scalars) (length s.memory) s.rights s.control ≡ Ok tt) where
    pub illegal-check : legal_of b s.control (plan_at b word s) ≡ false → nothing_tested Illegal ≡ access_check_of b word s
    unfolding rejection_at
    illegal-check l = rejected-with Illegal (rw (h, l))

    pub other-check : is_unit_stride (decode_of word) ≡ false → nothing_tested Illegal ≡ access_check_of b word s
    unfolding rejection_at access_check_of turn_of
    other-check u = go (legal_of b s.control (plan_at b word s)) refl
      where
        go : (l : Bool) → legal_of b s.control (plan_at b word s) ≡ l → nothing_tested Illegal ≡ access_check_of b word s
        go false e = illegal-check e
        go true e = rw (legal-answer b (plan_at b word s) uncut from (rw (h, e)), u)

module _ (b : Board) (s : State) (e : Elementwise) (t : Transfer) (u : Stepping e t)
    (legal : rejection_at b (P.Elements e) s.rights (core_of s) s.control.vstart ≡ none) (few : e.end ≤ 2 ^ 32 - 1) where
  abbrev J : Semantics
  J = semantics_of b (P.Elements e)

  abbrev the-turn : Turn J
  the-turn = turn_with b (P.Elements e) s.rights (2 ^ 32 - 1)

  abbrev the-point : Point J
  the-point = point_of b (P.Elements e) s

  abbrev active : ℕ → Bool
  active = active_of b.vlenb s.registers e.masked

  -- what the check gives of the outcome of the turn
  abbrev checked : Outcome → Checked
  checked o = record {
    answer = o.answer;
    element = o.after.control.vstart;
    pages = pages_tested b s o e e.action;
    wanted = o.place.wanted;
  }

  granted-effect : (i : ℕ) → test_of active s.rights (length s.memory) t i ≡ Ok tt
      → faults (effect_of b s.rights (core_of s) e i) ≡ false
  granted-effect i h = check-granted (effect_of b s.rights (core_of s) e i) (sym (effect-test b s.rights (core_of s) e t u i ∙ h))

  faulted-effect : (i : ℕ) (f : Fault) → test_of active s.rights (length s.memory) t i ≡ Err f
      → effect_of b s.rights (core_of s) e i ≡ fault f
  faulted-effect i f h = check-fault (effect_of b s.rights (core_of s) e i) f (sym (effect-test b s.rights (core_of s) e t u i ∙ h))

  -- an element by its distance from vstart
  from_start : (n : ℕ) → ((j : ℕ) → j < n → test_of active s.rights (length s.memory) t (s.control.vstart + j) ≡ Ok tt)
      → (i : ℕ) → s.control.vstart ≤ i → i < s.control.vstart + n → faults (effect_of b s.rights (core_of s) e i) ≡ false
  from_start n h i l m =
      let z : s.control.vstart + (i - s.control.vstart) ≡ i = omega arith in
      granted-effect i (subst (λ (k : ℕ). test_of active s.rights (length s.memory) t k ≡ Ok tt) z
      (h (i - s.control.vstart) (omega arith)))

  tested-checked : (r : Checked) → Tested active s.rights (length s.memory) t s.control.vstart (e.end - s.control.vstart) r
      → r ≡ checked (plan_turn b (P.Elements e) (2 ^ 32 - 1) s)
  unfolding pages_tested
  tested-checked _ (none-faults h) =
      let d : turn J the-turn the-point ≡ done J s.rights the-point =
      runs_done J the-turn the-point (record { is-legal = legal; no-fault = λ i l m. from_start _ h i l (omega arith) }) (omega arith) in
      rw (d, u.action, add-zero)
  tested-checked _ (first-faults k f l h q) =
      let d = trapped-at J the-turn the-point k f legal (omega arith) l (from_start k h) (faulted-effect _ f q) in
      let a = traps b (P.Elements e) the-turn the-point f (ap (λ (o : TurnEnd J). o.ending) d) in
      rw (d, u.action, a.0)

  pub tested-check : (word : ℕ) (r : Checked) → plan_at b word s ≡ P.Elements e → is_unit_stride (decode_of word) ≡ true
      → Tested active s.rights (length s.memory) t s.control.vstart (e.end - s.control.vstart) r
      → r ≡ access_check_of b word s
  unfolding access_check_of turn_of
  tested-check word r p i h =
      rw (p, i, legal-answer b (P.Elements e) the-turn the-point legal) (tested-checked r h)
