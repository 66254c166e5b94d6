-- What the access check says beforehand of the turn holds of the definition, on every board that the machine is for.
use Prim.Native.Nat.{ℕ, ◌-◌, ◌^◌, ◌≤◌, min}
use mathlib.Core.Path.{◌≡◌, refl, sym, ap, subst}
use mathlib.Core.Bool.{Bool, true, false}
use mathlib.Core.Option.{Option, none, some}
use native.Mathlib.Omega.{arith}
use lib.ListN.{length}
use lib.Dec.{T}
use Rattle.laws.proofs.Apart.{both_left}
use Rattle.laws.proofs.Chain.{either}
use Rattle.answer.specs.declared.Answer.{Answer}
use Rattle.answer.specs.declared.Answer.TheVariants.{Finished, Paused, Illegal}
use Rattle.control.specs.declared.Board.{Board}
use Rattle.control.specs.Board.{Valid, base, small}
use Rattle.control.proofs.Laws.{base-valid, small-valid, Possible, possible-apart}
use Rattle.decode.specs.Word.{decode_of}
use Rattle.decode.proofs.Fields.{fits}
use Rattle.access.specs.declared.FaultPlace.{FaultPlace}
use Rattle.access.specs.Access.{nothing_wanted}
use Rattle.plan.specs.declared.Transfer.{Transfer}
use Rattle.plan.specs.declared.Plan.{Plan}
use Rattle.plan.specs.declared.Plan.TheVariants as P
use Rattle.turn_theory.specs.Turn.{Semantics, paused, Point, Turn, remaining, answered, legal, turn}
use Rattle.turn_theory.proofs.Laws.{turn-cases}
use Rattle.machine.specs.State.{State, Outcome, core_of}
use Rattle.machine.specs.Effect.{active_of}
use Rattle.machine.specs.Machine.{rejection_at, semantics_of, answer_of, outcome_of, end_of, plan_at, turn_of}
use Rattle.machine.specs.Demands.{is_trap, changes_nothing}
use Rattle.machine.proofs.PlanFacts.{plan-sound}
use Rattle.machine.proofs.Lawful.{facts, lawful}
use Rattle.machine.proofs.Demands.{apart, turn_with, point_of, answer-cases, counted}
use Rattle.machine.proofs.FaultPages.{never_both, fault-pages}
use Rattle.element_loop.specs.Runnable.{Runnable}
use Rattle.unit_stride.specs.declared.Checked.{Checked}
use Rattle.unit_stride.proofs.FewPages.{found, at_most_two}
use Rattle.access_check.specs.AccessCheck.{is_unit_stride, plan_pages, nothing_tested, access_check_of}
use Rattle.access_check.specs.Foretold.{Foretold}
use Rattle.access_check.proofs.CheckLaws.{rejected-with, other-check, tested-check}
use Rattle.access_check.proofs.WordLaws.{PlanUnit, plan-unit, is-packed}

-- ---- two turns of which each may pass all that remains

module _ (I : Semantics) (r : I.Rights) (m n : ℕ) (p : Point I) where
  abbrev allowed : ℕ → Turn I
  allowed k = record { rights = r; allowance = k }

  same_turn : (I.rejection r p.state p.vstart ≡ none → remaining I p ≤ m) → remaining I p ≤ n
      → turn I (allowed m) p ≡ turn I (allowed n) p
  unfolding turn
  same_turn h l = go (I.rejection r p.state p.vstart) refl
    where
      go : (x : Option I.Rejection) → I.rejection r p.state p.vstart ≡ x
          → answered I x p (legal I r p (min m (remaining I p))) ≡ answered I x p (legal I r p (min n (remaining I p)))
      go (some x) e = refl
      go none e = let q : min m (remaining I p) ≡ min n (remaining I p) = omega (arith, h e) in rw q

module _ (b : Board) (w : Valid b) (word : ℕ) (s : State) where
  abbrev plan : Plan
  plan = plan_at b word s

  abbrev J : Semantics
  J = semantics_of b plan

  abbrev rejection : Plan → Option Answer
  rejection p = rejection_at b p s.rights (core_of s) s.control.vstart

  possible : rejection plan ≡ none → Possible b s.control
  possible h = possible-apart b s.control (facts b plan s.rights (core_of s) s.control.vstart h).acceptable.possible

  -- no more elements remain than an uncut turn may pass
  few : rejection plan ≡ none → remaining J (point_of b plan s) ≤ 2 ^ 32 - 1
  few h =
      let sound = plan-sound b s.scalars s.control (decode_of word) w (possible h) (fits word) in
      omega (arith, (lawful b w plan sound).bounded s.rights (core_of s) s.control.vstart h)

  uncut-same : (n : ℕ) → end_of plan - s.control.vstart ≤ n → turn_of b word n s ≡ turn_of b word (2 ^ 32 - 1) s
  unfolding turn_of
  uncut-same n e = ap (outcome_of b plan s.rights) (sym (same_turn J s.rights (2 ^ 32 - 1) n (point_of b plan s) few e))

  unpaused-end : (turn J (turn_with b plan s.rights (2 ^ 32 - 1)) (point_of b plan s)).ending ≡ paused → ⊥
  unpaused-end = turn-cases J (turn_with b plan s.rights (2 ^ 32 - 1)) (point_of b plan s) (λ o. o.ending ≡ paused → ⊥) (record {
    on-rejected = λ x e z. (let y : ◌≡◌ {A = ℕ} 0 1 = cc in omega arith);
    on-trapped = λ x k h l f e z. (let y : ◌≡◌ {A = ℕ} 0 1 = cc in omega arith);
    on-paused = λ k h l e f z. omega (arith, few h);
    on-finished = λ h l z. (let y : ◌≡◌ {A = ℕ} 0 1 = cc in omega arith);
  })

  unpaused-turn : (turn_of b word (2 ^ 32 - 1) s).answer ≡ Paused → ⊥
  unfolding turn_of
  unpaused-turn = answer-cases b plan (turn_with b plan s.rights (2 ^ 32 - 1)) (point_of b plan s)
      (λ o. (o.ending ≡ paused → ⊥) → answer_of o.ending ≡ Paused → ⊥)
      (λ a h f. apart changes_nothing a Paused h refl)
      (λ x k c h f. apart is_trap x.answer Paused (both_left (is_trap x.answer) _ h) refl)
      (λ c f e. f refl)
      (λ c f e. let y : ◌≡◌ {A = ℕ} 0 1 = cc in omega arith)
      unpaused-end

  -- the check by the outcome of the uncut turn
  abbrev o : Outcome
  o = turn_of b word (2 ^ 32 - 1) s

  by-outcome : (P : Checked → Type 0) → (changes_nothing o.answer ≡ true → P (nothing_tested o.answer))
      → (changes_nothing o.answer ≡ false → is_unit_stride (decode_of word) ≡ true
      → P (record {
        answer = o.answer;
        element = o.after.control.vstart;
        pages = plan_pages b s o plan;
        wanted = o.place.wanted;
      }))
      → (is_unit_stride (decode_of word) ≡ false → P (nothing_tested Illegal)) → P (access_check_of b word s)
  unfolding access_check_of
  by-outcome P f g h =
      either P (changes_nothing o.answer) _ _ f (λ t. either P (is_unit_stride (decode_of word)) _ _ (g t) h)

  finishes : (access_check_of b word s).answer ≡ Finished → (o.answer ≡ Finished) × ((access_check_of b word s).element ≡ 0)
  finishes = by-outcome (λ c. c.answer ≡ Finished → (o.answer ≡ Finished) × (c.element ≡ 0))
      (λ t e. absurd (apart changes_nothing o.answer Finished t refl e))
      (λ t u e. (e, ((counted b).remained word (2 ^ 32 - 1) s e).1))
      (λ u e. absurd (let y : ◌≡◌ {A = ℕ} 0 1 = cc in omega arith))

  traps : is_trap (access_check_of b word s).answer ≡ true
      → (o.answer ≡ (access_check_of b word s).answer)
      × ((o.after.control.vstart ≡ (access_check_of b word s).element) × (o.place.wanted ≡ (access_check_of b word s).wanted))
  traps = by-outcome
      (λ c. is_trap c.answer ≡ true
      → (o.answer ≡ c.answer) × ((o.after.control.vstart ≡ c.element) × (o.place.wanted ≡ c.wanted)))
      (λ t e. absurd (subst T (never_both o.answer) (rw (t, e) tt)))
      (λ t u e. (refl, (refl, refl)))
      (λ u e. absurd (subst T (sym e) tt))

  no-trap : is_trap (access_check_of b word s).answer ≡ false → (access_check_of b word s).wanted ≡ nothing_wanted
  no-trap = by-outcome (λ c. is_trap c.answer ≡ false → c.wanted ≡ nothing_wanted)
      (λ t e. refl)
      (λ t u e. ap (λ (p : FaultPlace). p.wanted) ((fault-pages b).no-trap word (2 ^ 32 - 1) s e))
      (λ u e. refl)

  unpaused : (access_check_of b word s).answer ≡ Paused → ⊥
  unpaused = by-outcome (λ c. c.answer ≡ Paused → ⊥)
      (λ t. apart changes_nothing o.answer Paused t refl)
      (λ t u. unpaused-turn)
      (λ u e. let y : ◌≡◌ {A = ℕ} 0 1 = cc in omega arith)

  same_answer : is_unit_stride (decode_of word) ≡ true → (access_check_of b word s).answer ≡ o.answer
  same_answer = by-outcome (λ c. is_unit_stride (decode_of word) ≡ true → c.answer ≡ o.answer)
      (λ t u. refl) (λ t u v. refl) (λ u v. absurd (subst T u (subst T (sym v) tt)))

  nothing : changes_nothing (access_check_of b word s).answer ≡ true
      → access_check_of b word s ≡ nothing_tested (access_check_of b word s).answer
  nothing = by-outcome (λ c. changes_nothing c.answer ≡ true → c ≡ nothing_tested c.answer)
      (λ t e. refl) (λ t u e. absurd (subst T t (subst T (sym e) tt))) (λ u e. refl)

  -- ---- at most two pages

  abbrev TwoPages : Type 0
  TwoPages = (access_check_of b word s).pages ≤ 2

  unit-pages : rejection plan ≡ none → is_unit_stride (decode_of word) ≡ true → TwoPages
  unit-pages h u =
      at-plan plan refl (plan-unit b s.scalars s.control w (possible h) (decode_of word) (fits word) u)
    where
      at-plan : (p : Plan) → plan ≡ p → PlanUnit b p → TwoPages
      at-plan P.Illegal q v = absurd v
      at-plan (P.OneTurn t) q v = absurd v
      at-plan (P.Elements e) q v =
          let legal : rejection (P.Elements e) ≡ none = subst (λ (p : Plan). rejection p ≡ none) q h in
          let runs : Runnable b s e = record { valid = w; word = decode_of word; fits = fits word; plan = q; is-legal = legal } in
          let t : Transfer = v.transfer in
          let packed = is-packed b s.registers s.scalars s.memory s.rights s.control e runs (decode_of word) (fits word) q u t
          v.stepping.action in
          let n : ℕ = e.end - s.control.vstart in
          let active = active_of b.vlenb s.registers e.masked in
          let r = found active s.rights (length s.memory) t s.control.vstart n in
          rw (← tested-check b s e t v.stepping legal (omega arith) word r.result q u r.tested)
          (at_most_two active s.rights (length s.memory) t s.control.vstart n packed r.result r.tested)

  two-pages : TwoPages
  two-pages = at-rejection (rejection plan) refl
    where
      at_unit : rejection plan ≡ none → (u : Bool) → is_unit_stride (decode_of word) ≡ u
          → TwoPages
      at_unit h true e = unit-pages h e
      at_unit h false e =
          by-outcome (λ c. c.pages ≤ 2) (λ t. omega arith) (λ t u. absurd (subst T e (subst T (sym u) tt))) (λ u. omega arith)

      at-rejection : (x : Option Answer) → rejection plan ≡ x → TwoPages
      at-rejection none h = at_unit h (is_unit_stride (decode_of word)) refl
      at-rejection (some a) h = rw (← rejected-with b word s a h) (omega arith)

pub foretold-on : (b : Board) → Valid b → Foretold b
foretold-on b w = record {
  finishes = λ word s. finishes b w word s;
  traps = λ word s. traps b w word s;
  no-trap = λ word s. no-trap b w word s;
  unpaused = λ word s. unpaused b w word s;
  same_answer = λ word s. same_answer b w word s;
  enough = λ word n s. uncut-same b w word s n;
  two-pages = λ word s. two-pages b w word s;
  other-words = λ word s h u. sym (other-check b word s h u);
  nothing = λ word s. nothing b w word s;
}

-- the board of document 01, whose check `access_check::check` promises
pub foretold : Foretold base
foretold = foretold-on base base-valid

-- the smaller board, whose check `access_check::check` promises at it
pub small-foretold : Foretold small
small-foretold = foretold-on small small-valid
