-- A turn of a word by the tests of the code: refused, illegal, of one turn, or of elements.
use Rattle.std.specs.Prelude.{Result, Ok, Err, ⊤}
use Rattle.std.specs.Array.{IsFirstChunk}
use Rattle.std.proofs.lemmas.List.{take_all, drop_all, append-nil}
use Prim.Native.Nat.{ℕ, ◌≤◌}
use mathlib.Core.Path.{◌≡◌, refl, sym, ap, ◌∙◌}
use mathlib.Core.Logic.{⊎_elim}
use mathlib.Core.Bool.{Bool, true, false, not, cond, and-false}
use mathlib.Core.List.{List, ◌++◌}
use mathlib.Core.Option.{none, some}
use native.Mathlib.Omega.{arith}
use lib.ListN.{length, drop}
use Rattle.answer.specs.declared.Answer.{Answer}
use Rattle.answer.specs.declared.Answer.TheVariants.{Finished, Illegal}
use Rattle.control.specs.declared.Board.{Board}
use Rattle.control.specs.declared.Control.{Control}
use Rattle.control.specs.Board.{Valid}
use Rattle.control.specs.Control.{with_vstart, dirtied, is_off}
use Rattle.control.specs.Vtype.{sew_of}
use Rattle.control.proofs.Laws.{Possible, possible-apart, typed-well-apart, supported-sew-le}
use Rattle.decode.specs.declared.Instruction.{Instruction}
use Rattle.decode.specs.Word.{decode_of}
use Rattle.decode.specs.Fields.{Fits}
use Rattle.decode.proofs.Fields as Decoded
use Rattle.access.specs.Access.{nowhere}
use Rattle.refusal.specs.Refusal.{refusal_of}
use Rattle.refusal.proofs.RefusalLaws.{accepted-facts}
use Rattle.plan.specs.declared.Elementwise.{Elementwise}
use Rattle.plan.specs.declared.OneTurn.{OneTurn}
use Rattle.plan.specs.declared.Plan.{Plan}
use Rattle.plan.specs.declared.Plan.TheVariants as P
use Rattle.plan.specs.Plan.{plan_of}
use Rattle.legality.specs.Legal.{kind_legal, legal_of, checked_of}
use Rattle.legality.proofs.LegalLaws.{one-turn-of-legal}
use Rattle.turn_theory.proofs.Laws.{turn-rejected, one-turn}
use Rattle.machine.specs.declared.Turned.{Turned}
use Rattle.machine.specs.State.{State, Outcome, Core, core_of}
use Rattle.machine.specs.Call.{given, left}
use Rattle.machine.specs.OneTurn.{one_turn_result}
use Rattle.machine.specs.Machine.{rejection_at, result_at, semantics_of, outcome_of, plan_turn, turn_of}
use Rattle.machine.proofs.Demands.{demand-1, result-vstart}
use Rattle.execute.specs.Step.{core_at}
use Rattle.element_loop.specs.Runnable.{Runnable}
use Rattle.one_turn.specs.Performable.{Performable}

-- ---- what an accepted state keeps to

module _ (b : Board) (registers scalars memory : ℕ) (rights : List ℕ) (c : Control) (v : Result ⊤ Answer)
    (q : v ≡ refusal_of b registers scalars memory rights c) (h : v ≡ Ok tt) where
  accepted : refusal_of b registers scalars memory rights c ≡ Ok tt
  accepted = sym q ∙ h

  pub accepted-possible : Possible b c
  accepted-possible = possible-apart b c (accepted-facts b registers scalars memory rights c accepted).possible

  pub accepted-scalars : scalars ≡ 32
  accepted-scalars = (accepted-facts b registers scalars memory rights c accepted).scalars-length

  pub accepted-rights : length rights ≡ 256
  accepted-rights = (accepted-facts b registers scalars memory rights c accepted).rights-length

  -- with vill set, SEW by its bits is 8
  pub accepted-sew : Valid b → sew_of c.vtype ≤ 64
  accepted-sew w =
      ⊎_elim (λ e. rw e.0 (omega arith)) (λ e. supported-sew-le b c.vtype w e.0) (typed-well-apart b c accepted-possible.typed)

  pub accepted-vl : Valid b → c.vl ≤ 128
  accepted-vl w = omega (arith, accepted-possible.vl, w.most)

-- the array that is lent of 32 scalars is all of them, and what is left in it is all that is left
module _ (x : List ℕ) (l : length x ≡ 32) where
  pub all-lent : (y : List ℕ) → IsFirstChunk x y 32 → y ≡ x
  all-lent y h = h.same ∙ take_all 32 x (omega (arith, l))

  pub all-left : (y : List ℕ) → y ++ drop 32 x ≡ y
  all-left y = rw (drop_all 32 x (omega (arith, l))) (append-nil y)

pub decoded-fits : (word : ℕ) (d : Instruction) → d ≡ decode_of word → Fits d
decoded-fits word d e = rw e (Decoded.fits word)

-- ---- the plan that was checked: illegal, or legal and the word's own

module _ (b : Board) (c : Control) where
  pub illegal-checked : (p : Plan) → checked_of b c p ≡ P.Illegal → legal_of b c p ≡ false
  unfolding legal_of kind_legal
  illegal-checked P.Illegal h = and-false (not (is_off c))
  illegal-checked (P.OneTurn t) h = go (legal_of b c (P.OneTurn t)) h
    where
      go : (l : Bool) → cond l (P.OneTurn t) P.Illegal ≡ P.Illegal → l ≡ false
      go true h = cc
      go false h = refl
  illegal-checked (P.Elements e) h = go (legal_of b c (P.Elements e)) h
    where
      go : (l : Bool) → cond l (P.Elements e) P.Illegal ≡ P.Illegal → l ≡ false
      go true h = cc
      go false h = refl

  -- q is not `Illegal`
  legal-checked : (p q : Plan) → checked_of b c p ≡ q → (P.Illegal ≡ q → ⊥) → (p ≡ q) × (legal_of b c q ≡ true)
  legal-checked p q h n = go (legal_of b c p) refl h
    where
      go : (l : Bool) → legal_of b c p ≡ l → cond l p P.Illegal ≡ q → (p ≡ q) × (legal_of b c q ≡ true)
      go true e h = (h, ap (legal_of b c) (sym h) ∙ e)
      go false e h = absurd (n h)

-- a plan that was checked, in the arm of the match
module _ (b : Board) (x : List ℕ) (c : Control) (d : Instruction) (p : Plan) (h : p ≡ checked_of b c (plan_of b x c d)) where
  pub one-turn-planned : (t : OneTurn) → p ≡ P.OneTurn t → (plan_of b x c d ≡ P.OneTurn t) × (legal_of b c (P.OneTurn t) ≡ true)
  one-turn-planned t e = legal-checked b c (plan_of b x c d) (P.OneTurn t) (sym h ∙ e) (λ f. let z : ◌≡◌ {A = ℕ} 0 1 = cc in omega arith)

  pub elements-planned : (e : Elementwise) → p ≡ P.Elements e → (plan_of b x c d ≡ P.Elements e) × (legal_of b c (P.Elements e) ≡ true)
  elements-planned e q = legal-checked b c (plan_of b x c d) (P.Elements e) (sym h ∙ q) (λ f. let z : ◌≡◌ {A = ℕ} 0 1 = cc in omega arith)

-- what the turn of an instruction that takes one turn relies on, of an accepted state
pub one-turn-performable : (b : Board) (word registers memory : ℕ) (x rights : List ℕ) (c : Control) (v : Result ⊤ Answer) (d : Instruction)
    (p : Plan) (t : OneTurn) → Valid b → v ≡ refusal_of b registers (length x) memory rights c → v ≡ Ok tt → d ≡ decode_of word
    → p ≡ checked_of b c (plan_of b x c d) → p ≡ P.OneTurn t → Performable b registers x c t
one-turn-performable b word registers memory x rights c v d p t w q h k u e =
    let y = one-turn-planned b x c d p u t e in
    let a = accepted-facts b registers (length x) memory rights c (sym q ∙ h) in
    record {
      valid = w;
      registers = a.registers-length;
      possible = a.possible;
      word = d;
      fits = decoded-fits word d k;
      plan = y.0;
      is-legal = one-turn-of-legal b c t y.1;
    }

-- ---- a turn by what the state comes to

-- no element is passed
abbrev still : Answer → Control → Turned
still a c = record { answer = a; passed = 0; place = nowhere; control = c }

module _ (b : Board) (word : ℕ) (file x memory rights : List ℕ) (c : Control) where
  abbrev before : State
  before = given file x memory rights c

  pub refused-word : (n : ℕ) (v : Result ⊤ Answer) (a : Answer) (r : Turned)
      → v ≡ refusal_of b (length file) (length x) (length memory) rights c → v ≡ Err a
      → r ≡ still a c → left r file x memory rights ≡ turn_of b word n before
  refused-word n v a r q h e = ap (λ (t : Turned). left t file x memory rights) e ∙ sym ((demand-1 b).refuses word n before a (sym q ∙ h))

  module _ (v : Result ⊤ Answer) (d : Instruction) (p : Plan) (q : v ≡ refusal_of b (length file) (length x) (length memory) rights c)
      (h : v ≡ Ok tt) (k : d ≡ decode_of word) (u : p ≡ checked_of b c (plan_of b x c d)) where
    -- the word's plan is w
    planned-turn : (n : ℕ) (w : Plan) (o : Outcome) → plan_of b x c d ≡ w → o ≡ plan_turn b w n before → o ≡ turn_of b word n before
    unfolding turn_of
    planned-turn n w o e f = f ∙ ap (λ (z : Plan). plan_turn b z n before) (sym e ∙ ap (plan_of b x c) k)

    rejection-is : (w : Plan) (l : Bool) → legal_of b c w ≡ l
        → rejection_at b w rights (core_of before) c.vstart ≡ cond l none (some Illegal)
    unfolding rejection_at
    rejection-is w l e = rw (sym q ∙ h, e)

    pub illegal-word : (n : ℕ) (r : Turned) → p ≡ P.Illegal → r ≡ still Illegal c → left r file x memory rights ≡ turn_of b word n before
    illegal-word n r e f =
        let w : Plan = plan_of b x c d in
        planned-turn n w (left r file x memory rights) refl
        (ap (λ (t : Turned). left t file x memory rights) f
        ∙ sym (ap (outcome_of b w rights)
        (turn-rejected (semantics_of b w) _ _ Illegal (rejection-is w false (illegal-checked b c w (sym u ∙ e))))))

    pub one-turn-word : (n : ℕ) (t : OneTurn) (file' x' : List ℕ) (next : Control) (r : Turned) → p ≡ P.OneTurn t
        → ((m : List ℕ) → core_at file' m x' next ≡ one_turn_result b t c.vstart (core_at file m x (with_vstart c 0)))
        → r ≡ still Finished (dirtied next)
        → left r file' x' memory rights ≡ turn_of b word n before
    one-turn-word n t file' x' next r e m f =
        let w : Plan = P.OneTurn t in
        let y = one-turn-planned b x c d p u t e in
        let z : core_at file' memory x' next ≡ result_at b w c.vstart (core_of before) = m memory in
        let i : next.vstart ≡ 0 = ap (λ (s : Core). s.control.vstart) z ∙ result-vstart b w c.vstart (core_of before) refl in
        planned-turn n w (left r file' x' memory rights) y.0
        (ap (λ (t : Turned). left t file' x' memory rights) f
        ∙ ap (λ (v : ℕ). left (still Finished (dirtied (with_vstart next v))) file' x' memory rights) i
        ∙ ap (λ (s : Core). left (still Finished (dirtied (with_vstart s.control 0))) s.registers s.scalars s.memory rights) z
        ∙ sym (ap (outcome_of b w rights) (one-turn (semantics_of b w) _ _ (rejection-is w true y.1) refl)))

    pub elements-runnable : (e : Elementwise) → Valid b → p ≡ P.Elements e → Runnable b before e
    elements-runnable e w f =
        let y = elements-planned b x c d p u e f in
        record { valid = w; word = d; fits = decoded-fits word d k; plan = y.0; is-legal = rejection-is (P.Elements e) true y.1 }

    pub elements-word : (n : ℕ) (e : Elementwise) (o : Outcome) → p ≡ P.Elements e → o ≡ plan_turn b (P.Elements e) n before
        → o ≡ turn_of b word n before
    elements-word n e o f = planned-turn n (P.Elements e) o (elements-planned b x c d p u e f).0
