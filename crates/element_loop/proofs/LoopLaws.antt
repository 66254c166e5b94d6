-- From the loop over the elements to the definition of a turn: what the invariant says, and how each way out meets the contract.
use Rattle.std.specs.Prelude.{Result, Ok, Err}
use mathlib.Core.Path.{◌≡◌, refl, sym, ap, ◌∙◌, subst}
use mathlib.Core.Bool.{Bool, true, false, not, ◌||◌, cond}
use mathlib.Core.List.{List}
use Prim.Native.Nat.{ℕ, ◌+◌, ◌-◌, ◌*◌, ◌≤◌, ◌<◌, min}
use native.Mathlib.Omega.{arith}
use native.Mathlib.Decide.{dec_lt}
use lib.ListN.{length}
use lib.Dec.{ltb}
use borrow.Author.Tests.{lt-ltb, le-ltb}
use mir.Syntax.{w64}
use mir.Val.{Fits}
use Rattle.laws.proofs.Apart.{both_left, both_right}
use Rattle.answer.specs.declared.Answer.{Answer}
use Rattle.answer.specs.declared.Answer.TheVariants.{Finished, Paused}
use Rattle.control.specs.declared.Board.{Board}
use Rattle.control.specs.declared.Control.{Control}
use Rattle.control.specs.Control.{with_vstart, with_vxsat, dirtied}
use Rattle.control.proofs.Laws.{possible-apart}
use Rattle.layout.proofs.BytesLaws.{Bytes}
use Rattle.access.specs.declared.FaultPlace.{FaultPlace}
use Rattle.access.specs.declared.Fault.{Fault}
use Rattle.access.specs.Access.{nowhere}
use Rattle.plan.specs.declared.Action.{Action}
use Rattle.plan.specs.declared.Elementwise.{Elementwise}
use Rattle.plan.specs.declared.Plan.{Plan}
use Rattle.plan.specs.declared.Plan.TheVariants as P
use Rattle.legality.specs.Legal.{startable, is_there, elements_legal}
use Rattle.legality.proofs.LegalLaws.{elements-of-legal}
use Rattle.turn_theory.specs.Turn.{Effect, inactive, fault, write, faults, Semantics, Turn, Point, TurnEnd, apply, turn}
use Rattle.turn_theory.specs.Claims.{Lawful}
use Rattle.turn_theory.proofs.Laws.{Passed, passed_none, passed-more, passed-trap, passed-pause, passed-finish}
use Rattle.machine.specs.declared.Turned.{Turned}
use Rattle.machine.specs.State.{Core, State}
use Rattle.machine.specs.Call.{given, left}
use Rattle.machine.specs.Effect.{Write, effect_of}
use Rattle.machine.specs.Machine.{semantics_of, outcome_of, plan_turn}
use Rattle.machine.proofs.PlanFacts.{PlanSound, plan-sound}
use Rattle.machine.proofs.Lawful.{Facts, facts, elements-fit, lawful}
use Rattle.execute.specs.Step.{ActionFits, core_at, check_of, state_after, Did}
use Rattle.element_loop.specs.Runnable.{Runnable}
use Rattle.element_loop.specs.Step.{Steppable, Stepped}
use Rattle.element_loop.proofs.Readiness.{Prepared, prepared}

-- ---- checks and effects

pub check-fault : (f : Effect Fault (List Write)) (x : Fault) → Err x ≡ check_of f → f ≡ fault x
check-fault inactive x h = cc
check-fault (fault y) x h = let p : x ≡ y = cc in rw p
check-fault (write l) x h = cc

pub check-granted : (f : Effect Fault (List Write)) → Ok tt ≡ check_of f → faults f ≡ false
check-granted inactive h = refl
check-granted (fault y) h = cc
check-granted (write l) h = refl

-- the control record with another vstart and vxsat
abbrev besides : Control → ℕ → ℕ → Control
besides c vstart vxsat = with_vxsat (with_vstart c vstart) vxsat

-- the control record that a turn leaves
abbrev leaving : Control → ℕ → ℕ → Control
leaving c vstart vxsat = dirtied (besides c vstart vxsat)

pub ended_is : (answer : Answer) (passed vstart vxsat : ℕ) (place : FaultPlace) (c started saturated last : Control)
    → started ≡ with_vstart c vstart → saturated ≡ with_vxsat started vxsat → last ≡ dirtied saturated
    → ◌≡◌ {A = Turned} (record { answer = answer; passed = passed; place = place; control = last })
    (record { answer = answer; passed = passed; place = place; control = leaving c vstart vxsat })
ended_is answer passed vstart vxsat place c started saturated last p q r = rw (r, q, p)

-- an element that is passed leaves the state that the code does
applied : (b : Board) (p : Plan) (f : Effect Fault (List Write)) (s : Core) → state_after b.vlenb f s ≡ apply (semantics_of b p) f s
applied b p inactive s = refl
applied b p (fault y) s = refl
applied b p (write l) s = refl

-- ---- the loop

-- the index of an element that remains, by the number that it is below
pub index-fits : (a v k remaining : ℕ) → remaining ≡ a - v → k < remaining → Fits w64 a → Fits w64 (v + k)
index-fits a v k remaining u h f = record { fits = omega (arith, f.fits) }

pub next-index : (a v x k remaining most : ℕ) → remaining ≡ a - v → most ≡ min x remaining → k < most → Fits w64 a → Fits w64 (v + k)
next-index a v x k remaining most u m h f = index-fits a v k remaining u (omega arith) f

-- what a turn gives that no fault stops
abbrev stopped : ℕ → ℕ → Control → ℕ → Turned
stopped remaining passed c vxsat = record {
  answer = cond (ltb passed remaining) Paused Finished;
  passed = passed;
  place = nowhere;
  control = leaving c (cond (ltb passed remaining) (c.vstart + passed) 0) vxsat;
}

module _ (remaining passed vxsat : ℕ) (c : Control) (place : FaultPlace) (r : Turned) (p : place ≡ nowhere) where
  pub stops-paused : passed < remaining
      → r ≡ record { answer = Paused; passed = passed; place = place; control = leaving c (c.vstart + passed) vxsat }
      → r ≡ stopped remaining passed c vxsat
  stops-paused h q = q ∙ rw (p, lt-ltb passed remaining h)

  pub stops-finished : remaining ≤ passed → r ≡ record { answer = Finished; passed = passed; place = place; control = leaving c 0 vxsat }
      → r ≡ stopped remaining passed c vxsat
  stops-finished h q = q ∙ rw (p, le-ltb passed remaining h)

-- the state of the theory while the loop runs
abbrev core_now : List ℕ → Control → List ℕ → List ℕ → ℕ → Core
core_now scalars c registers memory vxsat = core_at registers memory scalars (besides c 0 vxsat)

module _ (b : Board) (e : Elementwise) (registers₀ scalars memory₀ rights : List ℕ) (c : Control) (allowance : ℕ) where
  abbrev J : Semantics
  J = semantics_of b (P.Elements e)

  abbrev the-turn : Turn J
  the-turn = record { rights = rights; allowance = allowance }

  abbrev the-point : Point J
  the-point = record { state = core_now scalars c registers₀ memory₀ c.vxsat; vstart = c.vstart }

  abbrev the-state : State
  the-state = given registers₀ scalars memory₀ rights c

  -- k elements have been passed
  pub record Going (k : ℕ) (registers memory : List ℕ) (vxsat : ℕ) : Type 0 where
    pub passed : Passed J the-turn the-point k (core_now scalars c registers memory vxsat)
    pub bytes : Bytes registers
    pub registers-length : length registers ≡ length registers₀
    pub memory-length : length memory ≡ length memory₀

  module _ (l : Runnable b the-state e) where
    pub the_facts : Facts b (P.Elements e) rights (core_now scalars c registers₀ memory₀ c.vxsat) c.vstart
    the_facts = facts b (P.Elements e) rights (core_now scalars c registers₀ memory₀ c.vxsat) c.vstart l.is-legal

    pub the-sound : PlanSound b (P.Elements e)
    the-sound =
        subst (PlanSound b) l.plan
        (plan-sound b scalars c l.word l.valid (possible-apart b c the_facts.acceptable.possible) l.fits)

    the-lawful : Lawful J
    the-lawful = lawful b l.valid (P.Elements e) the-sound

    the-legal : elements_legal b c e ≡ true
    the-legal = elements-of-legal b c e the_facts.legal

    is-there : is_there e.action ≡ true
    unfolding elements_legal
    is-there = both_left (is_there e.action) _ (both_right (not e.typed || startable b c) _ the-legal)

    pub next-prepared : (k : ℕ) → k < e.end → Prepared b e k
    next-prepared k =
        prepared b scalars c l.valid (possible-apart b c the_facts.acceptable.possible) k l.word e l.fits l.plan
        is-there (elements-fit b c e the-legal)

    pub going-none : Bytes registers₀ → Going 0 registers₀ memory₀ c.vxsat
    going-none y = record {
      passed = passed_none J the-lawful the-turn the-point l.is-legal;
      bytes = y;
      registers-length = refl;
      memory-length = refl;
    }

    pub end_fits : Fits w64 e.end
    end_fits = record { fits = omega (arith, the-sound.end, l.valid.most) }

    -- what a turn that ends so leaves
    ended : (r : Turned) (registers memory : List ℕ) (o : TurnEnd J) → turn J the-turn the-point ≡ o
        → left r registers scalars memory rights ≡ outcome_of b (P.Elements e) rights o
        → left r registers scalars memory rights ≡ plan_turn b (P.Elements e) allowance the-state
    ended r registers memory o p q = q ∙ ap (outcome_of b (P.Elements e) rights) (sym p)

    module _ (k : ℕ) (registers memory : List ℕ) (vxsat : ℕ) (g : Going k registers memory vxsat) where
      the_within : k ≤ min allowance (e.end - c.vstart)
      the_within = g.passed.within

      file-length : length registers ≡ 32 * b.vlenb
      file-length = g.registers-length ∙ the_facts.acceptable.registers-length

      pub memory-bound : length memory ≤ 65536
      memory-bound = rw g.memory-length the_facts.acceptable.memory-length

      pub next-steppable : (remaining most : ℕ) (a : Action) → remaining ≡ e.end - c.vstart → most ≡ min allowance remaining → k < most
          → e.action ≡ a → Steppable b registers memory e (c.vstart + k) a
      next-steppable remaining most a u v h q =
          let p = next-prepared (c.vstart + k) (omega arith) in
          record {
            action = q;
            ready = rw file-length p.ready;
            fits = subst (ActionFits b.vlenb registers e (c.vstart + k)) q (p.action registers g.bytes);
            registers-length = file-length;
            memory-length = memory-bound;
          }

      pub stop-fits : (remaining most : ℕ) → remaining ≡ e.end - c.vstart → most ≡ min allowance remaining → Fits w64 c.vstart
          → Fits w64 (c.vstart + most)
      stop-fits remaining most u v f = record { fits = omega (arith, end_fits.fits, f.fits) }

      -- one element after another, in place
      abbrev here : Core
      here = core_now scalars c registers memory vxsat

      abbrev the-effect : Effect Fault (List Write)
      the-effect = effect_of b rights here e (c.vstart + k)

      pub trap-left : (remaining most : ℕ) (came : Result Bool Fault) (x : Fault) (registers' memory' : List ℕ) (r : Turned)
          → r ≡ record { answer = x.answer; passed = k; place = x.place; control = leaving c (c.vstart + k) vxsat }
          → remaining ≡ e.end - c.vstart → most ≡ min allowance remaining → k < most
          → Stepped b rights e (c.vstart + k) registers memory came registers' memory' → came ≡ Err x
          → left r registers' scalars memory' rights ≡ plan_turn b (P.Elements e) allowance the-state
      trap-left remaining most came x registers' memory' r z u v h did q =
          let d : Did b.vlenb the-effect here (Err x) (core_now scalars c registers' memory' vxsat) =
          rw q at did scalars (besides c 0 vxsat) in
          let p : the-effect ≡ fault x = check-fault the-effect x d.check in
          let s : core_now scalars c registers' memory' vxsat ≡ here =
          d.state ∙ ap (λ (f : Effect Fault (List Write)). state_after b.vlenb f here) p in
          ended _ registers' memory' _
          (passed-trap J the-lawful the-turn the-point k here g.passed x (omega arith) p)
          (rw (z, ap (λ (y : Core). y.registers) s, ap (λ (y : Core). y.memory) s))

      -- a pause where elements remain, a finish where none does
      pub stop-left : (remaining most : ℕ) (r : Turned)
          → r ≡ stopped remaining most c vxsat → remaining ≡ e.end - c.vstart → most ≡ min allowance remaining → most ≤ k
          → left r registers scalars memory rights ≡ plan_turn b (P.Elements e) allowance the-state
      stop-left remaining most r q u v h = by-rest (dec_lt k remaining)
        where
          z : r ≡ stopped remaining k c vxsat
          z = let o : most ≡ k = omega (arith, the_within) in rw o at q

          by-rest : Dec (k < remaining) → left r registers scalars memory rights ≡ plan_turn b (P.Elements e) allowance the-state
          by-rest (yes m) =
              ended _ registers memory _
              (passed-pause J the-lawful the-turn the-point k here g.passed (omega (arith, the_within)) (omega arith))
              (rw (z, lt-ltb k remaining m))
          by-rest (no m) =
              ended _ registers memory _
              (passed-finish J the-lawful the-turn the-point k here g.passed (omega (arith, the_within)))
              (rw (z, le-ltb k remaining (omega arith)))

      -- an element that is passed, from here to what it leaves
      going_more : (remaining most : ℕ) (registers' memory' : List ℕ) (vxsat' : ℕ)
          → remaining ≡ e.end - c.vstart → most ≡ min allowance remaining → k < most
          → Did b.vlenb the-effect here (Ok tt) (core_now scalars c registers' memory' vxsat')
          → Bytes registers' → length registers' ≡ length registers → length memory' ≡ length memory
          → Going (k + 1) registers' memory' vxsat'
      going_more remaining most registers' memory' vxsat' u v h d y m n = record {
        passed = rw (d.state, applied b (P.Elements e) the-effect here)
            (passed-more J the-lawful the-turn the-point k here g.passed the-effect (omega arith) refl
            (check-granted the-effect d.check));
        bytes = y;
        registers-length = m ∙ g.registers-length;
        memory-length = n ∙ g.memory-length;
      }

      pub step-more : (remaining most : ℕ) (came : Result Bool Fault) (saturates : Bool) (registers' memory' : List ℕ) (vxsat' : ℕ)
          → remaining ≡ e.end - c.vstart → most ≡ min allowance remaining → k < most
          → Stepped b rights e (c.vstart + k) registers memory came registers' memory' → came ≡ Ok saturates
          → vxsat' ≡ cond saturates 1 vxsat → Bytes registers' → length registers' ≡ length registers → length memory' ≡ length memory
          → Going (k + 1) registers' memory' vxsat'
      step-more remaining most came saturates registers' memory' vxsat' u v h did q z y m n =
          rw z (going_more remaining most registers' memory' (cond saturates 1 vxsat) u v h
          (rw q at did scalars (besides c 0 vxsat)) y m n)
