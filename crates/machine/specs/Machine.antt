-- THE DEFINITION: one turn of any word on any state (document 01, 'One turn and its answer').
use Rattle.std.specs.Prelude.{ℕ, zero, ◌≤◌, max, ◌≡◌, cond, List, length, get_or, Result, Ok, Err, ⊤}
use Rattle.std.proofs.Math.Option.{Option, none, some}
use Rattle.answer.specs.declared.Answer.{Answer}
use Rattle.answer.specs.declared.Answer.TheVariants.{Finished, Paused, Illegal}
use Rattle.control.specs.declared.Board.{Board}
use Rattle.control.specs.Control.{dirty, with_vstart}
use Rattle.decode.specs.Word.{decode_of}
use Rattle.access.specs.declared.FaultPlace.{FaultPlace}
use Rattle.access.specs.declared.Fault.{Fault}
use Rattle.access.specs.Access.{nowhere}
use Rattle.refusal.specs.Refusal.{refusal_of}
use Rattle.plan.specs.declared.Plan.{Plan}
use Rattle.plan.specs.declared.Plan.TheVariants as P
use Rattle.plan.specs.Plan.{plan_of}
use Rattle.legality.specs.Legal.{legal_of}
use Rattle.turn_theory.specs.Turn.{Effect, inactive, Ending, finished, paused, trapped, rejected, Semantics, TurnEnd, turn}
use Rattle.machine.specs.State.{State, Outcome, Core, core_of, state_of}
use Rattle.machine.specs.Effect.{Write, put_all, effect_of}
use Rattle.machine.specs.OneTurn.{one_turn_result}

-- ---- a plan as the theory of turns sees it

-- "An instruction has an end"; one-turn instructions have none remaining. A plan that is not legal is rejected before its end, an effect or
-- a result matters: what stands for `Illegal` here and below shows in no outcome
abbrev pub end_of : Plan → ℕ
end_of P.Illegal = zero
end_of (P.OneTurn t) = zero
end_of (P.Elements e) = e.end

-- the answers that change nothing: a refusal or, where there is none, 2 for a plan that is not legal
abbrev pub or_illegal : Result ⊤ Answer → Option Answer → Option Answer
or_illegal (Ok tt) o = o
or_illegal (Err a) o = some a

module _ (b : Board) where
  abbrev pub effect_at : Plan → List ℕ → Core → ℕ → Effect Fault (List Write)
  effect_at P.Illegal rights s i = inactive
  effect_at (P.OneTurn t) rights s i = inactive
  effect_at (P.Elements e) rights s i = effect_of b rights s e i

  -- "A one-turn instruction has no stretch, writes its results from the state before and finishes"; v is the vstart of the turn
  abbrev pub result_at : Plan → ℕ → Core → Core
  result_at P.Illegal v s = s
  result_at (P.OneTurn t) v s = one_turn_result b t v s
  result_at (P.Elements e) v s = s

  -- refusals 32 to 36 of a state with vstart i
  abbrev pub refusal_at : List ℕ → Core → ℕ → Result ⊤ Answer
  refusal_at rights s i =
      refusal_of b (length s.registers) (length s.scalars) (length s.memory) rights (with_vstart s.control i)

  -- "Order: 32, 33, 34, 35, 36, then 2"
  unfoldable pub rejection_at : Plan → List ℕ → Core → ℕ → Option Answer
  rejection_at p rights s i = or_illegal (refusal_at rights s i) (cond (legal_of b (with_vstart s.control i) p) none (some Illegal))

-- "To open a page is to raise its right, to 2 at most". A right above 2 is refused: `max 2` leaves it as it is, so that the same rights
-- again count as opened whatever they are
pub record Opened (r r' : List ℕ) : Type 0 where
  pub as_many : length r' ≡ length r
  pub at_least : (k : ℕ) → get_or r k 0 ≤ get_or r' k 0
  pub at_most : (k : ℕ) → get_or r' k 0 ≤ max 2 (get_or r k 0)

abbrev pub semantics_of : Board → Plan → Semantics
semantics_of b p = record {
  State = Core;
  Rights = List ℕ;
  Write = List Write;
  Fault = Fault;
  Rejection = Answer;
  rejection = rejection_at b p;
  count = λ (s : Core). end_of p;
  effect = effect_at b p;
  put = put_all b.vlenb;
  finish = result_at b p;
  Opens = Opened;
}

-- ---- the answer, and the definition

abbrev pub answer_of : Ending Fault Answer → Answer
answer_of finished = Finished
answer_of paused = Paused
answer_of (trapped f) = f.answer
answer_of (rejected a) = a

abbrev pub fault_place_of : Ending Fault Answer → FaultPlace
fault_place_of finished = nowhere
fault_place_of paused = nowhere
fault_place_of (trapped f) = f.place
fault_place_of (rejected a) = nowhere

-- "A turn that answers 0, 1 or 4 to 7 .. sets Dirty" (document 02, A8); beside 2 and the refusals VS is as before
abbrev pub vs_after : Ending Fault Answer → ℕ → ℕ
vs_after finished vs = dirty
vs_after paused vs = dirty
vs_after (trapped f) vs = dirty
vs_after (rejected a) vs = vs

module _ (b : Board) (p : Plan) where
  -- one turn of a plan, from a state
  abbrev pub ran_of : ℕ → State → TurnEnd (semantics_of b p)
  ran_of allowance s =
      turn (semantics_of b p) (record { rights = s.rights; allowance = allowance })
      (record { state = core_of s; vstart = s.control.vstart })

  abbrev pub outcome_of : List ℕ → TurnEnd (semantics_of b p) → Outcome
  outcome_of rights o = record {
    answer = answer_of o.ending;
    passed = o.passed;
    place = fault_place_of o.ending;
    after = state_of rights o.after.state o.after.vstart (vs_after o.ending o.after.state.control.vs);
  }

  abbrev pub plan_turn : ℕ → State → Outcome
  plan_turn allowance s = outcome_of s.rights (ran_of allowance s)

-- what a word means at a state
abbrev pub plan_at : Board → ℕ → State → Plan
plan_at b word s = plan_of b s.scalars s.control (decode_of word)

-- the word, the allowance and the state before give the answer, the number passed, where a fault lies and the state after
unfoldable pub turn_of : Board → ℕ → ℕ → State → Outcome
turn_of b word allowance s = plan_turn b (plan_at b word s) allowance s
