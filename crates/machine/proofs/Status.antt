-- What a turn makes of VS holds of the definition, on every board.
use Prim.Native.Nat.{ℕ}
use mathlib.Core.Path.{◌≡◌, refl, ap}
use mathlib.Core.Bool.{false}
use native.Mathlib.Omega.{arith}
use borrow.Author.Tests.{eq-eqb}
use Rattle.answer.specs.declared.Answer.TheVariants.{Illegal}
use Rattle.control.specs.declared.Board.{Board}
use Rattle.control.specs.declared.Control.{Control}
use Rattle.control.specs.Control.{off, dirty}
use Rattle.plan.specs.declared.Plan.{Plan}
use Rattle.legality.specs.Legal.{legal_of}
use Rattle.turn_theory.proofs.Laws.{turn-rejected}
use Rattle.machine.specs.State.{State}
use Rattle.machine.specs.Machine.{rejection_at, semantics_of, answer_of, vs_after, ran_of, outcome_of, plan_at, turn_of}
use Rattle.machine.specs.Demands.{changes_nothing}
use Rattle.machine.specs.Status.{Status}
use Rattle.machine.proofs.Demands.{turn_with, point_of, answer-cases}

not-legal : (b : Board) (c : Control) (p : Plan) → c.vs ≡ off → legal_of b c p ≡ false
unfolding legal_of
not-legal b c p h = rw (eq-eqb _ _ h)

leaves-dirty : (b : Board) (p : Plan) (n : ℕ) (s : State) → changes_nothing (outcome_of b p s.rights (ran_of b p n s)).answer ≡ false
    → (outcome_of b p s.rights (ran_of b p n s)).after.control.vs ≡ dirty
leaves-dirty b p n s = answer-cases b p (turn_with b p s.rights n) (point_of b p s)
    (λ o. changes_nothing (answer_of o.ending) ≡ false → vs_after o.ending o.after.state.control.vs ≡ dirty)
    (λ a h e. absurd (let z : ◌≡◌ {A = ℕ} 0 1 = cc in omega arith))
    (λ x k c h e. refl)
    (λ c e. refl)
    (λ c e. refl)

pub status : (b : Board) → Status b
unfolding turn_of rejection_at
status b = record {
  off-illegal = λ word n s h k.
      let p : Plan = plan_at b word s in
      ap (outcome_of b p s.rights) (turn-rejected (semantics_of b p) _ _ Illegal (rw (h, not-legal b s.control p k)));
  sets-dirty = λ word n s. leaves-dirty b (plan_at b word s) n s;
}
