-- What a turn says of the page and the right that were wanted holds of the definition, on every board.
use Prim.Native.Nat.{ℕ, ◌+◌}
use mathlib.Core.Path.{◌≡◌, refl, sym, subst}
use mathlib.Core.Bool.{true, false, ◌&&◌}
use lib.ListN.{length}
use lib.Dec.{T}
use Rattle.laws.proofs.Apart.{both_left}
use Rattle.answer.specs.declared.Answer.{Answer}
use Rattle.answer.specs.declared.Answer.TheVariants.{Finished, Paused, Illegal}
use Rattle.answer.specs.declared.Answer.TheVariants.{LoadMisaligned, LoadAccess, StoreMisaligned, StoreAccess}
use Rattle.answer.specs.declared.Answer.TheVariants.{BadRegisters, BadScalars, BadMemory, BadRights, BadControl, NoGroup}
use Rattle.control.specs.declared.Board.{Board}
use Rattle.access.specs.Access.{nowhere}
use Rattle.plan.specs.declared.Plan.{Plan}
use Rattle.turn_theory.specs.Turn.{Turn, Point}
use Rattle.turn_theory.proofs.Laws.{turn-cases}
use Rattle.machine.specs.State.{State, core_of}
use Rattle.machine.specs.Machine.{semantics_of, answer_of, fault_place_of, outcome_of, plan_turn, plan_at, turn_of}
use Rattle.machine.specs.Demands.{is_trap, changes_nothing}
use Rattle.machine.specs.FaultPages.{PlanReason, fault_in, FaultPages}
use Rattle.machine.proofs.FaultReasons.{Faulting, effect-reason}
use Rattle.machine.proofs.Demands.{Rejecting, rejection-rejects, turn_with, point_of, answer-cases}

-- no answer is a trap's that changes nothing
pub never_both : (a : Answer) → (changes_nothing a && is_trap a) ≡ false
never_both Finished = refl
never_both Paused = refl
never_both Illegal = refl
never_both LoadMisaligned = refl
never_both LoadAccess = refl
never_both StoreMisaligned = refl
never_both StoreAccess = refl
never_both BadRegisters = refl
never_both BadScalars = refl
never_both BadMemory = refl
never_both BadRights = refl
never_both BadControl = refl
never_both NoGroup = refl

module _ (b : Board) (p : Plan) (n : ℕ) (s : State) where
  abbrev the-turn : Turn (semantics_of b p)
  the-turn = turn_with b p s.rights n

  abbrev the-point : Point (semantics_of b p)
  the-point = point_of b p s

  nowhere-else : is_trap (plan_turn b p n s).answer ≡ false → (plan_turn b p n s).place ≡ nowhere
  nowhere-else = answer-cases b p the-turn the-point (λ o. is_trap (answer_of o.ending) ≡ false → fault_place_of o.ending ≡ nowhere)
      (λ a h e. refl)
      (λ x k c h e. absurd (subst T e (subst T (sym (both_left (is_trap x.answer) _ h)) tt)))
      (λ c e. refl)
      (λ c e. refl)

  trap-reason : is_trap (plan_turn b p n s).answer ≡ true
      → PlanReason s.rights (length s.memory) p (fault_in (plan_turn b p n s))
  trap-reason = turn-cases (semantics_of b p) the-turn the-point
      (λ o. is_trap (answer_of o.ending) ≡ true
      → PlanReason s.rights (length s.memory) p (fault_in (outcome_of b p s.rights o)))
      (record {
        on-rejected = λ a e z.
            let c : changes_nothing a ≡ true = subst Rejecting e (rejection-rejects b p s.rights (core_of s) s.control.vstart) in
            absurd (subst T (never_both a) (rw (c, z) tt));
        on-trapped = λ x k h l f e z.
            subst (Faulting (PlanReason s.rights (length s.memory) p)) e
            (effect-reason b s.rights (core_of s) p (s.control.vstart + k));
        on-paused = λ k h l e f z. absurd (subst T (sym z) tt);
        on-finished = λ h l z. absurd (subst T (sym z) tt);
      })

pub fault-pages : (b : Board) → FaultPages b
unfolding turn_of
fault-pages b = record {
  no-trap = λ word n s. nowhere-else b (plan_at b word s) n s;
  trap = λ word n s. trap-reason b (plan_at b word s) n s;
}
