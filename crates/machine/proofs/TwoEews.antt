-- A word that reads one register at two different EEWs is answered 2.
use mathlib.Core.Path.{◌≡◌, refl, ap}
use mathlib.Core.Bool.{Bool, true, false}
use Rattle.laws.proofs.Apart.{both_right}
use Rattle.answer.specs.declared.Answer.TheVariants.{Illegal}
use Rattle.control.specs.declared.Board.{Board}
use Rattle.control.specs.declared.Control.{Control}
use Rattle.plan.specs.declared.Plan.{Plan}
use Rattle.plan.specs.Sources.{sources_of}
use Rattle.legality.specs.Legal.{kind_legal, sources_fit, legal_of}
use Rattle.legality.proofs.LegalLaws.{rules-of-legal}
use Rattle.legality.specs.OneEew.{ReadAtOneEew}
use Rattle.legality.proofs.OneEew.{one-eew}
use Rattle.turn_theory.proofs.Laws.{turn-rejected}
use Rattle.machine.specs.Machine.{rejection_at, semantics_of, outcome_of, plan_at, turn_of}
use Rattle.machine.specs.TwoEews.{TwoEews}

not-legal : (b : Board) (c : Control) (p : Plan) → (ReadAtOneEew (sources_of p) → ⊥) → legal_of b c p ≡ false
not-legal b c p h = by-test (legal_of b c p) refl where
  by-test : (l : Bool) → legal_of b c p ≡ l → l ≡ false
  by-test false e = refl
  by-test true e =
      absurd (h (one-eew.fitting (sources_of p) (both_right (kind_legal b c p) (sources_fit (sources_of p)) (rules-of-legal b c p e))))

pub two-eews : (b : Board) → TwoEews b
unfolding turn_of rejection_at
two-eews b word n s h k =
    let p : Plan = plan_at b word s in
    ap (outcome_of b p s.rights) (turn-rejected (semantics_of b p) _ _ Illegal (rw (h, not-legal b s.control p k)))
