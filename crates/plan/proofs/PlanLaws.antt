-- The plan of a decoded word, in the arm that the word takes.
use Prim.Native.Nat.{ℕ}
use mathlib.Core.Path.{◌≡◌, ap, ◌∙◌}
use mathlib.Core.List.{List}
use Rattle.laws.proofs.Chain.{case}
use Rattle.control.specs.declared.Board.{Board}
use Rattle.control.specs.declared.Control.{Control}
use Rattle.decode.specs.declared.Instruction.{Instruction}
use Rattle.plan.specs.declared.Plan.{Plan}
use Rattle.plan.specs.Plan.{plan_of}

-- in the arm of the variant v
pub planned : (b : Board) (x : List ℕ) (c : Control) (i v : Instruction) (p : Plan) → i ≡ v → p ≡ plan_of b x c v → p ≡ plan_of b x c i
planned b x c = case (plan_of b x c)

-- and where a function has made what the plan holds
pub planned-by : {A : Type 0} (k : A → Plan) (b : Board) (x : List ℕ) (c : Control) (i v : Instruction) (r a : A) → i ≡ v → r ≡ a
    → k a ≡ plan_of b x c v → k r ≡ plan_of b x c i
planned-by k b x c i v r a e h p = planned b x c i v (k r) e (ap k h ∙ p)
