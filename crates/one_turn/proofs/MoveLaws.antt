-- The scalar moves, from what the code has worked out.
use Prim.Native.Nat.{ℕ}
use mathlib.Core.Path.{◌≡◌}
use mathlib.Core.List.{List}
use Rattle.control.specs.declared.Control.{Control}
use Rattle.decode.specs.declared.ScalarMoveOp.{ScalarMoveOp}
use Rattle.plan.specs.declared.ScalarMove.{ScalarMove}
use Rattle.machine.specs.State.{Core}
use Rattle.machine.specs.OneTurn.{scalar_move_result}
use Rattle.execute.specs.Step.{core_at}

-- in the arm of the variant w
pub move-by : (vlenb v : ℕ) (m : ScalarMove) (s r : Core) (op w : ScalarMoveOp) → op ≡ w → r ≡ scalar_move_result vlenb m v s w
    → r ≡ scalar_move_result vlenb m v s op
move-by vlenb v m s r op w e p = rw e p

pub scalars-left : (file memory x x' : List ℕ) (c : Control) → x' ≡ x → core_at file memory x' c ≡ core_at file memory x c
scalars-left file memory x x' c p = rw p
