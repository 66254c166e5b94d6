-- For contracts of inner functions, not to be believed: what an instruction on masks, and a scalar move, go by.
use Rattle.std.specs.Prelude.{ℕ, ◌*◌, ◌≤◌, ◌<◌, ◌≡◌}
use Rattle.decode.specs.declared.MaskInstruction.{MaskInstruction}
use Rattle.decode.specs.Fields.{MaskFits}
use Rattle.width.specs.Width.{Width}
use Rattle.layout.specs.Layout.{Inside}
use Rattle.plan.specs.declared.ScalarMove.{ScalarMove}

-- 32 registers of VLENB bytes, vl at most the bits of one, and register numbers that there are
pub record Holds (size vlenb vl : ℕ) (m : MaskInstruction) : Type 0 where
  pub whole : size ≡ 32 * vlenb
  pub most : vlenb ≤ 16
  pub within : vl ≤ 8 * vlenb
  pub fits : MaskFits m

-- the vector register of a scalar move has its element 0 inside a file of so many bytes
pub record Movable (size vlenb : ℕ) (m : ScalarMove) : Type 0 where
  pub scalar : m.scalar < 32
  pub width : Width m.vector.eew
  pub element : Inside size vlenb m.vector.reg m.vector.eew 0
