-- For contracts of inner functions, not to be believed: what a reduction relies on.
use Rattle.std.specs.Prelude.{ℕ, ◌^◌, ◌≤◌, ◌<◌, ◌≡◌}
use Rattle.decode.specs.declared.ReductionOp.{ReductionOp}
use Rattle.layout.specs.Layout.{Inside}
use Rattle.plan.specs.declared.Reduction.{Reduction}
use Rattle.plan.specs.Plan.{scalar_eew}

-- an accumulator and an element that an operator can join
pub record Joinable (op : ReductionOp) (sew acc x : ℕ) : Type 0 where
  pub least : 8 ≤ sew
  pub most : scalar_eew op sew ≤ 64
  pub acc-fits : acc < 2 ^ scalar_eew op sew
  pub x_fits : x < 2 ^ sew

-- element i and its mask bit lie inside a register file of so many bytes, and are of widths that there are
pub record Reachable (size vlenb : ℕ) (r : Reduction) (i : ℕ) : Type 0 where
  pub least : 8 ≤ r.sew
  pub most : scalar_eew r.op r.sew ≤ 64
  pub width : r.vs2.eew ≡ r.sew
  pub element : Inside size vlenb r.vs2.reg r.vs2.eew i
  pub mask : Inside size vlenb 0 1 i

-- so do all elements below vl, and element 0 of vs1 and of vd
pub record Reducible (size vlenb : ℕ) (r : Reduction) (vl : ℕ) : Type 0 where
  pub elements : (i : ℕ) → i < vl → Reachable size vlenb r i
  pub accumulator : r.vs1.eew ≡ scalar_eew r.op r.sew
  pub scalar : Inside size vlenb r.vs1.reg r.vs1.eew 0
  pub result : Inside size vlenb r.vd.reg r.vd.eew 0
