use Prim.Native.Nat.{ℕ}
use mathlib.Core.Path.{◌≡◌}
use Rattle.operation.specs.declared.Size.{Size}
use Rattle.operation.specs.Shape.{eew_of}
use Rattle.control.specs.Vtype.{sew_of}
use Rattle.decode.specs.declared.ReductionInstruction.{ReductionInstruction}
use Rattle.group.specs.declared.Group.{Group}
use Rattle.plan.specs.Plan.{group_at, register_at, scalar_size, reducing_of}
use Rattle.plan.proofs.OperandLaws.{sew-most, sew-small}
use Rattle.plan.proofs.reducing.Goals as goal

is-reducing : (v : ℕ) (a : ReductionInstruction) (z : Size) (sew eew : ℕ) (vd vs2 vs1 : Group)
    → sew ≡ sew_of v
    → z ≡ scalar_size a.op
    → eew ≡ eew_of z sew
    → vd ≡ register_at eew a.vd
    → vs2 ≡ group_at v sew a.vs2
    → vs1 ≡ register_at eew a.vs1
    → record { op = a.op; sew = sew; vd = vd; vs2 = vs2; vs1 = vs1; masked = a.masked } ≡ reducing_of v a
unfolding reducing_of
is-reducing v a z sew eew vd vs2 vs1 e1 e2 e3 e4 e5 e6 = rw (e6, e5, e4, e3, e2, e1)

pub eew-eew-requires : goal.eew-eew-requires
eew-eew-requires c = search sew-most

pub groups_at-vs2-requires : goal.groups_at-vs2-requires
groups_at-vs2-requires c = search sew-small

pub returns : goal.returns
returns c = search is-reducing
