use Prim.Native.Nat.{ℕ}
use mathlib.Core.Path.{◌≡◌}
use Rattle.control.specs.Vtype.{sew_of}
use Rattle.decode.specs.declared.PackInstruction.{PackInstruction}
use Rattle.group.specs.declared.Group.{Group}
use Rattle.plan.specs.declared.Read.{Read}
use Rattle.plan.specs.Plan.{group_at, counted_mask, packed_elements, packing_of}
use Rattle.plan.proofs.OperandLaws.{sew-small}
use Rattle.plan.proofs.packing_at.Goals as goal

is-packing : (v : ℕ) (a : PackInstruction) (sew mask : ℕ) (vd : Group) (elements : Read)
    → sew ≡ sew_of v
    → vd ≡ group_at v sew a.vd
    → elements ≡ packed_elements v a.op a
    → mask ≡ counted_mask a.op a
    → record { op = a.op; vd = vd; elements = elements; mask = mask; masked = a.masked } ≡ packing_of v a
unfolding packing_of
is-packing v a sew mask vd elements e1 e2 e3 e4 = rw (e4, e3, e2, e1)

pub groups_at-vd-requires : goal.groups_at-vd-requires
groups_at-vd-requires c = search sew-small

pub returns : goal.returns
returns c = search is-packing
