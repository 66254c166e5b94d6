-- The sources of a plan, from what the code has worked out: one law for each arm, over plain variables.
use Prim.Native.Nat.{◌<◌}
use mathlib.Core.Path.{◌≡◌, refl, subst}
use mathlib.Core.Bool.{Bool}
use mathlib.Core.List.{List, [], append-nil}
use lib.Dec.{lit<}
use Rattle.laws.proofs.Chain.{either}
use Rattle.decode.specs.declared.MaskInstruction.{MaskInstruction}
use Rattle.decode.specs.declared.ScalarMoveOp.{ScalarMoveOp}
use Rattle.decode.specs.declared.ScalarMoveOp.TheVariants.{VmvXS, VmvSX}
use Rattle.group.specs.declared.Group.{Group}
use Rattle.plan.specs.declared.Read.{Read}
use Rattle.plan.specs.declared.Read.TheVariants as R
use Rattle.plan.specs.declared.Elementwise.{Elementwise}
use Rattle.plan.specs.declared.Reduction.{Reduction}
use Rattle.plan.specs.declared.Packing.{Packing}
use Rattle.plan.specs.declared.ScalarMove.{ScalarMove}
use Rattle.plan.specs.declared.Sources.{Sources}
use Rattle.plan.specs.declared.OneTurn.{OneTurn}
use Rattle.plan.specs.declared.OneTurn.TheVariants as O
use Rattle.plan.specs.Sources.{registers_read, v0_source, element_sources, reduction_sources, packing_sources}
use Rattle.plan.specs.Sources.{moved_register, one_turn_sources}
use Rattle.plan.specs.Range.{ReadInRange, InRange, OneTurnFits, Lists}

v0-source-range : (masked : Bool) (operand : Read) → ReadInRange operand → ReadInRange (v0_source masked operand)
v0-source-range masked operand h = either ReadInRange masked (R.Bit 0) operand (λ t. lit< tt) (λ t. h)

-- in the arm of the variant v
pub variant-listed : {A : Type 0} (f : A → List Group) (a v : A) (s : Sources) → a ≡ v → Lists (f v) s → Lists (f a) s
variant-listed f a v s e h = rw e h

pub nothing-listed : Lists [] (record { vs2 = R.Constant 0; vs1 = R.Constant 0; vd = R.Constant 0; v0 = R.Constant 0 })
nothing-listed = (refl, record { vs2 = tt; vs1 = tt; vd = tt; v0 = tt })

-- ---- an instruction that takes one turn

register-listed : (op : ScalarMoveOp) (g : Group) → g.reg < 32
    → Lists (registers_read (moved_register op g))
    (record { vs2 = moved_register op g; vs1 = R.Constant 0; vd = R.Constant 0; v0 = R.Constant 0 })
register-listed VmvXS g h = (refl, record { vs2 = h; vs1 = tt; vd = tt; v0 = tt })
register-listed VmvSX g h = (refl, record { vs2 = tt; vs1 = tt; vd = tt; v0 = tt })

module _ (t : OneTurn) (v0 : Read) where
  pub mask-listed : (m : MaskInstruction) → t ≡ O.Mask m → v0 ≡ v0_source m.masked (R.Constant 0) → OneTurnFits t
      → Lists (one_turn_sources t) (record { vs2 = R.Bit m.vs2; vs1 = R.Constant 0; vd = R.Constant 0; v0 = v0 })
  mask-listed m e h f =
      let g : OneTurnFits (O.Mask m) = subst OneTurnFits e f in
      rw (e, h) (refl, record { vs2 = g.vs2; vs1 = tt; vd = tt; v0 = v0-source-range m.masked (R.Constant 0) tt })

  pub reduction-listed : (r : Reduction) → t ≡ O.Reduction r → v0 ≡ v0_source r.masked (R.Constant 0) → OneTurnFits t
      → Lists (one_turn_sources t) (record { vs2 = R.Element r.vs2; vs1 = R.Element r.vs1; vd = R.Constant 0; v0 = v0 })
  unfolding reduction_sources
  reduction-listed r e h f =
      let g : OneTurnFits (O.Reduction r) = subst OneTurnFits e f in
      rw (e, h) (refl, record { vs2 = g.vs2; vs1 = g.vs1; vd = tt; v0 = v0-source-range r.masked (R.Constant 0) tt })

  pub packing-listed : (p : Packing) → t ≡ O.Packing p → v0 ≡ v0_source p.masked (R.Constant 0) → OneTurnFits t
      → Lists (one_turn_sources t) (record { vs2 = p.elements; vs1 = R.Bit p.mask; vd = R.Constant 0; v0 = v0 })
  unfolding packing_sources
  packing-listed p e h f =
      let g : OneTurnFits (O.Packing p) = subst OneTurnFits e f in
      rw (e, h, append-nil) (refl, record { vs2 = g.elements; vs1 = g.mask; vd = tt; v0 = v0-source-range p.masked (R.Constant 0) tt })

pub move-listed : (t : OneTurn) (vs2 : Read) (m : ScalarMove) → t ≡ O.ScalarMove m → vs2 ≡ moved_register m.op m.vector → OneTurnFits t
    → Lists (one_turn_sources t) (record { vs2 = vs2; vs1 = R.Constant 0; vd = R.Constant 0; v0 = R.Constant 0 })
move-listed t vs2 m e h f =
    let g : OneTurnFits (O.ScalarMove m) = subst OneTurnFits e f in
    rw (e, h) (register-listed m.op m.vector g.vector)

-- ---- an instruction of elements

pub element-listed : (e : Elementwise) (v0 : Read) → v0 ≡ v0_source e.masked e.v0 → InRange e
    → Lists (element_sources e) (record { vs2 = e.vs2; vs1 = e.vs1; vd = e.vd; v0 = v0 })
unfolding element_sources
element-listed e v0 h r =
    rw h (refl, record { vs2 = r.vs2; vs1 = r.vs1; vd = r.vd; v0 = v0-source-range e.masked e.v0 r.v0 })
