-- Instructions that take one turn: the setting instructions (section 7), the reductions (15.1, 15.2), vcpop.m, vfirst.m, vmsbf.m, vmsif.m,
-- vmsof.m (16.2 to 16.6), viota.m (16.8), vmv.x.s, vmv.s.x (17.1), vcompress.vm (17.5).
use Rattle.std.specs.Prelude.{ℕ, zero, suc, ◌+◌, ◌-◌, ◌%◌, ◌^◌, Bool, ◌&&◌, cond, set, ltb, leb, eqb, Option, Some, None}
use mathlib.Core.List.{List, [], ◌∷◌, foldl}
use Rattle.width.specs.Width.{flag, signed, wrap}
use Rattle.integer.specs.Integer.{vadd, vwaddu, vwadd-w, vand, vor, vxor, vminu, vmin, vmaxu, vmax}
use Rattle.control.specs.declared.Board.{Board}
use Rattle.control.specs.declared.Control.{Control}
use Rattle.control.specs.Control.{set_of}
use Rattle.decode.specs.declared.AvlSource.{AvlSource}
use Rattle.decode.specs.declared.AvlSource.TheVariants.{Register, Number, Largest, Kept}
use Rattle.decode.specs.declared.TypeSource.{TypeSource}
use Rattle.decode.specs.declared.TypeSource.TheVariants.{Given, InRegister}
use Rattle.decode.specs.declared.Setting.{Setting}
use Rattle.decode.specs.declared.MaskOp.{MaskOp}
use Rattle.decode.specs.declared.MaskOp.TheVariants.{Vcpop, Vfirst, Vmsbf, Vmsof, Vmsif}
use Rattle.decode.specs.declared.MaskInstruction.{MaskInstruction}
use Rattle.decode.specs.declared.ReductionOp.{ReductionOp}
use Rattle.decode.specs.declared.ReductionOp.TheVariants.{Vredsum, Vredand, Vredor, Vredxor, Vredminu, Vredmin, Vredmaxu, Vredmax}
use Rattle.decode.specs.declared.ReductionOp.TheVariants.{Vwredsumu, Vwredsum}
use Rattle.decode.specs.declared.PackOp.{PackOp}
use Rattle.decode.specs.declared.PackOp.TheVariants.{Viota, Vcompress}
use Rattle.decode.specs.declared.ScalarMoveOp.{ScalarMoveOp}
use Rattle.decode.specs.declared.ScalarMoveOp.TheVariants.{VmvXS, VmvSX}
use Rattle.layout.specs.Layout.{element_at, with_element}
use Rattle.plan.specs.declared.Reduction.{Reduction}
use Rattle.plan.specs.declared.Packing.{Packing}
use Rattle.plan.specs.declared.ScalarMove.{ScalarMove}
use Rattle.plan.specs.declared.OneTurn.{OneTurn}
use Rattle.plan.specs.declared.OneTurn.TheVariants as O
use Rattle.plan.specs.Plan.{scalar_of}
use Rattle.machine.specs.State.{Core, with_registers, with_scalars, with_control}
use Rattle.machine.specs.Effect.{value_of, active_of}

-- "x0 reads 0; its slot is never written"
abbrev pub with_scalar : List ℕ → ℕ → ℕ → List ℕ
with_scalar x r v = cond (eqb r 0) x (set x r v)

-- ---- setting

abbrev pub avl_from : List ℕ → AvlSource → Option ℕ
avl_from x (Register r) = Some (scalar_of x r)
avl_from x (Number n) = Some n
avl_from x Largest = Some (2 ^ 64 - 1)
avl_from x Kept = None

abbrev pub type_from : List ℕ → TypeSource → ℕ
type_from x (Given v) = v
type_from x (InRegister r) = scalar_of x r

abbrev pub next_control : Board → Core → Setting → Control
next_control b s t = set_of b s.control (type_from s.scalars t.vtype) (avl_from s.scalars t.avl)

-- "rd gets the new vl"
unfoldable pub setting_result : Board → Setting → Core → Core
setting_result b t s =
    with_control (next_control b s t) (with_scalars (with_scalar s.scalars t.rd (next_control b s t).vl) s)

-- ---- masks

-- of a mask register, under v0 where it is the mask
module _ (vlenb : ℕ) (file : List ℕ) (masked : Bool) (reg : ℕ) where
  -- element i is active and its bit in the mask register set
  abbrev pub set_at : ℕ → Bool
  set_at i = active_of vlenb file masked i && eqb (element_at vlenb file reg 1 i) 1

  -- how many of the first n are (section 16.2)
  unfoldable pub population_of : ℕ → ℕ
  population_of zero = 0
  population_of (suc n) = population_of n + flag (set_at n)

  -- the first of the n from i up that is; i + n where none is
  unfoldable pub first_of : ℕ → ℕ → ℕ
  first_of i zero = i
  first_of i (suc n) = cond (set_at i) i (first_of (suc i) n)

-- What the n elements from i up write into a file: where a test finds that one writes, its value in its place, of the elements of EEW bits
-- from a register on. Test, places and values go by the file before
unfoldable pub writing_each : ℕ → ℕ → ℕ → (ℕ → Bool) → (ℕ → ℕ) → (ℕ → ℕ) → ℕ → ℕ → List ℕ → List ℕ
writing_each vlenb reg eew writes place value i zero file = file
writing_each vlenb reg eew writes place value i (suc n) file =
    writing_each vlenb reg eew writes place value (suc i) n
    (cond (writes i) (with_element vlenb file reg eew (place i) (value i)) file)

-- set before, up to, or only at the first (sections 16.4 to 16.6). vcpop and vfirst write no mask (`mask_result` below): their clauses are
-- never used
abbrev pub first_bit : MaskOp → ℕ → ℕ → ℕ
first_bit Vmsbf i first = flag (ltb i first)
first_bit Vmsif i first = flag (leb i first)
first_bit Vmsof i first = flag (eqb i first)
first_bit Vcpop i first = 0
first_bit Vfirst i first = 0

-- the active ones of vl elements get their bits
abbrev pub setting_first : ℕ → ℕ → List ℕ → MaskInstruction → ℕ → List ℕ
setting_first vlenb vl file m first =
    writing_each vlenb m.rd 1 (active_of vlenb file m.masked) (λ i. i) (λ i. first_bit m.op i first) 0 vl file

-- vcpop and vfirst write rd, the others the mask register vd; vfirst gives −1, all ones, where no element is set (section 16.3)
module _ (vlenb vl : ℕ) (m : MaskInstruction) (s : Core) where
  abbrev pub first_in : ℕ
  first_in = first_of vlenb s.registers m.masked m.vs2 0 vl

  abbrev pub to_scalar : ℕ → Core
  to_scalar x = with_scalars (with_scalar s.scalars m.rd x) s

  abbrev pub to_mask : Core
  to_mask = with_registers (setting_first vlenb vl s.registers m first_in) s

  unfoldable pub mask_result : MaskOp → Core
  mask_result Vcpop = to_scalar (population_of vlenb s.registers m.masked m.vs2 vl)
  mask_result Vfirst = to_scalar (cond (ltb first_in vl) first_in (2 ^ 64 - 1))
  mask_result Vmsbf = to_mask
  mask_result Vmsof = to_mask
  mask_result Vmsif = to_mask

-- ---- reductions

-- the "binary operator" of each (section 15): an accumulator and an element of w bits give the next accumulator. The operators are those of
-- the element operations; a widening sum is that of vwaddu.wv or vwadd.wv, which extends the element
abbrev pub joined_by : ReductionOp → ℕ → ℕ → ℕ → ℕ
joined_by Vredsum w acc x = vadd w acc x
joined_by Vredand w acc x = vand w acc x
joined_by Vredor w acc x = vor w acc x
joined_by Vredxor w acc x = vxor w acc x
joined_by Vredminu w acc x = vminu w acc x
joined_by Vredmin w acc x = vmin w acc x
joined_by Vredmaxu w acc x = vmaxu w acc x
joined_by Vredmax w acc x = vmax w acc x
joined_by Vwredsumu w acc x = vwaddu w acc x
joined_by Vwredsum w acc x = vwadd-w w acc x

-- "[*] denotes all active elements" (section 15.1): those of n elements from i up that a test finds active, upward
unfoldable pub active_elements : (ℕ → Bool) → (ℕ → ℕ) → ℕ → ℕ → List ℕ
active_elements active element i zero = []
active_elements active element i (suc n) =
    cond (active i) (element i ∷ active_elements active element (suc i) n) (active_elements active element (suc i) n)

module _ (vlenb : ℕ) (file : List ℕ) (r : Reduction) where
  -- vs1[0], and vs2[*] of n elements from i up
  abbrev pub scalar_in : ℕ
  scalar_in = element_at vlenb file r.vs1.reg r.vs1.eew 0

  abbrev pub elements_in : ℕ → ℕ → List ℕ
  elements_in i n = active_elements (active_of vlenb file r.masked) (element_at vlenb file r.vs2.reg r.vs2.eew) i n

  -- the fold goes upward from vs1[0], which "is always included" (section 15)
  abbrev pub reduction_of : ℕ → ℕ
  reduction_of vl = foldl (joined_by r.op r.sew) scalar_in (elements_in 0 vl)

  -- "Only element 0 of the destination is written, with vl 0 nothing" (A4)
  unfoldable pub reduced_file : ℕ → List ℕ
  reduced_file vl = cond (eqb vl 0) file (with_element vlenb file r.vd.reg r.vd.eew 0 (reduction_of vl))

-- ---- viota.m and vcompress.vm

module _ (vlenb : ℕ) (file : List ℕ) (p : Packing) where
  -- "the sum of all the bits of elements in the mask register whose index is less than the element"; "only the enabled elements contribute"
  -- (section 16.8)
  abbrev pub set_below : ℕ → ℕ
  set_below i = population_of vlenb file p.masked p.mask i

  -- viota.m writes each active element. vcompress.vm extracts those whose bit is set (section 17.5)
  abbrev pub packs : PackOp → ℕ → Bool
  packs Viota i = active_of vlenb file p.masked i
  packs Vcompress i = set_at vlenb file p.masked p.mask i

  -- where: "contiguous elements at the beginning of vector register vd"
  abbrev pub packed_place : PackOp → ℕ → ℕ
  packed_place Viota i = i
  packed_place Vcompress i = set_below i

  -- what: "the least-significant SEW bits are retained" of viota.m's sum
  abbrev pub packed_value : PackOp → ℕ → ℕ
  packed_value Viota i = set_below i % 2 ^ p.vd.eew
  packed_value Vcompress i = value_of vlenb file p.elements i

  abbrev pub packed_file : ℕ → List ℕ
  packed_file vl =
      writing_each vlenb p.vd.reg p.vd.eew (packs p.op) (packed_place p.op) (packed_value p.op) 0 vl file

-- ---- the scalar moves (section 17.1), at a vstart v

module _ (vlenb : ℕ) (m : ScalarMove) (v : ℕ) (s : Core) where
  -- vmv.x.s: "sign-extended to XLEN bits", "even if vstart ≥ vl or vl=0". vmv.s.x: "the least-significant bits are copied", which are those
  -- that fit the element; "If vstart ≥ vl, no operation is performed"
  unfoldable pub scalar_move_result : ScalarMoveOp → Core
  scalar_move_result VmvXS =
      with_scalars (with_scalar s.scalars m.scalar
      (wrap 64 (signed m.vector.eew (element_at vlenb s.registers m.vector.reg m.vector.eew 0)))) s
  scalar_move_result VmvSX =
      with_registers (cond (ltb v s.control.vl)
      (with_element vlenb s.registers m.vector.reg m.vector.eew 0 (scalar_of s.scalars m.scalar))
      s.registers) s

-- ---- each of them, at a vstart v

unfoldable pub one_turn_result : Board → OneTurn → ℕ → Core → Core
one_turn_result b (O.Setting t) v s = setting_result b t s
one_turn_result b (O.Mask m) v s = mask_result b.vlenb s.control.vl m s m.op
one_turn_result b (O.Reduction r) v s = with_registers (reduced_file b.vlenb s.registers r s.control.vl) s
one_turn_result b (O.Packing p) v s = with_registers (packed_file b.vlenb s.registers p s.control.vl) s
one_turn_result b (O.ScalarMove m) v s = scalar_move_result b.vlenb m v s m.op
