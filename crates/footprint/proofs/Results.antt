-- An instruction that takes one turn does not see a change that its footprint leaves out: its result, and then the change.
use Prim.Native.Nat.{ℕ, zero, suc, ◌+◌, ◌%◌, ◌^◌, ◌≤◌, ◌<◌}
use mathlib.Core.Path.{◌≡◌, refl, ap, ap₂, ◌∙◌}
use mathlib.Core.Bool.{Bool, true, false, ◌&&◌, cond}
use mathlib.Core.List.{List, [], foldl}
use native.Mathlib.Omega.{arith}
use lib.Dec.{ltb, eqb}
use Rattle.width.specs.Width.{flag}
use Rattle.control.specs.declared.Board.{Board}
use Rattle.decode.specs.declared.AvlSource.{AvlSource}
use Rattle.decode.specs.declared.AvlSource.TheVariants as S
use Rattle.decode.specs.declared.TypeSource.{TypeSource}
use Rattle.decode.specs.declared.TypeSource.TheVariants.{Given, InRegister}
use Rattle.decode.specs.declared.Setting.{Setting}
use Rattle.decode.specs.declared.MaskOp.{MaskOp}
use Rattle.decode.specs.declared.MaskOp.TheVariants.{Vcpop, Vfirst, Vmsbf, Vmsof, Vmsif}
use Rattle.decode.specs.declared.MaskInstruction.{MaskInstruction}
use Rattle.decode.specs.declared.PackOp.{PackOp}
use Rattle.decode.specs.declared.PackOp.TheVariants.{Viota, Vcompress}
use Rattle.decode.specs.declared.ScalarMoveOp.{ScalarMoveOp}
use Rattle.decode.specs.declared.ScalarMoveOp.TheVariants.{VmvXS, VmvSX}
use Rattle.layout.specs.Layout.{element_at, with_element}
use Rattle.plan.specs.declared.Read.TheVariants as R
use Rattle.plan.specs.declared.Reduction.{Reduction}
use Rattle.plan.specs.declared.Packing.{Packing}
use Rattle.plan.specs.declared.ScalarMove.{ScalarMove}
use Rattle.plan.specs.Plan.{scalar_of}
use Rattle.machine.specs.State.{Core}
use Rattle.machine.specs.Effect.{value_of, active_of}
use Rattle.machine.specs.OneTurn.{avl_from, type_from, setting_result, set_at, population_of, first_of, writing_each, setting_first}
use Rattle.machine.specs.OneTurn.{first_in}
use Rattle.machine.specs.OneTurn.{mask_result, joined_by, active_elements, elements_in, reduced_file, packs, packed_place, packed_value}
use Rattle.machine.specs.OneTurn.{packed_file, scalar_move_result}
use Rattle.footprint.specs.Footprint.{avl_scalars, type_scalars}
use Rattle.footprint.specs.Changes.{Change, changed_registers, changed_scalars}
use Rattle.footprint.proofs.Spared.{ElementKept, ReadKept}
use Rattle.footprint.proofs.Elements.{core_with, active-kept}
use Rattle.footprint.proofs.Untouched.{AvoidsScalars, ScalarKept, scalar-kept}

-- ---- setting

module _ (c : Change) (x : List ℕ) where
  avl-kept : (a : AvlSource) → AvoidsScalars c (avl_scalars a) → avl_from (changed_scalars c x) a ≡ avl_from x a
  avl-kept (S.Register r) h = rw ((scalar-kept c r [] h).read x)
  avl-kept (S.Number n) h = refl
  avl-kept S.Largest h = refl
  avl-kept S.Kept h = refl

  type-kept : (t : TypeSource) → AvoidsScalars c (type_scalars t) → type_from (changed_scalars c x) t ≡ type_from x t
  type-kept (Given v) h = refl
  type-kept (InRegister r) h = (scalar-kept c r [] h).read x

pub setting_kept : (b : Board) (c : Change) (t : Setting) (s : Core) → ScalarKept c t.rd → AvoidsScalars c (avl_scalars t.avl)
    → AvoidsScalars c (type_scalars t.vtype) → setting_result b t (core_with c s) ≡ core_with c (setting_result b t s)
unfolding setting_result
setting_kept b c t s h p q = rw (avl-kept c s.scalars t.avl p, type-kept c s.scalars t.vtype q, h.written s.scalars _)

-- ---- bits, elements and places that a change leaves alone

module _ (vlenb : ℕ) (c : Change) where
  -- one step of elements that are written one after the other: test, place and value are the same, and the place may be written before
  record StepKept (reg eew : ℕ) (t t' : Bool) (p p' x x' : ℕ) : Type 0 where
    test : t' ≡ t
    place : p' ≡ p
    value : x' ≡ x
    kept : ElementKept vlenb c reg eew p

  module _ (reg eew : ℕ) (writes writes' : ℕ → Bool) (place place' value value' : ℕ → ℕ) where
    step_kept : (k : ℕ) → StepKept reg eew (writes k) (writes' k) (place k) (place' k) (value k) (value' k) → (file : List ℕ)
        → cond (writes' k) (with_element vlenb (changed_registers c file) reg eew (place' k) (value' k)) (changed_registers c file)
        ≡ changed_registers c (cond (writes k) (with_element vlenb file reg eew (place k) (value k)) file)
    step_kept k h file = rw (h.test, h.place, h.value) (go (writes k))
      where
        go : (t : Bool) → cond t (with_element vlenb (changed_registers c file) reg eew (place k) (value k)) (changed_registers c file)
            ≡ changed_registers c (cond t (with_element vlenb file reg eew (place k) (value k)) file)
        go true = h.kept.written file (value k)
        go false = refl

    writing-kept : (i n : ℕ)
        → ((k : ℕ) → i ≤ k → k < i + n → StepKept reg eew (writes k) (writes' k) (place k) (place' k) (value k) (value' k))
        → (file : List ℕ)
        → writing_each vlenb reg eew writes' place' value' i n (changed_registers c file)
        ≡ changed_registers c (writing_each vlenb reg eew writes place value i n file)
    unfolding writing_each
    writing-kept i zero h file = refl
    writing-kept i (suc n) h file =
        ap (writing_each vlenb reg eew writes' place' value' (suc i) n) (step_kept i (h i (omega arith) (omega arith)) file)
        ∙ writing-kept (suc i) n (λ k l u. h k (omega arith) (omega arith)) _

  -- the set bits of a mask register, under v0 where it is the mask
  module _ (masked : Bool) (reg n : ℕ) (v0 : (i : ℕ) → i < n → masked ≡ true → ReadKept vlenb c (R.Bit 0) i)
      (mask : (i : ℕ) → i < n → ReadKept vlenb c (R.Bit reg) i) (file : List ℕ) where
    active-same : (i : ℕ) → i < n → active_of vlenb (changed_registers c file) masked i ≡ active_of vlenb file masked i
    active-same i l = active-kept vlenb c masked i file (v0 i l)

    set_same : (i : ℕ) → i < n → set_at vlenb (changed_registers c file) masked reg i ≡ set_at vlenb file masked reg i
    unfolding value_of
    set_same i l = ap₂ ◌&&◌ (active-same i l) (ap (λ (y : ℕ). eqb y 1) (mask i l file))

    population-same : (i : ℕ) → i ≤ n → population_of vlenb (changed_registers c file) masked reg i ≡ population_of vlenb file masked reg i
    unfolding population_of
    population-same zero l = refl
    population-same (suc i) l =
        ap₂ (λ (m : ℕ) (t : Bool). m + flag t) (population-same i (omega arith)) (set_same i (omega arith))

    first-same : (i k : ℕ) → i + k ≤ n → first_of vlenb (changed_registers c file) masked reg i k ≡ first_of vlenb file masked reg i k
    unfolding first_of
    first-same i zero l = refl
    first-same i (suc k) l = ap₂ (λ (t : Bool) (m : ℕ). cond t i m) (set_same i (omega arith)) (first-same (suc i) k (omega arith))

-- ---- masks

-- what is written: a scalar register, or a mask
abbrev pub ResultSpared : ℕ → ℕ → Change → MaskInstruction → MaskOp → Type 0
ResultSpared vlenb vl c m Vcpop = ScalarKept c m.rd
ResultSpared vlenb vl c m Vfirst = ScalarKept c m.rd
ResultSpared vlenb vl c m Vmsbf = (i : ℕ) → i < vl → ElementKept vlenb c m.rd 1 i
ResultSpared vlenb vl c m Vmsof = (i : ℕ) → i < vl → ElementKept vlenb c m.rd 1 i
ResultSpared vlenb vl c m Vmsif = (i : ℕ) → i < vl → ElementKept vlenb c m.rd 1 i

module _ (vlenb vl : ℕ) (c : Change) (m : MaskInstruction) (v0 : (i : ℕ) → i < vl → m.masked ≡ true → ReadKept vlenb c (R.Bit 0) i)
    (vs2 : (i : ℕ) → i < vl → ReadKept vlenb c (R.Bit m.vs2) i) (s : Core) where
  first-kept : first_in vlenb vl m (core_with c s) ≡ first_in vlenb vl m s
  first-kept = first-same vlenb c m.masked m.vs2 vl v0 vs2 s.registers 0 vl (omega arith)

  setting-first-kept : ((i : ℕ) → i < vl → ElementKept vlenb c m.rd 1 i) → (first : ℕ)
      → setting_first vlenb vl (changed_registers c s.registers) m first
      ≡ changed_registers c (setting_first vlenb vl s.registers m first)
  setting-first-kept h first =
      writing-kept vlenb c m.rd 1 _ _ _ _ _ _ 0 vl (λ k l u. record {
        test = active-same vlenb c m.masked m.vs2 vl v0 vs2 s.registers k (omega arith);
        place = refl;
        value = refl;
        kept = h k (omega arith);
      }) s.registers

  pub mask-kept : (op : MaskOp) → ResultSpared vlenb vl c m op
      → mask_result vlenb vl m (core_with c s) op ≡ core_with c (mask_result vlenb vl m s op)
  unfolding mask_result
  mask-kept Vcpop h =
      rw (population-same vlenb c m.masked m.vs2 vl v0 vs2 s.registers vl (omega arith), h.written s.scalars _)
  mask-kept Vfirst h = rw (first-kept, h.written s.scalars _)
  mask-kept Vmsbf h = rw (first-kept, setting-first-kept h (first_in vlenb vl m s))
  mask-kept Vmsof h = rw (first-kept, setting-first-kept h (first_in vlenb vl m s))
  mask-kept Vmsif h = rw (first-kept, setting-first-kept h (first_in vlenb vl m s))

-- ---- reductions

actives-same : (active active' : ℕ → Bool) (element element' : ℕ → ℕ) (i n : ℕ)
    → ((k : ℕ) → i ≤ k → k < i + n → (active' k ≡ active k) × (element' k ≡ element k))
    → active_elements active' element' i n ≡ active_elements active element i n
unfolding active_elements
actives-same active active' element element' i zero h = refl
actives-same active active' element element' i (suc n) h =
    let q = h i (omega arith) (omega arith) in
    rw (q.0, q.1, actives-same active active' element element' (suc i) n (λ k l u. h k (omega arith) (omega arith)))

module _ (vlenb vl : ℕ) (c : Change) (r : Reduction) (v0 : (i : ℕ) → i < vl → r.masked ≡ true → ReadKept vlenb c (R.Bit 0) i)
    (vs2 : (i : ℕ) → i < vl → ReadKept vlenb c (R.Element r.vs2) i) (vs1 : ElementKept vlenb c r.vs1.reg r.vs1.eew 0)
    (vd : ElementKept vlenb c r.vd.reg r.vd.eew 0) (file : List ℕ) where
  elements_same : elements_in vlenb (changed_registers c file) r 0 vl ≡ elements_in vlenb file r 0 vl
  unfolding value_of
  elements_same =
      actives-same _ _ _ _ 0 vl (λ k l u. (active-kept vlenb c r.masked k file (v0 k (omega arith)), vs2 k (omega arith) file))

  pub reduction-kept : reduced_file vlenb (changed_registers c file) r vl ≡ changed_registers c (reduced_file vlenb file r vl)
  unfolding reduced_file
  reduction-kept = rw (elements_same, vs1.read file) (go (eqb vl 0))
    where
      x : ℕ
      x = foldl (joined_by r.op r.sew) (element_at vlenb file r.vs1.reg r.vs1.eew 0) (elements_in vlenb file r 0 vl)

      go : (t : Bool) → cond t (changed_registers c file) (with_element vlenb (changed_registers c file) r.vd.reg r.vd.eew 0 x)
          ≡ changed_registers c (cond t file (with_element vlenb file r.vd.reg r.vd.eew 0 x))
      go true = refl
      go false = vd.written file x

-- ---- viota.m and vcompress.vm

population-le : (vlenb : ℕ) (file : List ℕ) (masked : Bool) (reg i : ℕ) → population_of vlenb file masked reg i ≤ i
unfolding population_of
population-le vlenb file masked reg zero = omega arith
population-le vlenb file masked reg (suc i) =
    omega (arith, population-le vlenb file masked reg i, flag-le (set_at vlenb file masked reg i))
  where
    flag-le : (t : Bool) → flag t ≤ 1
    flag-le true = omega arith
    flag-le false = omega arith

module _ (vlenb vl : ℕ) (c : Change) (p : Packing) (v0 : (i : ℕ) → i < vl → p.masked ≡ true → ReadKept vlenb c (R.Bit 0) i)
    (mask : (i : ℕ) → i < vl → ReadKept vlenb c (R.Bit p.mask) i) (elements : (i : ℕ) → i < vl → ReadKept vlenb c p.elements i)
    (vd : (i : ℕ) → i < vl → ElementKept vlenb c p.vd.reg p.vd.eew i) (file : List ℕ) where
  below-same : (i : ℕ) → i ≤ vl
      → population_of vlenb (changed_registers c file) p.masked p.mask i ≡ population_of vlenb file p.masked p.mask i
  below-same = population-same vlenb c p.masked p.mask vl v0 mask file

  packing-step : (op : PackOp) (i : ℕ) → i < vl
      → StepKept vlenb c p.vd.reg p.vd.eew (packs vlenb file p op i) (packs vlenb (changed_registers c file) p op i)
      (packed_place vlenb file p op i) (packed_place vlenb (changed_registers c file) p op i) (packed_value vlenb file p op i)
      (packed_value vlenb (changed_registers c file) p op i)
  packing-step Viota i l = record {
    test = active-same vlenb c p.masked p.mask vl v0 mask file i l;
    place = refl;
    value = ap (λ (n : ℕ). n % 2 ^ p.vd.eew) (below-same i (omega arith));
    kept = vd i l;
  }
  packing-step Vcompress i l = record {
    test = set_same vlenb c p.masked p.mask vl v0 mask file i l;
    place = below-same i (omega arith);
    value = elements i l file;
    kept = vd _ (omega (arith, population-le vlenb file p.masked p.mask i));
  }

  pub packing-kept : packed_file vlenb (changed_registers c file) p vl ≡ changed_registers c (packed_file vlenb file p vl)
  packing-kept =
      writing-kept vlenb c p.vd.reg p.vd.eew _ _ _ _ _ _ 0 vl (λ k l u. packing-step p.op k (omega arith)) file

-- ---- the scalar moves

pub move-kept : (vlenb : ℕ) (c : Change) (m : ScalarMove) (v : ℕ) (s : Core) → ElementKept vlenb c m.vector.reg m.vector.eew 0
    → ScalarKept c m.scalar → (op : ScalarMoveOp)
    → scalar_move_result vlenb m v (core_with c s) op ≡ core_with c (scalar_move_result vlenb m v s op)
unfolding scalar_move_result
move-kept vlenb c m v s h k VmvXS = rw (h.read s.registers, k.written s.scalars _)
move-kept vlenb c m v s h k VmvSX = rw (k.read s.scalars, go (ltb v s.control.vl))
  where
    file : List ℕ
    file = s.registers

    x : ℕ
    x = scalar_of s.scalars m.scalar

    go : (t : Bool)
        → cond t (with_element vlenb (changed_registers c file) m.vector.reg m.vector.eew 0 x) (changed_registers c file)
        ≡ changed_registers c (cond t (with_element vlenb file m.vector.reg m.vector.eew 0 x) file)
    go true = h.written file x
    go false = refl
