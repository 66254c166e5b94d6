-- viota.m and vcompress.vm, where they are legal: what the walk relies on.
use Prim.Native.Nat.{ℕ, zero, suc, ◌+◌, ◌*◌, ◌≤◌, ◌<◌}
use mathlib.Core.Path.{◌≡◌, refl, sym, subst}
use mathlib.Core.Bool.{Bool, true, false, not, ◌||◌}
use mathlib.Core.Logic.{⊎_elim}
use mathlib.Core.List.{List}
use native.Mathlib.Omega.{arith}
use lib.Dec.{T, leb, eqb, lit<}
use borrow.Author.Tests.{eqb-true, le-leb}
use Rattle.laws.proofs.Apart.{both_left, both_right, or_cases}
use Rattle.laws.proofs.Chain.{or_left}
use Rattle.control.specs.declared.Board.{Board}
use Rattle.control.specs.declared.Control.{Control}
use Rattle.control.specs.Board.{Valid}
use Rattle.control.specs.Vtype.{sew_of}
use Rattle.control.proofs.Laws.{Possible, sew-ge, supported-sew-le}
use Rattle.decode.specs.declared.PackOp.{PackOp}
use Rattle.decode.specs.declared.PackOp.TheVariants.{Viota, Vcompress}
use Rattle.decode.specs.declared.PackInstruction.{PackInstruction}
use Rattle.decode.specs.declared.Instruction.{Instruction}
use Rattle.decode.specs.declared.Instruction.TheVariants as I
use Rattle.decode.specs.Fields.{Fits}
use Rattle.layout.specs.Layout.{with_element}
use Rattle.group.specs.declared.Group.{Group}
use Rattle.group.specs.Group.{mask_group, field_group, span_of, placed_of, apart_of, spares_v0}
use Rattle.group.proofs.GroupLaws.{placed-facts}
use Rattle.plan.specs.declared.Read.{Read}
use Rattle.plan.specs.declared.Read.TheVariants as R
use Rattle.plan.specs.declared.Packing.{Packing}
use Rattle.plan.specs.declared.OneTurn.TheVariants as O
use Rattle.plan.specs.declared.Plan.{Plan}
use Rattle.plan.specs.declared.Plan.TheVariants as P
use Rattle.plan.specs.Plan.{group_at, read_at, packed_elements, packing_of, plan_of}
use Rattle.plan.specs.Range.{ReadInRange, PackingInRange, PlanFits}
use Rattle.plan.proofs.RangeLaws.{plan-range}
use Rattle.legality.specs.Legal.{startable, read_fits, packing_placed, one_turn_legal}
use Rattle.machine.specs.Effect.{value_of}
use Rattle.machine.proofs.Geometry.{sew-power, placed-extent, bit-inside}
use Rattle.machine.proofs.PlanFacts.{Operand, bit, packed-operand, supported, element-inside, strictly-kept}
use Rattle.execute.specs.Step.{ReadInside}
use Rattle.packing.specs.Packable.{KeepsRead, Packable}

-- ---- legality taken apart

record Fitting (elen : ℕ) (p : Packing) : Type 0 where
  placed : placed_of elen p.vd ≡ true
  elements : read_fits elen true true p.vd p.elements ≡ true
  mask : read_fits elen true true p.vd (R.Bit p.mask) ≡ true
  v0 : spares_v0 p.masked p.vd ≡ true

legal-facts : (b : Board) (c : Control) (p : Packing) → one_turn_legal b c (O.Packing p) ≡ true → Fitting b.elen p
unfolding one_turn_legal
legal-facts b c p h =
    let f : packing_placed b.elen p ≡ true = both_right (eqb c.vstart 0) _ (both_right (startable b c) _ h) in
    search (both_left, both_right)

-- a destination of elements of 8 bits or more that spares v0 has no part of it
or_right : (p q : Bool) → q ≡ true → (p || q) ≡ true
or_right true q h = refl
or_right false q h = h

v0-apart : (d : Group) → 8 ≤ d.eew → spares_v0 true d ≡ true → apart_of d (mask_group 0) ≡ true
unfolding spares_v0
v0-apart d l h =
    ⊎_elim
    (λ n. or_right (leb (d.reg + span_of d) 0) _ (le-leb 1 d.reg (nonzero d.reg n)))
    (λ e. absurd (omega (arith, eqb-true d.eew 1 e)))
    (or_cases (not (eqb d.reg 0)) _ h)
  where
    nonzero : (n : ℕ) → not (eqb n 0) ≡ true → 1 ≤ n
    nonzero zero e = absurd (subst T (sym e) tt)
    nonzero (suc n) e = omega arith

-- ---- the operands

module _ (b : Board) (c : Control) (w : Valid b) (t : Possible b c) (a : PackInstruction) where
  abbrev v : ℕ
  v = c.vtype

  abbrev p : Packing
  p = packing_of v a

  packed-inside : (op : PackOp) (i : ℕ) → read_fits b.elen true true (group_at v (sew_of v) a.vd) (packed_elements v op a) ≡ true
      → ReadInRange (packed_elements v op a) → i < c.vl → ReadInside (32 * b.vlenb) b.vlenb (packed_elements v op a) i
  unfolding read_fits read_at ReadInside
  packed-inside Viota i h u l = tt
  packed-inside Vcompress i h u l =
      element-inside b c w t a.vs2 i (both_left (placed_of b.elen (group_at v (sew_of v) a.vs2)) _ h) u l

  module _ (u : PackingInRange p) (f : Fitting b.elen p) where
    -- a source that the destination does not overlap
    keeps : (r : Read) → Operand v r → read_fits b.elen true true p.vd r ≡ true → KeepsRead b.vlenb p c.vl r
    unfolding packing_of
    keeps r o h file m x j k n =
        let d : Group = group_at v (sew_of v) a.vd in
        let s = supported b c t (omega arith) in
        let e = placed-extent b v w s.0 (sew_of v) (sew-power v) a.vd 0 f.placed in
        let first : (field_group d 0).reg ≡ a.vd = omega arith in
        subst (λ (reg : ℕ). value_of b.vlenb (with_element b.vlenb file reg (sew_of v) m x) r j ≡ value_of b.vlenb file r j) first
        (strictly-kept b v w s.0 d e r o h file 0 m j x (omega arith) (omega (arith, s.1)) (omega (arith, s.1)))

    packing-packable : Packable (32 * b.vlenb) b.vlenb p c.vl
    unfolding packing_of read_fits
    packing-packable = record {
      reachable = λ i n l k.
          let s = supported b c t (omega arith) in
          record {
            width = record { some = omega (arith, sew-ge v); most = supported-sew-le b v w s.0 };
            few = k;
            most = omega (arith, t.vl, w.most);
            here = element-inside b c w t a.vd i f.placed u.vd l;
            there = element-inside b c w t a.vd n f.placed u.vd (omega arith);
            elements = packed-inside a.op i f.elements u.elements l;
            mask = bit-inside b.vlenb p.mask i u.mask (omega (arith, t.vl));
            v0 = bit-inside b.vlenb 0 i (lit< tt) (omega (arith, t.vl));
          };
      elements = keeps p.elements (packed-operand v a.op a) f.elements;
      mask = keeps (R.Bit p.mask) (bit p.mask) f.mask;
      v0 = λ e. keeps (R.Bit 0) (bit 0) (or_left (apart_of p.vd (mask_group 0)) _
          (v0-apart p.vd (placed-facts b.elen p.vd f.placed).eew-low (rw e at f.v0)));
    }

-- ---- the plan of a decoded word

module _ (b : Board) (c : Control) (w : Valid b) (t : Possible b c) where
  abbrev PlanPackable : Plan → Type 0
  PlanPackable P.Illegal = Unit {0}
  PlanPackable (P.OneTurn (O.Setting s)) = Unit {0}
  PlanPackable (P.OneTurn (O.Mask m)) = Unit {0}
  PlanPackable (P.OneTurn (O.Reduction r)) = Unit {0}
  PlanPackable (P.OneTurn (O.Packing p)) = one_turn_legal b c (O.Packing p) ≡ true → Packable (32 * b.vlenb) b.vlenb p c.vl
  PlanPackable (P.OneTurn (O.ScalarMove m)) = Unit {0}
  PlanPackable (P.Elements e) = Unit {0}

  every-plan : (x : List ℕ) (i : Instruction) → PlanFits (plan_of b x c i) → PlanPackable (plan_of b x c i)
  unfolding plan_of
  every-plan x I.Illegal f = tt
  every-plan x (I.Setting s) f = tt
  every-plan x (I.Mask m) f = tt
  every-plan x (I.Reduction a) f = tt
  every-plan x (I.Pack a) f = λ h. packing-packable b c w t a f (legal-facts b c (packing_of c.vtype a) h)
  every-plan x (I.ScalarMove a) f = tt
  every-plan x (I.Arithmetic a) f = tt
  every-plan x (I.Permutation a) f = tt
  every-plan x (I.Memory a) f = tt

  pub packable : (x : List ℕ) (i : Instruction) (p : Packing) → Fits i → plan_of b x c i ≡ P.OneTurn (O.Packing p)
      → one_turn_legal b c (O.Packing p) ≡ true → Packable (32 * b.vlenb) b.vlenb p c.vl
  packable x i p f e = subst PlanPackable e (every-plan x i (plan-range b x c i f))
