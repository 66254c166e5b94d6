-- A legal plan of elements: what it writes at one element leaves what a later element reads as it was.
use Prim.Native.Nat.{ℕ, ◌*◌, ◌/◌, ◌≤◌, ◌<◌}
use mathlib.Core.Path.{◌≡◌, refl, sym, subst}
use mathlib.Core.Logic.{◌⊎◌, ⊎_elim}
use mathlib.Core.List.{List}
use mathlib.Core.Bool.{Bool, true, false, not, ◌||◌, cond}
use native.Mathlib.Omega.{arith}
use native.Mathlib.Nat.{div-le_of_le-mul, mul-le-mul_right, le_refl}
use lib.Dec.{T, eqb, lit≤}
use borrow.Author.Tests.{eq-eqb}
use Rattle.laws.proofs.Apart.{both_left, both_right, or_cases}
use Rattle.laws.proofs.Chain.{either}
use Rattle.operation.specs.declared.Size.{Size}
use Rattle.operation.specs.declared.Size.TheVariants.{Absent, Bit, Eighth, Quarter, Half, Single, Double}
use Rattle.operation.specs.declared.V0.{V0}
use Rattle.operation.specs.declared.V0.TheVariants as Z
use Rattle.operation.specs.Shape.{shape_of}
use Rattle.control.specs.declared.Board.{Board}
use Rattle.control.specs.declared.Control.{Control}
use Rattle.control.specs.Board.{Valid}
use Rattle.control.specs.Vtype.{vill, sew_of, vlmax_of, supported_of}
use Rattle.control.proofs.Laws.{sew-ge, vlmax-le, typed-well-apart, Possible}
use Rattle.decode.specs.declared.Arithmetic.{Arithmetic}
use Rattle.decode.specs.declared.Access.{Access}
use Rattle.decode.specs.declared.Source.{Source}
use Rattle.decode.specs.declared.Source.TheVariants.{Vector, Scalar, Immediate}
use Rattle.decode.specs.declared.Mode.{Mode}
use Rattle.decode.specs.declared.Mode.TheVariants as M
use Rattle.decode.specs.declared.PermutationOp.{PermutationOp}
use Rattle.decode.specs.declared.PermutationOp.TheVariants.{Vid, Vslideup, Vslidedown, Vslide1up, Vslide1down, Vrgather, Vrgatherei16}
use Rattle.decode.specs.declared.PermutationInstruction.{PermutationInstruction}
use Rattle.decode.specs.declared.PackOp.{PackOp}
use Rattle.decode.specs.declared.PackOp.TheVariants.{Viota, Vcompress}
use Rattle.decode.specs.declared.PackInstruction.{PackInstruction}
use Rattle.decode.specs.declared.ReductionOp.{ReductionOp}
use Rattle.decode.specs.declared.ReductionOp.TheVariants.{Vredsum, Vredand, Vredor, Vredxor, Vredminu, Vredmin, Vredmaxu, Vredmax}
use Rattle.decode.specs.declared.ReductionOp.TheVariants.{Vwredsumu, Vwredsum}
use Rattle.decode.specs.declared.Instruction.{Instruction}
use Rattle.decode.specs.declared.Instruction.TheVariants as I
use Rattle.decode.specs.Fields.{ModeFits, AccessFits, Fits}
use Rattle.layout.specs.Layout.{with_element, element_width, Inside}
use Rattle.layout.proofs.ElementLaws as Element
use Rattle.layout.proofs.ElementLaws.{Apart}
use Rattle.group.specs.declared.Group.{Group}
use Rattle.group.specs.Group.{mask_group, field_group, placed_of, apart_of, may_overlap_of, spares_v0}
use Rattle.plan.specs.declared.Read.{Read}
use Rattle.plan.specs.declared.Read.TheVariants as R
use Rattle.plan.specs.declared.Action.{Action}
use Rattle.plan.specs.declared.Action.TheVariants as A
use Rattle.plan.specs.declared.Permute.{Permute}
use Rattle.plan.specs.declared.Transfer.{Transfer}
use Rattle.plan.specs.declared.Elementwise.{Elementwise}
use Rattle.plan.proofs.AccessLaws.{one_of, eew-low, whole_le}
use Rattle.plan.specs.declared.Plan.{Plan}
use Rattle.plan.specs.declared.Plan.TheVariants as P
use Rattle.plan.specs.Plan.{group_at, groups_at, read_at, group_of, second_of, v0_read, shaped_of, computing_of, moving_of, by_mode}
use Rattle.plan.specs.Plan.{plan_of}
use Rattle.plan.specs.Plan.{index_of, moved_elements, moved_by, permuting_of, scalar_eew, packed_elements}
use Rattle.legality.specs.Legal.{overlap_fits, read_fits, writes_registers, strictly, is_strict, is_bit, operands_fit}
use Rattle.machine.specs.Effect.{value_of}
use Rattle.machine.proofs.Geometry.{Power, power-of, product-power, quotient_power, quotient-low, sew-power, Extent, mask-extent}
use Rattle.machine.proofs.Geometry.{placed-extent, extent, inside, groups-apart, overlap-apart, v0-apart}

-- ---- legality taken apart

pub record Legal (elen : ℕ) (writes : Bool) (e : Elementwise) : Type 0 where
  pub dest : (eqb e.dest.eew 1 || placed_of elen e.dest) ≡ true
  pub vs2 : read_fits elen writes (is_strict e.action) e.dest e.vs2 ≡ true
  pub vs1 : read_fits elen writes (is_strict e.action) e.dest e.vs1 ≡ true
  pub vd : read_fits elen writes (is_strict e.action) e.dest e.vd ≡ true
  pub v0 : (not writes || spares_v0 (e.masked || is_bit e.v0) e.dest) ≡ true

pub legal-at : (elen : ℕ) (e : Elementwise) → operands_fit elen e ≡ true → Legal elen (writes_registers e.action) e
unfolding operands_fit
legal-at elen e h = search (both_left, both_right)

legal-facts : (elen : ℕ) (e : Elementwise) → operands_fit elen e ≡ true → writes_registers e.action ≡ true → Legal elen true e
legal-facts elen e h t = subst (λ (p : Bool). Legal elen p e) t (legal-at elen e h)

-- ---- operands at a vtype: a number, a mask register, or a group

pub data Operand (v : ℕ) : Read → Type 0 where
  constant : (n : ℕ) → Operand v (R.Constant n)
  bit : (reg : ℕ) → Operand v (R.Bit reg)
  element : (eew reg nf : ℕ) → Power eew → (eew ≡ 1 → nf ≡ 0) → Operand v (R.Element (groups_at v eew reg nf))

part : (v k reg : ℕ) → 1 ≤ k → k ≤ 8 → Power k → Operand v (R.Element (group_at v (sew_of v / k) reg))
part v k reg l u p =
    element (sew_of v / k) reg 0 (quotient_power (sew_of v) k (sew-power v) p (quotient-low (sew_of v) k l (omega (arith, sew-ge v))))
    (λ e. refl)

pub read-operand : (v : ℕ) (size : Size) (reg : ℕ) → Operand v (read_at v size reg)
unfolding read_at
read-operand v Absent reg = constant 0
read-operand v Bit reg = bit reg
read-operand v Eighth reg = part v 8 reg (lit≤ tt) (lit≤ tt) (power-of 3)
read-operand v Quarter reg = part v 4 reg (lit≤ tt) (lit≤ tt) (power-of 2)
read-operand v Half reg = part v 2 reg (lit≤ tt) (lit≤ tt) (power-of 1)
read-operand v Single reg = element (sew_of v) reg 0 (sew-power v) (λ e. refl)
read-operand v Double reg = element (2 * sew_of v) reg 0 (product-power 2 (sew_of v) (power-of 1) (sew-power v)) (λ e. refl)

second-operand : (x : List ℕ) (v : ℕ) (size : Size) (unsigned : Bool) (s : Source) → Operand v (second_of x v size unsigned s)
unfolding second_of
second-operand x v size unsigned (Vector r) = read-operand v size r
second-operand x v size unsigned (Scalar r) = constant _
second-operand x v size unsigned (Immediate n) = constant _

index-operand : (x : List ℕ) (v eew : ℕ) (s : Source) → Power eew → Operand v (index_of x v eew s)
unfolding index_of
index-operand x v eew (Vector r) p = element eew r 0 p (λ e. refl)
index-operand x v eew (Scalar r) p = constant _
index-operand x v eew (Immediate n) p = constant n

if-operand : (v : ℕ) (t : Bool) (r : Read) → Operand v r → Operand v (cond t r (R.Constant 0))
if-operand v t r o = either (Operand v) t r (R.Constant 0) (λ h. o) (λ h. constant 0)

-- ---- what a later element reads, after an element of a field of the destination was written

abbrev pub Kept : ℕ → ℕ → Group → Read → Type 0
Kept vlenb end d r =
    (file : List ℕ) (k j i x : ℕ) → k ≤ d.nf → j < i → i < end
    → value_of vlenb (with_element vlenb file (field_group d k).reg d.eew j x) r i ≡ value_of vlenb file r i

-- the elements k of vs2 that element i of a permutation may read: below VLMAX, and from i up unless vs2 is no part of the destination
abbrev pub Reaches : Permute → ℕ → ℕ → Type 0
Reaches p i k = (k < p.vlmax) × ((strictly p.op ≡ true) ⊎ (i ≤ k))

-- those too are read as before
abbrev pub MovedKept : ℕ → Elementwise → Action → Type 0
MovedKept vlenb e (A.Compute k) = Unit {0}
MovedKept vlenb e (A.Permute p) =
    (file : List ℕ) (f j i k x : ℕ) → f ≤ e.dest.nf → j < i → i < e.end → Reaches p i k
    → value_of vlenb (with_element vlenb file (field_group e.dest f).reg e.dest.eew j x) e.vs2 k ≡ value_of vlenb file e.vs2 k
MovedKept vlenb e (A.Transfer t) = Unit {0}

pub record Undisturbed (vlenb : ℕ) (e : Elementwise) : Type 0 where
  pub vs2 : Kept vlenb e.end e.dest e.vs2
  pub vs1 : Kept vlenb e.end e.dest e.vs1
  pub vd : Kept vlenb e.end e.dest e.vd
  pub v0 : Kept vlenb e.end e.dest e.v0
  pub mask : e.masked ≡ true → Kept vlenb e.end e.dest (R.Bit 0)
  pub moved : MovedKept vlenb e e.action

constant-kept : (vlenb end : ℕ) (d : Group) (n : ℕ) → Kept vlenb end d (R.Constant n)
unfolding value_of
constant-kept vlenb end d n file k j i x m l u = refl

-- v0 as the mask or as an operand
pub data OfV0 : Read → Type 0 where
  unused : OfV0 (R.Constant 0)
  used : OfV0 (R.Bit 0)

v0-of : (z : V0) (masked : Bool) → OfV0 (v0_read z masked)
v0-of Z.Masks masked = unused
v0-of Z.Operand masked = used
v0-of Z.MaybeOperand true = used
v0-of Z.MaybeOperand false = unused
v0-of Z.Unused masked = unused

bit_kept : (vlenb end : ℕ) (d : Group) → T (element_width d.eew) → end ≤ 8 * vlenb → (not (eqb d.reg 0) || eqb d.eew 1) ≡ true
    → Kept vlenb end d (R.Bit 0)
unfolding value_of
bit_kept vlenb end d t m h file k j i x n l u =
    Element.apart vlenb file (field_group d k).reg d.eew j x 0 1 i t tt (v0-apart vlenb d k j i l (omega arith) h)

spared : (p : Bool) (d : Group) → spares_v0 p d ≡ true → p ≡ true → (not (eqb d.reg 0) || eqb d.eew 1) ≡ true
unfolding spares_v0
spared true d h e = h
spared false d h e = absurd (subst T (sym e) tt)

mask-spared : (m : Bool) (r : Read) (d : Group) → spares_v0 (m || is_bit r) d ≡ true → m ≡ true
    → (not (eqb d.reg 0) || eqb d.eew 1) ≡ true
mask-spared m r d h e = spared (m || is_bit r) d h (rw e)

v0-spared : (m : Bool) (d : Group) → spares_v0 (m || true) d ≡ true → (not (eqb d.reg 0) || eqb d.eew 1) ≡ true
v0-spared true d h = spared true d h refl
v0-spared false d h = spared true d h refl

v0-kept : (vlenb end : ℕ) (d : Group) (m : Bool) (r : Read) → T (element_width d.eew) → end ≤ 8 * vlenb → OfV0 r
    → spares_v0 (m || is_bit r) d ≡ true
    → Kept vlenb end d r
v0-kept vlenb end d m _ t l unused h = constant-kept vlenb end d 0
v0-kept vlenb end d m _ t l used h = bit_kept vlenb end d t l (v0-spared m d h)

-- how a source may overlap: apart, where the instruction is strict, and in any case as the overlap rule has it
strict_apart : (d g : Group) → overlap_fits true d g ≡ true → apart_of d g ≡ true
strict_apart d g h = ⊎_elim (λ t. t) (λ t. absurd (subst T (sym t) tt)) (or_cases (apart_of d g) _ h)

overlap-of : (strict : Bool) (d g : Group) → overlap_fits strict d g ≡ true → may_overlap_of d g ≡ true
unfolding may_overlap_of
overlap-of strict d g h = ⊎_elim (λ t. rw t) (λ t. both_right (not strict) _ t) (or_cases (apart_of d g) _ h)

-- ---- at a supported vtype v

module _ (b : Board) (v : ℕ) (w : Valid b) (h : supported_of b v ≡ true) where
  dest-extent : (r : Read) → Operand v r → (eqb (group_of r).eew 1 || placed_of b.elen (group_of r)) ≡ true
      → Extent (vlmax_of b v) b.vlenb (group_of r)
  dest-extent _ (constant n) t = mask-extent b v 0
  dest-extent _ (bit reg) t = mask-extent b v reg
  dest-extent _ (element eew reg nf p z) t = extent b v w h eew p reg nf z t

  module _ (d : Group) (x : Extent (vlmax_of b v) b.vlenb d) where
    -- an element j of a field of the destination has no bit of element i of a source that may overlap it so, where R says it of j and i
    abbrev ApartWhere : (ℕ → ℕ → Type 0) → Bool → Type 0
    ApartWhere R strict = (g : Group) → Extent (vlmax_of b v) b.vlenb g → overlap_fits strict d g ≡ true
        → (k j i : ℕ) → k ≤ d.nf → R j i → Apart b.vlenb (field_group d k).reg d.eew j g.reg g.eew i

    -- then element i is read as before. A bit reads as an element of a mask register
    kept-where : (R : ℕ → ℕ → Type 0) (strict : Bool) → ApartWhere R strict → (r : Read) → Operand v r
        → read_fits b.elen true strict d r ≡ true → (file : List ℕ) (k j i n : ℕ) → k ≤ d.nf → R j i
        → value_of b.vlenb (with_element b.vlenb file (field_group d k).reg d.eew j n) r i ≡ value_of b.vlenb file r i
    unfolding value_of read_fits
    kept-where R strict f _ (constant m) t file k j i n l u = refl
    kept-where R strict f _ (bit reg) t file k j i n l u =
        Element.apart b.vlenb file (field_group d k).reg d.eew j n reg 1 i x.width tt
        (f (mask_group reg) (mask-extent b v reg) t k j i l u)
    kept-where R strict f _ (element eew reg nf p z) t file k j i n l u =
        let g : Group = groups_at v eew reg nf in
        let y = placed-extent b v w h eew p reg nf (both_left (placed_of b.elen g) (overlap_fits strict d g) t) in
        Element.apart b.vlenb file (field_group d k).reg d.eew j n reg eew i x.width y.width
        (f g y (both_right (placed_of b.elen g) (overlap_fits strict d g) t) k j i l u)

    -- later elements, whatever the instruction
    operand-kept : (end : ℕ) (strict : Bool) → end ≤ vlmax_of b v → (r : Read) → Operand v r → read_fits b.elen true strict d r ≡ true
        → Kept b.vlenb end d r
    operand-kept end strict most r o t file k j i n m l u =
        kept-where (λ j i. (j < i) × (i < end)) strict
        (λ g y q k j i m s. overlap-apart (vlmax_of b v) b.vlenb d g k j i w.some x y m s.0 (omega arith) (overlap-of strict d g q))
        r o t file k j i n m (l, u)

    -- every element below VLMAX, where the instruction is strict
    pub strictly-kept : (r : Read) → Operand v r → read_fits b.elen true true d r ≡ true → (file : List ℕ) (k j i n : ℕ) → k ≤ d.nf
        → j < vlmax_of b v → i < vlmax_of b v
        → value_of b.vlenb (with_element b.vlenb file (field_group d k).reg d.eew j n) r i ≡ value_of b.vlenb file r i
    strictly-kept r o t file k j i n m l u =
        kept-where (λ j i. (j < vlmax_of b v) × (i < vlmax_of b v)) true
        (λ g y q k j i m s. groups-apart (vlmax_of b v) b.vlenb d g k j i x y m s.0 s.1 (strict_apart d g q))
        r o t file k j i n m (l, u)

-- a permutation reads below VLMAX
abbrev pub ReachFits : ℕ → Action → Type 0
ReachFits vlmax (A.Compute k) = Unit {0}
ReachFits vlmax (A.Permute p) = p.vlmax ≡ vlmax
ReachFits vlmax (A.Transfer t) = Unit {0}

-- an instruction whose operands go by a supported vtype v
pub record Typed (b : Board) (v : ℕ) (e : Elementwise) : Type 0 where
  pub supported : supported_of b v ≡ true
  pub end : e.end ≤ vlmax_of b v
  pub written : Read
  pub operand : Operand v written
  pub dest : e.dest ≡ group_of written
  pub vs2 : Operand v e.vs2
  pub vs1 : Operand v e.vs1
  pub vd : Operand v e.vd
  pub v0 : OfV0 e.v0
  pub reach : ReachFits (vlmax_of b v) e.action

pub typed-extent : (b : Board) (v : ℕ) (e : Elementwise) → Valid b → Typed b v e
    → (eqb e.dest.eew 1 || placed_of b.elen e.dest) ≡ true
    → Extent (vlmax_of b v) b.vlenb e.dest
typed-extent b v e w y =
    subst (λ (g : Group). (eqb g.eew 1 || placed_of b.elen g) ≡ true → Extent (vlmax_of b v) b.vlenb g) (sym y.dest)
    (dest-extent b v w y.supported y.written y.operand)

-- NO ELEMENT OF A PERMUTATION CHANGES WHAT A LATER ONE READS: a slide down reads from its own index up, and what else moves is strict
moved-kept : (b : Board) (v : ℕ) (e : Elementwise) → Valid b → Typed b v e → Extent (vlmax_of b v) b.vlenb e.dest → (a : Action)
    → ReachFits (vlmax_of b v) a → read_fits b.elen true (is_strict a) e.dest e.vs2 ≡ true → MovedKept b.vlenb e a
moved-kept b v e w y x (A.Compute k) q t = tt
moved-kept b v e w y x (A.Transfer z) q t = tt
moved-kept b v e w y x (A.Permute p) q t = λ file f j i k n m l u r.
    ⊎_elim
    (λ s. strictly-kept b v w y.supported e.dest x e.vs2 y.vs2
    (subst (λ z. read_fits b.elen true z e.dest e.vs2 ≡ true) s t) file f j k n m (omega (arith, y.end)) (omega (arith, r.0)))
    (λ s. operand-kept b v w y.supported e.dest x (vlmax_of b v) (strictly p.op) (le_refl _) e.vs2 y.vs2 t file f j k n m
    (omega arith) (omega (arith, r.0)))
    r.1

undisturbed : (b : Board) (v : ℕ) (e : Elementwise) → Valid b → Typed b v e → Legal b.elen true e → Undisturbed b.vlenb e
undisturbed b v e w y l =
    let x = typed-extent b v e w y l.dest in
    let most : e.end ≤ 8 * b.vlenb = omega (arith, y.end, vlmax-le b v) in
    let kept = operand-kept b v w y.supported e.dest x e.end (is_strict e.action) y.end in
    record {
      vs2 = kept e.vs2 y.vs2 l.vs2;
      vs1 = kept e.vs1 y.vs1 l.vs1;
      vd = kept e.vd y.vd l.vd;
      v0 = v0-kept b.vlenb e.end e.dest e.masked e.v0 x.width most y.v0 l.v0;
      mask = λ t. bit_kept b.vlenb e.end e.dest x.width most (mask-spared e.masked e.v0 e.dest l.v0 t);
      moved = moved-kept b v e w y x e.action y.reach l.vs2;
    }

-- where vl is not 0, vtype is supported
pub supported : (b : Board) (c : Control) → Possible b c → 0 < c.vl → (supported_of b c.vtype ≡ true) × (c.vl ≤ vlmax_of b c.vtype)
supported b c t l = ⊎_elim (λ q. absurd (omega arith)) (λ q. q) (typed-well-apart b c t.typed)

-- and where vill is clear
pub typed-supported : (b : Board) (c : Control) → Possible b c → not (eqb c.vtype vill) ≡ true
    → (supported_of b c.vtype ≡ true) × (c.vl ≤ vlmax_of b c.vtype)
typed-supported b c t n = ⊎_elim (λ q. absurd (not-vill q.0 n)) (λ q. q) (typed-well-apart b c t.typed)
  where
    not-vill : c.vtype ≡ vill → not (eqb c.vtype vill) ≡ true → ⊥
    not-vill e h = subst T (sym (rw (eq-eqb c.vtype vill e) at h)) tt

-- element i of a group of SEW bits, below vl
pub element-inside : (b : Board) (c : Control) → Valid b → Possible b c → (reg i : ℕ)
    → placed_of b.elen (group_at c.vtype (sew_of c.vtype) reg) ≡ true → reg < 32 → i < c.vl
    → Inside (32 * b.vlenb) b.vlenb reg (sew_of c.vtype) i
element-inside b c w t reg i h u l =
    let s = supported b c t (omega arith) in
    let v : ℕ = c.vtype in
    let x = placed-extent b v w s.0 (sew_of v) (sew-power v) reg 0 h in
    inside b.vlenb (vlmax_of b v) (group_at v (sew_of v) reg) i x.width x.within (omega (arith, x.ends u)) (omega (arith, s.1))

-- ---- arithmetic

pub computing-typed : (b : Board) (x : List ℕ) (c : Control) (a : Arithmetic) → Possible b c → 0 < (computing_of x c a).end
    → Typed b c.vtype (computing_of x c a)
unfolding shaped_of
computing-typed b x c a t l =
    let s = supported b c t l in
    let o = shape_of a.op in
    let d = read-operand c.vtype o.vd a.vd in
    record {
      supported = s.0;
      end = s.1;
      written = read_at c.vtype o.vd a.vd;
      operand = d;
      dest = refl;
      vs2 = read-operand c.vtype o.vs2 a.vs2;
      vs1 = second-operand x c.vtype o.vs1 o.unsigned a.source;
      vd = if-operand c.vtype o.accumulates (read_at c.vtype o.vd a.vd) d;
      v0 = v0-of o.v0 a.masked;
      reach = tt;
    }

-- ---- permutations

elements-operand : (v : ℕ) (op : PermutationOp) (reg : ℕ) → Operand v (moved_elements v op reg)
elements-operand v Vid reg = constant 0
elements-operand v Vslideup reg = read-operand v Single reg
elements-operand v Vslidedown reg = read-operand v Single reg
elements-operand v Vslide1up reg = read-operand v Single reg
elements-operand v Vslide1down reg = read-operand v Single reg
elements-operand v Vrgather reg = read-operand v Single reg
elements-operand v Vrgatherei16 reg = read-operand v Single reg

by-operand : (x : List ℕ) (v : ℕ) (op : PermutationOp) (s : Source) → Operand v (moved_by x v op s)
by-operand x v Vid s = constant 0
by-operand x v Vslideup s = index-operand x v (sew_of v) s (sew-power v)
by-operand x v Vslidedown s = index-operand x v (sew_of v) s (sew-power v)
by-operand x v Vslide1up s = second-operand x v Single true s
by-operand x v Vslide1down s = second-operand x v Single true s
by-operand x v Vrgather s = index-operand x v (sew_of v) s (sew-power v)
by-operand x v Vrgatherei16 s = index-operand x v 16 s (power-of 4)

pub permuting-typed : (b : Board) (x : List ℕ) (c : Control) (a : PermutationInstruction) → Possible b c
    → 0 < (permuting_of b x c a).end → Typed b c.vtype (permuting_of b x c a)
unfolding permuting_of
permuting-typed b x c a t l =
    let v : ℕ = c.vtype in
    let s = supported b c t l in
    record {
      supported = s.0;
      end = s.1;
      written = R.Element (group_at v (sew_of v) a.vd);
      operand = element (sew_of v) a.vd 0 (sew-power v) (λ e. refl);
      dest = refl;
      vs2 = elements-operand v a.op a.vs2;
      vs1 = by-operand x v a.op a.source;
      vd = constant 0;
      v0 = unused;
      reach = refl;
    }

-- ---- loads and stores

eew-power : (a : Access) → AccessFits a → Power a.eew
eew-power a f = one_of Power 8 16 32 64 (power-of 3) (power-of 4) (power-of 5) (power-of 6) a.eew f.eew

pub eew-width : (a : Access) → AccessFits a → T (element_width a.eew)
eew-width a f = one_of (λ n. T (element_width n)) 8 16 32 64 tt tt tt tt a.eew f.eew

module _ (b : Board) (x : List ℕ) (c : Control) (a : Access) (w : Valid b) (t : Possible b c) (f : AccessFits a) where
  pub mode-end : (m : Mode) → ModeFits m → (by_mode b x c a m).end ≤ 8 * b.vlenb
  unfolding by_mode moving_of
  mode-end M.UnitStride n = t.vl
  mode-end (M.Strided r) n = t.vl
  mode-end (M.Indexed r) n = t.vl
  mode-end M.MaskBytes n = omega (arith, t.vl, w.some)
  mode-end (M.Whole k) n =
      let all : k * (8 * b.vlenb) ≤ a.eew * (8 * b.vlenb) = mul-le-mul_right (8 * b.vlenb) (omega (arith, whole_le k n, eew-low a f)) in
      div-le_of_le-mul a.eew all

  -- a group at the vtype, alone or beside a group of offsets
  grouped : (eew : ℕ) (offset : Read) (z : Transfer) → Power eew → 8 ≤ eew → Operand c.vtype offset → 0 < c.vl
      → Typed b c.vtype (moving_of a true (groups_at c.vtype eew a.vd a.nf) offset z c.vl)
  unfolding moving_of
  grouped eew offset z p m o l =
      let s = supported b c t l in
      let d = element eew a.vd a.nf p (λ e. absurd (omega arith)) in
      record {
        supported = s.0;
        end = s.1;
        written = R.Element (groups_at c.vtype eew a.vd a.nf);
        operand = d;
        dest = refl;
        vs2 = o;
        vs1 = constant 0;
        vd = if-operand c.vtype z.store (R.Element (groups_at c.vtype eew a.vd a.nf)) d;
        v0 = unused;
        reach = tt;
      }

  abbrev Goes : Mode → Type 0
  Goes m = Typed b c.vtype (by_mode b x c a m)

  pub unit-typed : 0 < c.vl → Goes M.UnitStride
  unfolding by_mode
  unit-typed = grouped a.eew (R.Constant 0) _ (eew-power a f) (eew-low a f) (constant 0)

  pub strided-typed : (r : ℕ) → 0 < c.vl → Goes (M.Strided r)
  unfolding by_mode
  strided-typed r = grouped a.eew (R.Constant 0) _ (eew-power a f) (eew-low a f) (constant 0)

  pub indexed-typed : (r : ℕ) → 0 < c.vl → Goes (M.Indexed r)
  unfolding by_mode
  indexed-typed r =
      grouped (sew_of c.vtype) (R.Element (group_at c.vtype a.eew r)) _ (sew-power c.vtype) (sew-ge c.vtype)
      (element a.eew r 0 (eew-power a f) (λ e. refl))

  -- registers whatever the vtype: they are beside no other operand than the mask
  alone : (typed : Bool) (g : Group) (z : Transfer) (end : ℕ) → T (element_width g.eew) → end ≤ 8 * b.vlenb
      → (let e : Elementwise = moving_of a typed g (R.Constant 0) z end in
      operands_fit b.elen e ≡ true → writes_registers e.action ≡ true → Undisturbed b.vlenb e)
  unfolding moving_of
  alone typed g z end k m h r =
      let e : Elementwise = moving_of a typed g (R.Constant 0) z end in
      let same : (n : ℕ) → Kept b.vlenb end g (R.Constant n) = constant-kept b.vlenb end g in
      record {
        vs2 = same 0;
        vs1 = same 0;
        vd =
            either (Kept b.vlenb end g) z.store (R.Element g) (R.Constant 0)
            (λ p. absurd (subst T (sym (rw p at r)) tt)) (λ p. same 0);
        v0 = same 0;
        mask = λ q. bit_kept b.vlenb end g k m (mask-spared a.masked (R.Constant 0) g (legal-facts b.elen e h r).v0 q);
        moved = tt;
      }

  mode-undisturbed : (m : Mode) → ModeFits m
      → (let e : Elementwise = by_mode b x c a m in
      operands_fit b.elen e ≡ true → 0 < e.end → writes_registers e.action ≡ true → Undisturbed b.vlenb e)
  unfolding by_mode moving_of
  mode-undisturbed M.UnitStride n h l r = undisturbed b c.vtype _ w (unit-typed l) (legal-facts b.elen _ h r)
  mode-undisturbed (M.Strided k) n h l r = undisturbed b c.vtype _ w (strided-typed k l) (legal-facts b.elen _ h r)
  mode-undisturbed (M.Indexed k) n h l r = undisturbed b c.vtype _ w (indexed-typed k l) (legal-facts b.elen _ h r)
  mode-undisturbed M.MaskBytes n h l r = alone _ _ _ _ tt (mode-end M.MaskBytes n) h r
  mode-undisturbed (M.Whole k) n h l r = alone _ _ _ _ (eew-width a f) (mode-end (M.Whole k) n) h r

-- ---- the scalars of a reduction: of SEW bits, or twice as wide

pub record Wide (n : ℕ) : Type 0 where
  pub power : Power n
  pub low : 8 ≤ n

single : (v : ℕ) → Wide (sew_of v)
single v = record { power = sew-power v; low = sew-ge v }

double : (v : ℕ) → Wide (2 * sew_of v)
double v = record { power = product-power 2 (sew_of v) (power-of 1) (sew-power v); low = omega (arith, sew-ge v) }

pub scalar-wide : (v : ℕ) (op : ReductionOp) → Wide (scalar_eew op (sew_of v))
scalar-wide v Vredsum = single v
scalar-wide v Vredand = single v
scalar-wide v Vredor = single v
scalar-wide v Vredxor = single v
scalar-wide v Vredminu = single v
scalar-wide v Vredmin = single v
scalar-wide v Vredmaxu = single v
scalar-wide v Vredmax = single v
scalar-wide v Vwredsumu = double v
scalar-wide v Vwredsum = double v

-- ---- what viota.m and vcompress.vm pack

pub packed-operand : (v : ℕ) (op : PackOp) (a : PackInstruction) → Operand v (packed_elements v op a)
packed-operand v Viota a = constant 0
packed-operand v Vcompress a = read-operand v Single a.vs2

-- ---- the plan of a decoded word

-- what is known of it at a control record that can be
pub record Sound (b : Board) (e : Elementwise) : Type 0 where
  pub end : e.end ≤ 8 * b.vlenb
  pub undisturbed : operands_fit b.elen e ≡ true → 0 < e.end → writes_registers e.action ≡ true → Undisturbed b.vlenb e

abbrev pub PlanSound : Board → Plan → Type 0
PlanSound b P.Illegal = Unit {0}
PlanSound b (P.OneTurn t) = Unit {0}
PlanSound b (P.Elements e) = Sound b e

computing-sound : (b : Board) (x : List ℕ) (c : Control) (a : Arithmetic) → Valid b → Possible b c → Sound b (computing_of x c a)
unfolding shaped_of
computing-sound b x c a w t = record {
  end = t.vl;
  undisturbed =
      λ h l r. undisturbed b c.vtype (computing_of x c a) w (computing-typed b x c a t l) (legal-facts b.elen (computing_of x c a) h r);
}

permuting-sound : (b : Board) (x : List ℕ) (c : Control) (a : PermutationInstruction) → Valid b → Possible b c
    → Sound b (permuting_of b x c a)
unfolding permuting_of
permuting-sound b x c a w t = record {
  end = t.vl;
  undisturbed = λ h l r. undisturbed b c.vtype (permuting_of b x c a) w (permuting-typed b x c a t l)
      (legal-facts b.elen (permuting_of b x c a) h r);
}

pub plan-sound : (b : Board) (x : List ℕ) (c : Control) (i : Instruction) → Valid b → Possible b c → Fits i → PlanSound b (plan_of b x c i)
unfolding plan_of
plan-sound b x c I.Illegal w t f = tt
plan-sound b x c (I.Setting s) w t f = tt
plan-sound b x c (I.Mask m) w t f = tt
plan-sound b x c (I.Reduction a) w t f = tt
plan-sound b x c (I.Pack a) w t f = tt
plan-sound b x c (I.ScalarMove a) w t f = tt
plan-sound b x c (I.Arithmetic a) w t f = computing-sound b x c a w t
plan-sound b x c (I.Permutation a) w t f = permuting-sound b x c a w t
plan-sound b x c (I.Memory a) w t f = record {
  end = mode-end b x c a w t f a.mode f.mode;
  undisturbed = mode-undisturbed b x c a w t f a.mode f.mode;
}
