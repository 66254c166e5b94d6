-- What the plan of a decoded word keeps to: its registers, and its scalars and immediates.
use Prim.Native.Nat.{ℕ, ◌≤◌, ◌<◌, ◌^◌}
use mathlib.Core.Path.{◌≡◌, subst}
use mathlib.Core.Bool.{Bool, true, cond}
use mathlib.Core.List.{List}
use native.Mathlib.Nat.{lt_of_lt_of_le}
use native.Mathlib.Omega.{arith}
use lib.Dec.{lit<}
use lib.Pow.{pow_pos, pow_mono}
use Rattle.width.specs.Width.{signed, wrap}
use Rattle.width.proofs.SignedLaws.{wrap-lt}
use Rattle.width.proofs.Bounds.{low-lt, choice-lt}
use Rattle.laws.proofs.Chain.{either}
use Rattle.operation.specs.declared.Size.{Size}
use Rattle.operation.specs.declared.Size.TheVariants.{Absent, Bit, Eighth, Quarter, Half, Single, Double}
use Rattle.operation.specs.declared.V0.{V0}
use Rattle.operation.specs.declared.V0.TheVariants.{Masks, Operand, MaybeOperand, Unused}
use Rattle.operation.specs.Shape.{shape_of}
use Rattle.control.specs.declared.Board.{Board}
use Rattle.control.specs.declared.Control.{Control}
use Rattle.control.specs.Vtype.{sew_of}
use Rattle.control.proofs.Laws.{sew-ge}
use Rattle.decode.specs.declared.Source.{Source}
use Rattle.decode.specs.declared.Source.TheVariants.{Vector, Scalar, Immediate}
use Rattle.decode.specs.declared.Mode.{Mode}
use Rattle.decode.specs.declared.Mode.TheVariants as M
use Rattle.decode.specs.declared.Arithmetic.{Arithmetic}
use Rattle.decode.specs.declared.PermutationOp.{PermutationOp}
use Rattle.decode.specs.declared.PermutationOp.TheVariants.{Vid, Vslideup, Vslidedown, Vslide1up, Vslide1down, Vrgather, Vrgatherei16}
use Rattle.decode.specs.declared.PermutationInstruction.{PermutationInstruction}
use Rattle.decode.specs.declared.PackOp.{PackOp}
use Rattle.decode.specs.declared.PackOp.TheVariants.{Viota, Vcompress}
use Rattle.decode.specs.declared.PackInstruction.{PackInstruction}
use Rattle.decode.specs.declared.Access.{Access}
use Rattle.decode.specs.declared.Instruction.{Instruction}
use Rattle.decode.specs.declared.Instruction.TheVariants as I
use Rattle.decode.specs.Fields.{SourceFits, ArithmeticFits, PermutationFits, PackFits, ModeFits, Fits}
use Rattle.group.specs.declared.Group.{Group}
use Rattle.plan.specs.declared.Read.{Read}
use Rattle.plan.specs.declared.Read.TheVariants as R
use Rattle.plan.specs.declared.Transfer.{Transfer}
use Rattle.plan.specs.declared.Plan.{Plan}
use Rattle.plan.specs.Plan.{scalar_of, read_at, group_of, second_of, v0_read, shaped_of, computing_of, index_of, moved_elements, moved_by}
use Rattle.plan.specs.Plan.{permuting_of, moving_of, by_mode, reducing_of, counted_mask, packed_elements, packing_of, scalar_moving_of}
use Rattle.plan.specs.Plan.{plan_of}
use Rattle.plan.specs.Range.{ReadInRange, InRange, PlanFits}

-- ---- the registers of a decoded word are in range

read-range : (v : ℕ) (z : Size) (reg : ℕ) → reg < 32 → ReadInRange (read_at v z reg)
unfolding read_at
read-range v Absent reg h = tt
read-range v Bit reg h = h
read-range v Eighth reg h = h
read-range v Quarter reg h = h
read-range v Half reg h = h
read-range v Single reg h = h
read-range v Double reg h = h

group-range : (r : Read) → ReadInRange r → (group_of r).reg < 32
group-range (R.Constant n) h = lit< tt
group-range (R.Element g) h = h
group-range (R.Bit reg) h = h

second_range : (x : List ℕ) (v : ℕ) (z : Size) (unsigned : Bool) (s : Source) → SourceFits s → ReadInRange (second_of x v z unsigned s)
unfolding second_of
second_range x v z unsigned (Vector r) h = read-range v z r h
second_range x v z unsigned (Scalar r) h = tt
second_range x v z unsigned (Immediate n) h = tt

if-range : (b : Bool) (r : Read) → ReadInRange r → ReadInRange (cond b r (R.Constant 0))
if-range b r h = either ReadInRange b r (R.Constant 0) (λ t. h) (λ t. tt)

v0-range : (v : V0) (masked : Bool) → ReadInRange (v0_read v masked)
v0-range Masks masked = tt
v0-range Operand masked = lit< tt
v0-range MaybeOperand masked = if-range masked (R.Bit 0) (lit< tt)
v0-range Unused masked = tt

computing-range : (x : List ℕ) (c : Control) (a : Arithmetic) → ArithmeticFits a → InRange (computing_of x c a)
unfolding shaped_of
computing-range x c a f =
    let z : Size = (shape_of a.op).vd in
    let d : ReadInRange (read_at c.vtype z a.vd) = read-range c.vtype z a.vd f.vd in
    record {
      dest = group-range (read_at c.vtype z a.vd) d;
      vs2 = read-range c.vtype (shape_of a.op).vs2 a.vs2 f.vs2;
      vs1 = second_range x c.vtype (shape_of a.op).vs1 (shape_of a.op).unsigned a.source f.source;
      vd = if-range (shape_of a.op).accumulates (read_at c.vtype z a.vd) d;
      v0 = v0-range (shape_of a.op).v0 a.masked;
    }

index-range : (x : List ℕ) (v eew : ℕ) (s : Source) → SourceFits s → ReadInRange (index_of x v eew s)
unfolding index_of
index-range x v eew (Vector r) h = h
index-range x v eew (Scalar r) h = tt
index-range x v eew (Immediate n) h = tt

moved-range : (v : ℕ) (op : PermutationOp) (reg : ℕ) → reg < 32 → ReadInRange (moved_elements v op reg)
moved-range v Vid reg h = tt
moved-range v Vslideup reg h = read-range v Single reg h
moved-range v Vslidedown reg h = read-range v Single reg h
moved-range v Vslide1up reg h = read-range v Single reg h
moved-range v Vslide1down reg h = read-range v Single reg h
moved-range v Vrgather reg h = read-range v Single reg h
moved-range v Vrgatherei16 reg h = read-range v Single reg h

moved-by-range : (x : List ℕ) (v : ℕ) (op : PermutationOp) (s : Source) → SourceFits s → ReadInRange (moved_by x v op s)
moved-by-range x v Vid s h = tt
moved-by-range x v Vslideup s h = index-range x v (sew_of v) s h
moved-by-range x v Vslidedown s h = index-range x v (sew_of v) s h
moved-by-range x v Vslide1up s h = second_range x v Single true s h
moved-by-range x v Vslide1down s h = second_range x v Single true s h
moved-by-range x v Vrgather s h = index-range x v (sew_of v) s h
moved-by-range x v Vrgatherei16 s h = index-range x v 16 s h

permuting-range : (b : Board) (x : List ℕ) (c : Control) (a : PermutationInstruction) → PermutationFits a → InRange (permuting_of b x c a)
unfolding permuting_of
permuting-range b x c a f =
    record {
      dest = f.vd;
      vs2 = moved-range c.vtype a.op a.vs2 f.vs2;
      vs1 = moved-by-range x c.vtype a.op a.source f.source;
      vd = tt;
      v0 = tt;
    }

packed-range : (v : ℕ) (op : PackOp) (a : PackInstruction) → PackFits a → ReadInRange (packed_elements v op a)
packed-range v Viota a f = tt
packed-range v Vcompress a f = read-range v Single a.vs2 f.vs2

counted-range : (op : PackOp) (a : PackInstruction) → PackFits a → counted_mask op a < 32
counted-range Viota a f = f.vs2
counted-range Vcompress a f = f.vs1

moving-range : (a : Access) (typed : Bool) (g : Group) (offset : Read) (t : Transfer) (end : ℕ) → g.reg < 32 → ReadInRange offset
    → InRange (moving_of a typed g offset t end)
unfolding moving_of
moving-range a typed g offset t end h k = record { dest = h; vs2 = k; vs1 = tt; vd = if-range t.store (R.Element g) h; v0 = tt }

mode-range : (b : Board) (x : List ℕ) (c : Control) (a : Access) (m : Mode) → a.vd < 32 → ModeFits m → InRange (by_mode b x c a m)
unfolding by_mode
mode-range b x c a M.UnitStride h k = moving-range a _ _ _ _ _ h tt
mode-range b x c a (M.Strided r) h k = moving-range a _ _ _ _ _ h tt
mode-range b x c a (M.Indexed r) h k = moving-range a _ _ _ _ _ h k
mode-range b x c a M.MaskBytes h k = moving-range a _ _ _ _ _ h tt
mode-range b x c a (M.Whole n) h k = moving-range a _ _ _ _ _ h tt

pub plan-range : (b : Board) (x : List ℕ) (c : Control) (i : Instruction) → Fits i → PlanFits (plan_of b x c i)
unfolding plan_of reducing_of packing_of scalar_moving_of
plan-range b x c I.Illegal f = tt
plan-range b x c (I.Setting t) f = f
plan-range b x c (I.Mask m) f = f
plan-range b x c (I.Reduction a) f = record { vd = f.vd; vs2 = f.vs2; vs1 = f.vs1 }
plan-range b x c (I.Pack a) f = record { vd = f.vd; elements = packed-range c.vtype a.op a f; mask = counted-range a.op a f }
plan-range b x c (I.ScalarMove a) f = record { vector = f.vector; scalar = f.scalar }
plan-range b x c (I.Arithmetic a) f = computing-range x c a f
plan-range b x c (I.Permutation a) f = permuting-range b x c a f
plan-range b x c (I.Memory a) f = mode-range b x c a a.mode f.vd f.mode

-- of what the code has worked out
pub planned-range : (b : Board) (x : List ℕ) (c : Control) (i : Instruction) (p : Plan) → p ≡ plan_of b x c i → Fits i → PlanFits p
planned-range b x c i p e f = rw e (plan-range b x c i f)

-- ---- an operand that is the same at every index: below 2 ^ SEW

unfoldable Constantly : (ℕ → Type 0) → Read → Type 0
Constantly P (R.Constant n) = P n
Constantly P (R.Element g) = Unit {0}
Constantly P (R.Bit reg) = Unit {0}

constantly : (P : ℕ → Type 0) (r : Read) (n : ℕ) → Constantly P r → r ≡ R.Constant n → P n
unfolding Constantly
constantly P r n h e = subst (Constantly P) e h

read-constant : (P : ℕ → Type 0) (v : ℕ) (z : Size) (reg : ℕ) → P 0 → Constantly P (read_at v z reg)
unfolding read_at Constantly
read-constant P v Absent reg h = h
read-constant P v Bit reg h = tt
read-constant P v Eighth reg h = tt
read-constant P v Quarter reg h = tt
read-constant P v Half reg h = tt
read-constant P v Single reg h = tt
read-constant P v Double reg h = tt

small : (v n : ℕ) → n < 32 → n < 2 ^ sew_of v
small v n h = let p : 5 ≤ sew_of v = omega (arith, sew-ge v) in lt_of_lt_of_le h (pow_mono p)

second-constant : (x : List ℕ) (v : ℕ) (z : Size) (unsigned : Bool) (s : Source) → SourceFits s
    → Constantly (λ n. n < 2 ^ sew_of v) (second_of x v z unsigned s)
unfolding second_of Constantly
second-constant x v z unsigned (Vector r) h = read-constant (λ n. n < 2 ^ sew_of v) v z r (pow_pos (sew_of v))
second-constant x v z unsigned (Scalar r) h = low-lt (sew_of v) (scalar_of x r)
second-constant x v z unsigned (Immediate n) h =
    choice-lt unsigned n (wrap (sew_of v) (signed 5 n)) (2 ^ sew_of v) (small v n h) (wrap-lt (sew_of v) (signed 5 n))

pub vs1-constant : (x : List ℕ) (c : Control) (a : Arithmetic) (n : ℕ) → ArithmeticFits a → (computing_of x c a).vs1 ≡ R.Constant n
    → n < 2 ^ sew_of c.vtype
unfolding shaped_of
vs1-constant x c a n f e =
    constantly (λ m. m < 2 ^ sew_of c.vtype) (second_of x c.vtype (shape_of a.op).vs1 (shape_of a.op).unsigned a.source) n
    (second-constant x c.vtype (shape_of a.op).vs1 (shape_of a.op).unsigned a.source f.source) e
