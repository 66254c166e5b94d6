-- What a decoded word means at a board, scalars and a control record, worked out once before the first element: its plan.
use Rattle.std.specs.Prelude.{ℕ, suc, ◌+◌, ◌*◌, ◌/◌, ◌%◌, ◌^◌, Bool, true, false, cond, List, get_or, eqb}
use Rattle.width.specs.Width.{signed, wrap}
use Rattle.fixed.specs.Round.{vxrm_of}
use Rattle.operation.specs.declared.Size.{Size}
use Rattle.operation.specs.declared.Size.TheVariants.{Absent, Bit, Eighth, Quarter, Half, Single, Double}
use Rattle.operation.specs.declared.V0.{V0}
use Rattle.operation.specs.declared.V0.TheVariants.{Masks, Operand, MaybeOperand, Unused}
use Rattle.operation.specs.declared.Shape.{Shape}
use Rattle.operation.specs.Shape.{eew_of, shape_of}
use Rattle.control.specs.declared.Board.{Board}
use Rattle.control.specs.declared.Control.{Control}
use Rattle.control.specs.Vtype.{sew_of, lmul8_of, vlmax_of}
use Rattle.decode.specs.declared.Arithmetic.{Arithmetic}
use Rattle.decode.specs.declared.Access.{Access}
use Rattle.decode.specs.declared.Source.{Source}
use Rattle.decode.specs.declared.Source.TheVariants.{Vector, Scalar, Immediate}
use Rattle.decode.specs.declared.Mode.{Mode}
use Rattle.decode.specs.declared.Mode.TheVariants.{UnitStride, Strided, Indexed, MaskBytes, Whole}
use Rattle.decode.specs.declared.ReductionOp.{ReductionOp}
use Rattle.decode.specs.declared.ReductionOp.TheVariants.{Vredsum, Vredand, Vredor, Vredxor, Vredminu, Vredmin, Vredmaxu, Vredmax}
use Rattle.decode.specs.declared.ReductionOp.TheVariants.{Vwredsumu, Vwredsum}
use Rattle.decode.specs.declared.ReductionInstruction.{ReductionInstruction}
use Rattle.decode.specs.declared.PermutationOp.{PermutationOp}
use Rattle.decode.specs.declared.PermutationOp.TheVariants.{Vid, Vslideup, Vslidedown, Vslide1up, Vslide1down, Vrgather, Vrgatherei16}
use Rattle.decode.specs.declared.PermutationInstruction.{PermutationInstruction}
use Rattle.decode.specs.declared.PackOp.{PackOp}
use Rattle.decode.specs.declared.PackOp.TheVariants.{Viota, Vcompress}
use Rattle.decode.specs.declared.PackInstruction.{PackInstruction}
use Rattle.decode.specs.declared.ScalarMoveInstruction.{ScalarMoveInstruction}
use Rattle.decode.specs.declared.Instruction.{Instruction}
use Rattle.decode.specs.declared.Instruction.TheVariants as I
use Rattle.group.specs.declared.Group.{Group}
use Rattle.group.specs.Group.{emul8_of, mask_group}
use Rattle.plan.specs.declared.Read.{Read}
use Rattle.plan.specs.declared.Read.TheVariants as R
use Rattle.plan.specs.declared.Transfer.{Transfer}
use Rattle.plan.specs.declared.Action.TheVariants as A
use Rattle.plan.specs.declared.Elementwise.{Elementwise}
use Rattle.plan.specs.declared.Reduction.{Reduction}
use Rattle.plan.specs.declared.Packing.{Packing}
use Rattle.plan.specs.declared.ScalarMove.{ScalarMove}
use Rattle.plan.specs.declared.OneTurn.TheVariants as O
use Rattle.plan.specs.declared.Plan.{Plan}
use Rattle.plan.specs.declared.Plan.TheVariants as P

-- "x0 reads 0"
abbrev pub scalar_of : List ℕ → ℕ → ℕ
scalar_of x r = cond (eqb r 0) 0 (get_or x r 0)

-- ---- operands (section 6.2), at the vtype v

-- a group of elements of EEW bits: EMUL = EEW / SEW * LMUL; and one for each field of a segment, nf after the first
abbrev pub groups_at : ℕ → ℕ → ℕ → ℕ → Group
groups_at v eew reg nf = record { reg = reg; eew = eew; emul8 = emul8_of (sew_of v) (lmul8_of v) eew; nf = nf }

abbrev pub group_at : ℕ → ℕ → ℕ → Group
group_at v eew reg = groups_at v eew reg 0

-- a register alone, whatever LMUL is: of EMUL 1, and any number will do
abbrev pub register_at : ℕ → ℕ → Group
register_at eew reg = record { reg = reg; eew = eew; emul8 = 8; nf = 0 }

-- the registers of an operand, by its size: none, a mask register, or a group
unfoldable pub read_at : ℕ → Size → ℕ → Read
read_at v Absent reg = R.Constant 0
read_at v Bit reg = R.Bit reg
read_at v Eighth reg = R.Element (group_at v (eew_of Eighth (sew_of v)) reg)
read_at v Quarter reg = R.Element (group_at v (eew_of Quarter (sew_of v)) reg)
read_at v Half reg = R.Element (group_at v (eew_of Half (sew_of v)) reg)
read_at v Single reg = R.Element (group_at v (eew_of Single (sew_of v)) reg)
read_at v Double reg = R.Element (group_at v (eew_of Double (sew_of v)) reg)

-- the same as a group to be written; a mask register is a group of EEW 1. Every operation has a destination, so that the first clause is
-- never used
abbrev pub group_of : Read → Group
group_of (R.Constant n) = mask_group 0
group_of (R.Element g) = g
group_of (R.Bit reg) = mask_group reg

-- the second source (section 11.1; document 01, 'Numbers'): scalars give their low SEW bits; immediates are sign-extended, but for the
-- unsigned ones of shifts and clips
unfoldable pub second_of : List ℕ → ℕ → Size → Bool → Source → Read
second_of x v size unsigned (Vector r) = read_at v size r
second_of x v size unsigned (Scalar r) = R.Constant (scalar_of x r % 2 ^ sew_of v)
second_of x v size unsigned (Immediate n) = R.Constant (cond unsigned n (wrap (sew_of v) (signed 5 n)))

-- v0 as an operand, and v0 as the mask, where vm is 0
abbrev pub v0_read : V0 → Bool → Read
v0_read Masks masked = R.Constant 0
v0_read Operand masked = R.Bit 0
v0_read MaybeOperand masked = cond masked (R.Bit 0) (R.Constant 0)
v0_read Unused masked = R.Constant 0

abbrev pub v0_masks : V0 → Bool → Bool
v0_masks Masks masked = masked
v0_masks Operand masked = false
v0_masks MaybeOperand masked = false
v0_masks Unused masked = false

-- ---- arithmetic: the end is vl

-- by the shape s of the operation
unfoldable pub shaped_of : List ℕ → Control → Arithmetic → Shape → Elementwise
shaped_of x c a s =
    record {
      dest = group_of (read_at c.vtype s.vd a.vd);
      vs2 = read_at c.vtype s.vs2 a.vs2;
      vs1 = second_of x c.vtype s.vs1 s.unsigned a.source;
      vd = cond s.accumulates (read_at c.vtype s.vd a.vd) (R.Constant 0);
      v0 = v0_read s.v0 a.masked;
      masked = v0_masks s.v0 a.masked;
      typed = true;
      end = c.vl;
      action = A.Compute (record { op = a.op; sew = sew_of c.vtype; vxrm = vxrm_of c.vxrm });
    }

abbrev pub computing_of : List ℕ → Control → Arithmetic → Elementwise
computing_of x c a = shaped_of x c a (shape_of a.op)

-- ---- permutations that go element by element (sections 16.9, 17.3, 17.4): the end is vl

-- an offset or an index: "all 64 bits, or the 5-bit number unsigned, never cut to SEW" (A6); elements of EEW bits are unsigned
unfoldable pub index_of : List ℕ → ℕ → ℕ → Source → Read
index_of x v eew (Vector r) = R.Element (group_at v eew r)
index_of x v eew (Scalar r) = R.Constant (scalar_of x r)
index_of x v eew (Immediate n) = R.Constant n

-- vs2, whose elements are moved; vid.v has none
abbrev pub moved_elements : ℕ → PermutationOp → ℕ → Read
moved_elements v Vid reg = R.Constant 0
moved_elements v Vslideup reg = read_at v Single reg
moved_elements v Vslidedown reg = read_at v Single reg
moved_elements v Vslide1up reg = read_at v Single reg
moved_elements v Vslide1down reg = read_at v Single reg
moved_elements v Vrgather reg = read_at v Single reg
moved_elements v Vrgatherei16 reg = read_at v Single reg

-- the second operand: an offset, an index of SEW bits or of 16 (section 17.4), or the scalar that is put in, of which "the
-- least-significant bits are copied" (sections 17.3.3, 17.3.4)
abbrev pub moved_by : List ℕ → ℕ → PermutationOp → Source → Read
moved_by x v Vid source = R.Constant 0
moved_by x v Vslideup source = index_of x v (sew_of v) source
moved_by x v Vslidedown source = index_of x v (sew_of v) source
moved_by x v Vslide1up source = second_of x v Single true source
moved_by x v Vslide1down source = second_of x v Single true source
moved_by x v Vrgather source = index_of x v (sew_of v) source
moved_by x v Vrgatherei16 source = index_of x v 16 source

unfoldable pub permuting_of : Board → List ℕ → Control → PermutationInstruction → Elementwise
permuting_of b x c a =
    record {
      dest = group_at c.vtype (sew_of c.vtype) a.vd;
      vs2 = moved_elements c.vtype a.op a.vs2;
      vs1 = moved_by x c.vtype a.op a.source;
      vd = R.Constant 0;
      v0 = R.Constant 0;
      masked = a.masked;
      typed = true;
      end = c.vl;
      action = A.Permute (record { op = a.op; sew = sew_of c.vtype; vlmax = vlmax_of b c.vtype });
    }

-- ---- loads and stores (section 8)

-- element i of a group, of each of its fields, is moved to or from the address base + i * stride + its offset, and on (`element_address`,
-- machine/specs/Effect)
unfoldable pub moving_of : Access → Bool → Group → Read → Transfer → ℕ → Elementwise
moving_of a typed group offset t end =
    record {
      dest = group;
      vs2 = offset;
      vs1 = R.Constant 0;
      vd = cond t.store (R.Element group) (R.Constant 0);
      v0 = R.Constant 0;
      masked = a.masked;
      typed = typed;
      end = end;
      action = A.Transfer t;
    }

-- what the modes have in common: the base x[rs1], and a group at the vtype
module _ (b : Board) (x : List ℕ) (c : Control) (a : Access) where
  abbrev pub stepping_by : ℕ → ℕ → Transfer
  stepping_by stride bytes = record { store = a.store; base = scalar_of x a.rs1; stride = stride; bytes = bytes }

  abbrev pub moved_at : ℕ → Group
  moved_at eew = groups_at c.vtype eew a.vd a.nf

  -- Unit-stride segments are "packed contiguous" (section 8.8.1): NFIELDS * EEW/8 bytes apart. Strides are registers of 64 bits taken
  -- unsigned: addresses go modulo 2^64, so that it comes to the same as the signed stride. Indexed accesses move elements of SEW bits; mask
  -- accesses move vl/8 bytes, rounded up, of one register; whole registers have an end of their own, the registers' bits over EEW, whatever
  -- vtype is
  unfoldable pub by_mode : Mode → Elementwise
  by_mode UnitStride =
      moving_of a true (moved_at a.eew) (R.Constant 0) (stepping_by (suc a.nf * (a.eew / 8)) (a.eew / 8)) c.vl
  by_mode (Strided r) = moving_of a true (moved_at a.eew) (R.Constant 0) (stepping_by (scalar_of x r) (a.eew / 8)) c.vl
  by_mode (Indexed r) =
      moving_of a true (moved_at (sew_of c.vtype)) (R.Element (group_at c.vtype a.eew r)) (stepping_by 0 (sew_of c.vtype / 8)) c.vl
  by_mode MaskBytes =
      moving_of a true (register_at 8 a.vd) (R.Constant 0) (stepping_by 1 1) ((c.vl + 7) / 8)
  by_mode (Whole n) =
      moving_of a false (record { reg = a.vd; eew = a.eew; emul8 = 8 * n; nf = 0 }) (R.Constant 0) (stepping_by (a.eew / 8) (a.eew / 8))
      (n * (8 * b.vlenb) / a.eew)

abbrev pub transferring_of : Board → List ℕ → Control → Access → Elementwise
transferring_of b x c a = by_mode b x c a a.mode

-- ---- reductions (section 15)

-- how wide the scalars vs1[0] and vd[0] are: SEW (section 15.1), or 2 * SEW for the widening sums (section 15.2)
abbrev pub scalar_size : ReductionOp → Size
scalar_size Vredsum = Single
scalar_size Vredand = Single
scalar_size Vredor = Single
scalar_size Vredxor = Single
scalar_size Vredminu = Single
scalar_size Vredmin = Single
scalar_size Vredmaxu = Single
scalar_size Vredmax = Single
scalar_size Vwredsumu = Double
scalar_size Vwredsum = Double

abbrev pub scalar_eew : ReductionOp → ℕ → ℕ
scalar_eew op sew = eew_of (scalar_size op) sew

-- the scalars are "held in element 0 of a single vector register, not a vector register group" (section 15); vs2 is a group of elements of
-- SEW bits
unfoldable pub reducing_of : ℕ → ReductionInstruction → Reduction
reducing_of v a =
    record {
      op = a.op;
      sew = sew_of v;
      vd = register_at (scalar_eew a.op (sew_of v)) a.vd;
      vs2 = group_at v (sew_of v) a.vs2;
      vs1 = register_at (scalar_eew a.op (sew_of v)) a.vs1;
      masked = a.masked;
    }

-- ---- viota.m, vcompress.vm (sections 16.8, 17.5) and the scalar moves (section 17.1)

-- the mask whose set bits are counted
abbrev pub counted_mask : PackOp → PackInstruction → ℕ
counted_mask Viota a = a.vs2
counted_mask Vcompress a = a.vs1

-- what is packed
abbrev pub packed_elements : ℕ → PackOp → PackInstruction → Read
packed_elements v Viota a = R.Constant 0
packed_elements v Vcompress a = read_at v Single a.vs2

unfoldable pub packing_of : ℕ → PackInstruction → Packing
packing_of v a =
    record {
      op = a.op;
      vd = group_at v (sew_of v) a.vd;
      elements = packed_elements v a.op a;
      mask = counted_mask a.op a;
      masked = a.masked;
    }

-- "The instructions ignore LMUL and vector register groups" (section 17.1)
unfoldable pub scalar_moving_of : ℕ → ScalarMoveInstruction → ScalarMove
scalar_moving_of v a = record { op = a.op; vector = register_at (sew_of v) a.vector; scalar = a.scalar }

-- ---- every decoded word

-- Where vill is set, SEW and LMUL are those of zero bits, 8 and 1; a plan that goes by vtype is then not legal (`startable`, Legal)
module _ (b : Board) (x : List ℕ) (c : Control) where
  unfoldable pub plan_of : Instruction → Plan
  plan_of I.Illegal = P.Illegal
  plan_of (I.Setting t) = P.OneTurn (O.Setting t)
  plan_of (I.Mask m) = P.OneTurn (O.Mask m)
  plan_of (I.Reduction a) = P.OneTurn (O.Reduction (reducing_of c.vtype a))
  plan_of (I.Pack a) = P.OneTurn (O.Packing (packing_of c.vtype a))
  plan_of (I.ScalarMove a) = P.OneTurn (O.ScalarMove (scalar_moving_of c.vtype a))
  plan_of (I.Arithmetic a) = P.Elements (computing_of x c a)
  plan_of (I.Permutation a) = P.Elements (permuting_of b x c a)
  plan_of (I.Memory a) = P.Elements (transferring_of b x c a)
