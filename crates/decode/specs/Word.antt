-- What a 32-bit word names: decode, by opcode, funct3 and the fields (sections 7, 8 and 11.1 of document 000).
use Rattle.std.specs.Prelude.{ℕ, ◌+◌, ◌/◌, ◌%◌, ◌^◌, Bool, true, false, not, ◌&&◌, ◌||◌, cond, eqb}
use Rattle.operation.specs.declared.Op.{Op}
use Rattle.operation.specs.declared.Op.TheVariants.{Vmerge, Vmv}
use Rattle.operation.specs.declared.V0.{V0}
use Rattle.operation.specs.declared.V0.TheVariants.{Masks, Operand, MaybeOperand, Unused}
use Rattle.operation.specs.Shape.{shape_of}
use Rattle.decode.specs.declared.Source.{Source}
use Rattle.decode.specs.declared.Source.TheVariants.{Vector, Scalar, Immediate}
use Rattle.decode.specs.declared.AvlSource.{AvlSource}
use Rattle.decode.specs.declared.AvlSource.TheVariants.{Register, Number, Largest, Kept}
use Rattle.decode.specs.declared.TypeSource.{TypeSource}
use Rattle.decode.specs.declared.TypeSource.TheVariants.{Given, InRegister}
use Rattle.decode.specs.declared.Mode.{Mode}
use Rattle.decode.specs.declared.Mode.TheVariants.{UnitStride, Strided, Indexed, MaskBytes, Whole}
use Rattle.decode.specs.declared.PermutationOp.{PermutationOp}
use Rattle.decode.specs.declared.PermutationOp.TheVariants.{Vid, Vslideup, Vslidedown, Vslide1up, Vslide1down}
use Rattle.decode.specs.declared.PermutationOp.TheVariants.{Vrgather, Vrgatherei16}
use Rattle.decode.specs.declared.PackOp.{PackOp}
use Rattle.decode.specs.declared.PackOp.TheVariants.{Viota, Vcompress}
use Rattle.decode.specs.declared.ScalarMoveOp.{ScalarMoveOp}
use Rattle.decode.specs.declared.ScalarMoveOp.TheVariants.{VmvXS, VmvSX}
use Rattle.decode.specs.declared.Instruction.{Instruction}
use Rattle.decode.specs.declared.Instruction.TheVariants as I
use Rattle.decode.specs.declared.Entry.{Entry}
use Rattle.decode.specs.declared.Entry.TheVariants.{Reserved, Operation, OnMask, Reduces, MergeOrMove, Vxunary0, Vwxunary0, Vmunary0}
use Rattle.decode.specs.declared.Entry.TheVariants.{Permutes, Packs, MovesScalar, Setting}
use Rattle.decode.specs.Listing.{vxunary0, vwxunary0, vmunary0, find, entry_of}

-- ---- the fields of a word

abbrev pub opcode : ℕ → ℕ
opcode w = w % 2 ^ 7

-- rd, or vd, or vs3
abbrev pub rd : ℕ → ℕ
rd w = w / 2 ^ 7 % 32

-- funct3, or width
abbrev pub funct3 : ℕ → ℕ
funct3 w = w / 2 ^ 12 % 8

-- rs1, or vs1, or a 5-bit immediate
abbrev pub rs1 : ℕ → ℕ
rs1 w = w / 2 ^ 15 % 32

-- rs2, or vs2, or lumop and sumop
abbrev pub rs2 : ℕ → ℕ
rs2 w = w / 2 ^ 20 % 32

-- 0 where v0 masks
abbrev pub vm : ℕ → ℕ
vm w = w / 2 ^ 25 % 2

abbrev pub funct6 : ℕ → ℕ
funct6 w = w / 2 ^ 26 % 64

-- unit-stride, strided or indexed
abbrev pub mop : ℕ → ℕ
mop w = w / 2 ^ 26 % 4

abbrev pub mew : ℕ → ℕ
mew w = w / 2 ^ 28 % 2

-- one less than the number of fields, or of whole registers
abbrev pub nf : ℕ → ℕ
nf w = w / 2 ^ 29 % 8

abbrev pub masked : ℕ → Bool
masked w = eqb (vm w) 0

-- ---- arithmetic (section 11.1)

-- what the vs1 field is, by funct3
unfoldable pub source_of : ℕ → Source
source_of w =
    cond (eqb (funct3 w) 0b011) (Immediate (rs1 w))
    (cond (eqb (funct3 w) 0b100 || eqb (funct3 w) 0b110) (Scalar (rs1 w)) (Vector (rs1 w)))

-- the vm bits that an operation has
abbrev pub vm_fits : V0 → ℕ → Bool
vm_fits Masks vm = true
vm_fits MaybeOperand vm = true
vm_fits Operand vm = eqb vm 0
vm_fits Unused vm = eqb vm 1

-- the entries that further fields decide; vmv shares its number with vmerge, and its vs2 field is 0 (section 12.16)
unfoldable pub resolved_of : Entry → ℕ → Entry
resolved_of Reserved w = Reserved
resolved_of (Operation op) w = Operation op
resolved_of (OnMask op) w = OnMask op
resolved_of (Reduces op) w = Reduces op
resolved_of (Permutes op) w = Permutes op
resolved_of (Packs op) w = Packs op
resolved_of (MovesScalar op) w = MovesScalar op
resolved_of MergeOrMove w = cond (masked w) (Operation Vmerge) (cond (eqb (rs2 w) 0) (Operation Vmv) Reserved)
resolved_of Vxunary0 w = find vxunary0 (rs1 w)
resolved_of Vwxunary0 w = find vwxunary0 (rs1 w)
resolved_of Vmunary0 w = find vmunary0 (rs1 w)
resolved_of Setting w = Setting

-- an operation with its fields
abbrev pub operation_of : Op → ℕ → Instruction
operation_of op w =
    cond (vm_fits (shape_of op).v0 (vm w))
    (I.Arithmetic (record { op = op; vd = rd w; vs2 = rs2 w; source = source_of w; masked = masked w }))
    I.Illegal

-- ---- permutations

-- "The vs2 field of the instruction must be set to v0, otherwise the encoding is reserved" (section 16.9); the others take every field
abbrev pub vs2_fits : PermutationOp → ℕ → Bool
vs2_fits Vid vs2 = eqb vs2 0
vs2_fits Vslideup vs2 = true
vs2_fits Vslidedown vs2 = true
vs2_fits Vslide1up vs2 = true
vs2_fits Vslide1down vs2 = true
vs2_fits Vrgather vs2 = true
vs2_fits Vrgatherei16 vs2 = true

abbrev pub permutation_of : PermutationOp → ℕ → Instruction
permutation_of op w =
    cond (vs2_fits op (rs2 w))
    (I.Permutation (record { op = op; vd = rd w; vs2 = rs2 w; source = source_of w; masked = masked w }))
    I.Illegal

-- "vcompress is encoded as an unmasked instruction (vm=1). The equivalent masked instruction (vm=0) is reserved" (section 17.5)
abbrev pub pack_vm_fits : PackOp → ℕ → Bool
pack_vm_fits Viota vm = true
pack_vm_fits Vcompress vm = eqb vm 1

abbrev pub pack_of : PackOp → ℕ → Instruction
pack_of op w =
    cond (pack_vm_fits op (vm w)) (I.Pack (record { op = op; vd = rd w; vs2 = rs2 w; vs1 = rs1 w; masked = masked w })) I.Illegal

-- vmv.x.s rd, vs2 and vmv.s.x vd, rs1 with vs2=0; "the masked versions (vm=0) .. are reserved" (section 17.1)
abbrev pub scalar_move_of : ScalarMoveOp → ℕ → Instruction
scalar_move_of VmvXS w = cond (masked w) I.Illegal (I.ScalarMove (record { op = VmvXS; vector = rs2 w; scalar = rd w }))
scalar_move_of VmvSX w =
    cond (masked w) I.Illegal
    (cond (eqb (rs2 w) 0) (I.ScalarMove (record { op = VmvSX; vector = rd w; scalar = rs1 w })) I.Illegal)

-- ---- setting instructions (section 7)

-- section 7.2: rs1, or 2 ^ 64 − 1 where it is x0, or vl kept where rd is x0 too
unfoldable pub avl_of : ℕ → AvlSource
avl_of w = cond (eqb (rs1 w) 0) (cond (eqb (rd w) 0) Kept Largest) (Register (rs1 w))

abbrev pub setting_by : ℕ → AvlSource → TypeSource → Instruction
setting_by w avl vtype = I.Setting (record { rd = rd w; avl = avl; vtype = vtype })

-- vsetvli has bit 31 clear, vsetivli bits 31 and 30 set, vsetvl bits 31 to 25 1000000
unfoldable pub setting_of : ℕ → Instruction
setting_of w =
    cond (eqb (w / 2 ^ 31) 0) (setting_by w (avl_of w) (Given (w / 2 ^ 20 % 2 ^ 11)))
    (cond (eqb (w / 2 ^ 30) 0b11) (setting_by w (Number (rs1 w)) (Given (w / 2 ^ 20 % 2 ^ 10)))
    (cond (eqb (w / 2 ^ 25) 0b1000000) (setting_by w (avl_of w) (InRegister (rs2 w)))
    I.Illegal))

-- ---- opcode 0x57

-- what a resolved entry names
abbrev pub named_of : Entry → ℕ → Instruction
named_of (Operation op) w = operation_of op w
named_of (OnMask op) w = I.Mask (record { op = op; rd = rd w; vs2 = rs2 w; masked = masked w })
named_of (Reduces op) w = I.Reduction (record { op = op; vd = rd w; vs2 = rs2 w; vs1 = rs1 w; masked = masked w })
named_of (Permutes op) w = permutation_of op w
named_of (Packs op) w = pack_of op w
named_of (MovesScalar op) w = scalar_move_of op w
named_of Setting w = setting_of w
named_of Reserved w = I.Illegal
named_of MergeOrMove w = I.Illegal
named_of Vxunary0 w = I.Illegal
named_of Vwxunary0 w = I.Illegal
named_of Vmunary0 w = I.Illegal

unfoldable pub arithmetic_of : ℕ → Instruction
arithmetic_of w = named_of (resolved_of (entry_of (funct3 w) (funct6 w)) w) w

-- ---- loads and stores (section 8)

-- EEW by the width field (section 8.3); 0 for the widths of scalar floating point
unfoldable pub width_of : ℕ → ℕ
width_of width =
    cond (eqb width 0b000) 8 (cond (eqb width 0b101) 16 (cond (eqb width 0b110) 32 (cond (eqb width 0b111) 64 0)))

-- how many fields of a segment follow its first (section 8.8): none where there is no segment
abbrev pub access : Bool → Mode → ℕ → ℕ → Instruction
access store mode further w =
    I.Memory (record { store = store; mode = mode; eew = width_of (funct3 w); vd = rd w; rs1 = rs1 w; masked = masked w; nf = further })

-- unit-stride, strided and indexed accesses: elements, or segments of nf + 1 fields
abbrev pub segment_of : Bool → Mode → ℕ → Instruction
segment_of store mode w = access store mode (nf w) w

-- vlm and vsm (section 8.4): unmasked, EEW 8, one field
unfoldable pub mask_of : Bool → ℕ → Instruction
mask_of store w = cond (eqb (vm w) 1 && eqb (nf w) 0 && eqb (funct3 w) 0) (access store MaskBytes 0 w) I.Illegal

-- whole registers (section 8.9): unmasked, 1, 2, 4 or 8 of them, stores with EEW 8
abbrev pub whole_count : ℕ → Bool
whole_count nf = eqb nf 0 || eqb nf 1 || eqb nf 3 || eqb nf 7

unfoldable pub whole_of : Bool → ℕ → Instruction
whole_of store w =
    cond (eqb (vm w) 1 && whole_count (nf w) && (not store || eqb (funct3 w) 0))
    (access store (Whole (nf w + 1)) 0 w)
    I.Illegal

-- lumop and sumop (section 8.2): 01011 mask, 01000 whole registers; 10000, fault-only-first, is left out
unfoldable pub unit_of : Bool → ℕ → Instruction
unit_of store w =
    cond (eqb (rs2 w) 0b00000) (segment_of store UnitStride w)
    (cond (eqb (rs2 w) 0b01000) (whole_of store w)
    (cond (eqb (rs2 w) 0b01011) (mask_of store w)
    I.Illegal))

-- mop (section 8.2): 00 unit-stride, 10 strided, 01 and 11 indexed, unordered and ordered; mew 1 is reserved (section 8.3)
unfoldable pub memory_of : Bool → ℕ → Instruction
memory_of store w =
    cond (eqb (width_of (funct3 w)) 0 || eqb (mew w) 1) I.Illegal
    (cond (eqb (mop w) 0b00) (unit_of store w)
    (cond (eqb (mop w) 0b10) (segment_of store (Strided (rs2 w)) w)
    (segment_of store (Indexed (rs2 w)) w)))

-- ---- every word

unfoldable pub decode_of : ℕ → Instruction
decode_of w =
    cond (eqb (opcode w) 0x57) (arithmetic_of w)
    (cond (eqb (opcode w) 0x07) (memory_of false w)
    (cond (eqb (opcode w) 0x27) (memory_of true w)
    I.Illegal))
