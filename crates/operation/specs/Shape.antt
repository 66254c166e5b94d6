-- The table of shapes: what the operands of each operation are, as multiples of SEW.
use Rattle.std.specs.Prelude.{ℕ, ◌*◌, ◌/◌, true, false}
use Rattle.operation.specs.declared.Op.{Op}
use Rattle.operation.specs.declared.Op.TheVariants.{Vadd, Vsub, Vrsub}
use Rattle.operation.specs.declared.Op.TheVariants.{Vwaddu, Vwadd, Vwsubu, Vwsub, VwadduW, VwaddW, VwsubuW, VwsubW}
use Rattle.operation.specs.declared.Op.TheVariants.{VzextVf2, VsextVf2, VzextVf4, VsextVf4, VzextVf8, VsextVf8}
use Rattle.operation.specs.declared.Op.TheVariants.{Vadc, Vsbc, Vmadc, Vmsbc}
use Rattle.operation.specs.declared.Op.TheVariants.{Vand, Vor, Vxor, Vsll, Vsrl, Vsra, Vnsrl, Vnsra}
use Rattle.operation.specs.declared.Op.TheVariants.{Vmseq, Vmsne, Vmsltu, Vmslt, Vmsleu, Vmsle, Vmsgtu, Vmsgt}
use Rattle.operation.specs.declared.Op.TheVariants.{Vminu, Vmin, Vmaxu, Vmax}
use Rattle.operation.specs.declared.Op.TheVariants.{Vmul, Vmulh, Vmulhu, Vmulhsu, Vdivu, Vdiv, Vremu, Vrem, Vwmul, Vwmulu, Vwmulsu}
use Rattle.operation.specs.declared.Op.TheVariants.{Vmacc, Vnmsac, Vmadd, Vnmsub, Vwmaccu, Vwmacc, Vwmaccsu, Vwmaccus, Vmerge, Vmv}
use Rattle.operation.specs.declared.Op.TheVariants.{Vsaddu, Vsadd, Vssubu, Vssub, Vaaddu, Vaadd, Vasubu, Vasub, Vsmul}
use Rattle.operation.specs.declared.Op.TheVariants.{Vssrl, Vssra, Vnclipu, Vnclip}
use Rattle.operation.specs.declared.Op.TheVariants.{Vmand, Vmnand, Vmandn, Vmxor, Vmor, Vmnor, Vmorn, Vmxnor}
use Rattle.operation.specs.declared.Size.{Size}
use Rattle.operation.specs.declared.Size.TheVariants.{Absent, Bit, Eighth, Quarter, Half, Single, Double}
use Rattle.operation.specs.declared.V0.{V0}
use Rattle.operation.specs.declared.V0.TheVariants.{Masks, Operand, MaybeOperand, Unused}
use Rattle.operation.specs.declared.Shape.{Shape}
use Rattle.operation.specs.declared.Form.{Form}
use Rattle.operation.specs.declared.Form.TheVariants.{SingleWidth, Shift, High, Widening, WideFirst, Narrowing}
use Rattle.operation.specs.declared.Form.TheVariants.{FromHalf, FromQuarter, FromEighth, Compare, AddCarry, CarryOut}
use Rattle.operation.specs.declared.Form.TheVariants.{Merge, Move, MultiplyAdd, WideningMultiplyAdd, MaskLogical}

-- EEW of an operand at a SEW (section 6.2); mask elements have EEW 1
abbrev pub eew_of : Size → ℕ → ℕ
eew_of Absent sew = 0
eew_of Bit sew = 1
eew_of Eighth sew = sew / 8
eew_of Quarter sew = sew / 4
eew_of Half sew = sew / 2
eew_of Single sew = sew
eew_of Double sew = 2 * sew

-- ---- the forms that there are: vd = vs2 op vs1

-- vd, vs2, vs1, and what v0 is. vd is no source, an immediate is sign-extended, and SEW goes to 64
abbrev pub operands_of : Size → Size → Size → V0 → Shape
operands_of vd vs2 vs1 v0 = record { vd = vd; vs2 = vs2; vs1 = vs1; accumulates = false; v0 = v0; unsigned = false; largest = 64 }

-- the same, where v0 is the mask
abbrev pub maskable_of : Size → Size → Size → Shape
maskable_of vd vs2 vs1 = operands_of vd vs2 vs1 Masks

-- one thing changed: vd is a source too; an immediate is not sign-extended; SEW goes to 32 alone
abbrev pub accumulating_of : Shape → Shape
accumulating_of s =
    record { vd = s.vd; vs2 = s.vs2; vs1 = s.vs1; accumulates = true; v0 = s.v0; unsigned = s.unsigned; largest = s.largest }

abbrev pub unsigned_of : Shape → Shape
unsigned_of s =
    record { vd = s.vd; vs2 = s.vs2; vs1 = s.vs1; accumulates = s.accumulates; v0 = s.v0; unsigned = true; largest = s.largest }

abbrev pub up_to_32 : Shape → Shape
up_to_32 s =
    record { vd = s.vd; vs2 = s.vs2; vs1 = s.vs1; accumulates = s.accumulates; v0 = s.v0; unsigned = s.unsigned; largest = 32 }

abbrev pub shape_at : Form → Shape
-- SEW = SEW op SEW
shape_at SingleWidth = maskable_of Single Single Single
-- the same, by an immediate that is not sign-extended (document 01, 'Numbers': "shift immediates aren't")
shape_at Shift = unsigned_of (maskable_of Single Single Single)
-- the same, not at SEW 64 (document 01, 'Built': "except vmulh, vmulhu, vmulhsu and vsmul at SEW 64")
shape_at High = up_to_32 (maskable_of Single Single Single)
-- 2*SEW = SEW op SEW (section 11.2); an operand of 2*SEW bits is at most 64 bits wide
shape_at Widening = up_to_32 (maskable_of Double Single Single)
-- 2*SEW = 2*SEW op SEW
shape_at WideFirst = up_to_32 (maskable_of Double Double Single)
-- SEW = 2*SEW op SEW (section 11.3), by an immediate that is not sign-extended
shape_at Narrowing = up_to_32 (unsigned_of (maskable_of Single Double Single))
-- SEW of SEW/2, SEW/4, SEW/8
shape_at FromHalf = maskable_of Single Half Absent
shape_at FromQuarter = maskable_of Single Quarter Absent
shape_at FromEighth = maskable_of Single Eighth Absent
-- mask = SEW op SEW
shape_at Compare = maskable_of Bit Single Single
-- SEW = SEW op SEW op carry
shape_at AddCarry = operands_of Single Single Single Operand
-- mask = SEW op SEW op carry, if there is one
shape_at CarryOut = operands_of Bit Single Single MaybeOperand
-- SEW = v0 ? SEW : SEW
shape_at Merge = operands_of Single Single Single Operand
-- SEW = SEW
shape_at Move = operands_of Single Absent Single Unused
-- SEW = SEW * SEW op SEW, one of them vd
shape_at MultiplyAdd = accumulating_of (maskable_of Single Single Single)
-- 2*SEW = SEW * SEW op 2*SEW, the last vd
shape_at WideningMultiplyAdd = up_to_32 (accumulating_of (maskable_of Double Single Single))
-- mask = mask op mask
shape_at MaskLogical = operands_of Bit Bit Bit Unused

-- ---- the table: the form of each operation

abbrev pub form_of : Op → Form
-- 12.1
form_of Vadd = SingleWidth
form_of Vsub = SingleWidth
form_of Vrsub = SingleWidth
-- 12.2
form_of Vwaddu = Widening
form_of Vwadd = Widening
form_of Vwsubu = Widening
form_of Vwsub = Widening
form_of VwadduW = WideFirst
form_of VwaddW = WideFirst
form_of VwsubuW = WideFirst
form_of VwsubW = WideFirst
-- 12.3
form_of VzextVf2 = FromHalf
form_of VsextVf2 = FromHalf
form_of VzextVf4 = FromQuarter
form_of VsextVf4 = FromQuarter
form_of VzextVf8 = FromEighth
form_of VsextVf8 = FromEighth
-- 12.4
form_of Vadc = AddCarry
form_of Vsbc = AddCarry
form_of Vmadc = CarryOut
form_of Vmsbc = CarryOut
-- 12.5
form_of Vand = SingleWidth
form_of Vor = SingleWidth
form_of Vxor = SingleWidth
-- 12.6
form_of Vsll = Shift
form_of Vsrl = Shift
form_of Vsra = Shift
-- 12.7
form_of Vnsrl = Narrowing
form_of Vnsra = Narrowing
-- 12.8
form_of Vmseq = Compare
form_of Vmsne = Compare
form_of Vmsltu = Compare
form_of Vmslt = Compare
form_of Vmsleu = Compare
form_of Vmsle = Compare
form_of Vmsgtu = Compare
form_of Vmsgt = Compare
-- 12.9
form_of Vminu = SingleWidth
form_of Vmin = SingleWidth
form_of Vmaxu = SingleWidth
form_of Vmax = SingleWidth
-- 12.10
form_of Vmul = SingleWidth
form_of Vmulh = High
form_of Vmulhu = High
form_of Vmulhsu = High
-- 12.11
form_of Vdivu = SingleWidth
form_of Vdiv = SingleWidth
form_of Vremu = SingleWidth
form_of Vrem = SingleWidth
-- 12.12
form_of Vwmul = Widening
form_of Vwmulu = Widening
form_of Vwmulsu = Widening
-- 12.13
form_of Vmacc = MultiplyAdd
form_of Vnmsac = MultiplyAdd
form_of Vmadd = MultiplyAdd
form_of Vnmsub = MultiplyAdd
-- 12.14
form_of Vwmaccu = WideningMultiplyAdd
form_of Vwmacc = WideningMultiplyAdd
form_of Vwmaccsu = WideningMultiplyAdd
form_of Vwmaccus = WideningMultiplyAdd
-- 12.15
form_of Vmerge = Merge
-- 12.16
form_of Vmv = Move
-- 13.1
form_of Vsaddu = SingleWidth
form_of Vsadd = SingleWidth
form_of Vssubu = SingleWidth
form_of Vssub = SingleWidth
-- 13.2
form_of Vaaddu = SingleWidth
form_of Vaadd = SingleWidth
form_of Vasubu = SingleWidth
form_of Vasub = SingleWidth
-- 13.3
form_of Vsmul = High
-- 13.4
form_of Vssrl = Shift
form_of Vssra = Shift
-- 13.5
form_of Vnclipu = Narrowing
form_of Vnclip = Narrowing
-- 16.1
form_of Vmand = MaskLogical
form_of Vmnand = MaskLogical
form_of Vmandn = MaskLogical
form_of Vmxor = MaskLogical
form_of Vmor = MaskLogical
form_of Vmnor = MaskLogical
form_of Vmorn = MaskLogical
form_of Vmxnor = MaskLogical

abbrev pub shape_of : Op → Shape
shape_of op = shape_at (form_of op)

-- the largest SEW of an operation
abbrev pub largest_sew : Op → ℕ
largest_sew op = (shape_of op).largest
