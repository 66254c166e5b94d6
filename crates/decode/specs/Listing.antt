-- The instruction listing (section 20 of document 000), one row for each operation that is built. What has no row is illegal.
use Rattle.std.specs.Prelude.{ℕ, Bool, false, ◌||◌, cond, List, [], ◌∷◌, eqb}
use Rattle.operation.specs.declared.Op.TheVariants.{Vadd, Vsub, Vrsub, Vwaddu, Vwadd, Vwsubu, Vwsub, VwadduW, VwaddW, VwsubuW, VwsubW}
use Rattle.operation.specs.declared.Op.TheVariants.{VzextVf2, VsextVf2, VzextVf4, VsextVf4, VzextVf8, VsextVf8, Vadc, Vsbc, Vmadc, Vmsbc}
use Rattle.operation.specs.declared.Op.TheVariants.{Vand, Vor, Vxor, Vsll, Vsrl, Vsra, Vnsrl, Vnsra}
use Rattle.operation.specs.declared.Op.TheVariants.{Vmseq, Vmsne, Vmsltu, Vmslt, Vmsleu, Vmsle, Vmsgtu, Vmsgt, Vminu, Vmin, Vmaxu, Vmax}
use Rattle.operation.specs.declared.Op.TheVariants.{Vmul, Vmulh, Vmulhu, Vmulhsu, Vdivu, Vdiv, Vremu, Vrem, Vwmul, Vwmulu, Vwmulsu}
use Rattle.operation.specs.declared.Op.TheVariants.{Vmacc, Vnmsac, Vmadd, Vnmsub, Vwmaccu, Vwmacc, Vwmaccsu, Vwmaccus}
use Rattle.operation.specs.declared.Op.TheVariants.{Vsaddu, Vsadd, Vssubu, Vssub, Vaaddu, Vaadd, Vasubu, Vasub, Vsmul}
use Rattle.operation.specs.declared.Op.TheVariants.{Vssrl, Vssra, Vnclipu, Vnclip}
use Rattle.operation.specs.declared.Op.TheVariants.{Vmand, Vmnand, Vmandn, Vmxor, Vmor, Vmnor, Vmorn, Vmxnor}
use Rattle.decode.specs.declared.MaskOp.TheVariants.{Vcpop, Vfirst, Vmsbf, Vmsof, Vmsif}
use Rattle.decode.specs.declared.ReductionOp.TheVariants.{Vredsum, Vredand, Vredor, Vredxor, Vredminu, Vredmin, Vredmaxu, Vredmax}
use Rattle.decode.specs.declared.ReductionOp.TheVariants.{Vwredsumu, Vwredsum}
use Rattle.decode.specs.declared.PermutationOp.TheVariants.{Vid, Vslideup, Vslidedown, Vslide1up, Vslide1down}
use Rattle.decode.specs.declared.PermutationOp.TheVariants.{Vrgather, Vrgatherei16}
use Rattle.decode.specs.declared.PackOp.TheVariants.{Viota, Vcompress}
use Rattle.decode.specs.declared.ScalarMoveOp.TheVariants.{VmvXS, VmvSX}
use Rattle.decode.specs.declared.Entry.{Entry}
use Rattle.decode.specs.declared.Entry.TheVariants.{Reserved, Operation, OnMask, Reduces, MergeOrMove, Vxunary0, Vwxunary0, Vmunary0}
use Rattle.decode.specs.declared.Entry.TheVariants.{Permutes, Packs, MovesScalar, Setting}

-- the columns that an operation is listed in, by funct3; its number, funct6; what the word names
pub record Row : Type 0 where
  pub columns : List ℕ
  pub number : ℕ
  pub entry : Entry

abbrev pub row : List ℕ → ℕ → Entry → Row
row cs k e = record { columns = cs; number = k; entry = e }

-- funct3 (section 11.1): OPIVV 000, OPIVI 011, OPIVX 100; OPMVV 010, OPMVX 110
abbrev pub vxi : List ℕ
vxi = 0b000 ∷ 0b100 ∷ 0b011 ∷ []

abbrev pub vx : List ℕ
vx = 0b000 ∷ 0b100 ∷ []

abbrev pub vv : List ℕ
vv = 0b000 ∷ []

abbrev pub xi : List ℕ
xi = 0b100 ∷ 0b011 ∷ []

abbrev pub mvx : List ℕ
mvx = 0b010 ∷ 0b110 ∷ []

abbrev pub mv : List ℕ
mv = 0b010 ∷ []

abbrev pub mx : List ℕ
mx = 0b110 ∷ []

unfoldable pub listing : List Row
listing =
    row vxi 0b000000 (Operation Vadd) ∷
    row vx 0b000010 (Operation Vsub) ∷
    row xi 0b000011 (Operation Vrsub) ∷
    row vx 0b000100 (Operation Vminu) ∷
    row vx 0b000101 (Operation Vmin) ∷
    row vx 0b000110 (Operation Vmaxu) ∷
    row vx 0b000111 (Operation Vmax) ∷
    row vxi 0b001001 (Operation Vand) ∷
    row vxi 0b001010 (Operation Vor) ∷
    row vxi 0b001011 (Operation Vxor) ∷
    row vxi 0b001100 (Permutes Vrgather) ∷
    row vv 0b001110 (Permutes Vrgatherei16) ∷
    row xi 0b001110 (Permutes Vslideup) ∷
    row xi 0b001111 (Permutes Vslidedown) ∷
    row vxi 0b010000 (Operation Vadc) ∷
    row vxi 0b010001 (Operation Vmadc) ∷
    row vx 0b010010 (Operation Vsbc) ∷
    row vx 0b010011 (Operation Vmsbc) ∷
    row vxi 0b010111 MergeOrMove ∷
    row vxi 0b011000 (Operation Vmseq) ∷
    row vxi 0b011001 (Operation Vmsne) ∷
    row vx 0b011010 (Operation Vmsltu) ∷
    row vx 0b011011 (Operation Vmslt) ∷
    row vxi 0b011100 (Operation Vmsleu) ∷
    row vxi 0b011101 (Operation Vmsle) ∷
    row xi 0b011110 (Operation Vmsgtu) ∷
    row xi 0b011111 (Operation Vmsgt) ∷
    row vxi 0b100000 (Operation Vsaddu) ∷
    row vxi 0b100001 (Operation Vsadd) ∷
    row vx 0b100010 (Operation Vssubu) ∷
    row vx 0b100011 (Operation Vssub) ∷
    row vxi 0b100101 (Operation Vsll) ∷
    row vx 0b100111 (Operation Vsmul) ∷
    row vxi 0b101000 (Operation Vsrl) ∷
    row vxi 0b101001 (Operation Vsra) ∷
    row vxi 0b101010 (Operation Vssrl) ∷
    row vxi 0b101011 (Operation Vssra) ∷
    row vxi 0b101100 (Operation Vnsrl) ∷
    row vxi 0b101101 (Operation Vnsra) ∷
    row vxi 0b101110 (Operation Vnclipu) ∷
    row vxi 0b101111 (Operation Vnclip) ∷
    row vv 0b110000 (Reduces Vwredsumu) ∷
    row vv 0b110001 (Reduces Vwredsum) ∷
    row mv 0b000000 (Reduces Vredsum) ∷
    row mv 0b000001 (Reduces Vredand) ∷
    row mv 0b000010 (Reduces Vredor) ∷
    row mv 0b000011 (Reduces Vredxor) ∷
    row mv 0b000100 (Reduces Vredminu) ∷
    row mv 0b000101 (Reduces Vredmin) ∷
    row mv 0b000110 (Reduces Vredmaxu) ∷
    row mv 0b000111 (Reduces Vredmax) ∷
    row mvx 0b001000 (Operation Vaaddu) ∷
    row mvx 0b001001 (Operation Vaadd) ∷
    row mvx 0b001010 (Operation Vasubu) ∷
    row mvx 0b001011 (Operation Vasub) ∷
    row mx 0b001110 (Permutes Vslide1up) ∷
    row mx 0b001111 (Permutes Vslide1down) ∷
    row mv 0b010000 Vwxunary0 ∷
    row mx 0b010000 (MovesScalar VmvSX) ∷
    row mv 0b010010 Vxunary0 ∷
    row mv 0b010100 Vmunary0 ∷
    row mv 0b010111 (Packs Vcompress) ∷
    row mv 0b011000 (Operation Vmandn) ∷
    row mv 0b011001 (Operation Vmand) ∷
    row mv 0b011010 (Operation Vmor) ∷
    row mv 0b011011 (Operation Vmxor) ∷
    row mv 0b011100 (Operation Vmorn) ∷
    row mv 0b011101 (Operation Vmnand) ∷
    row mv 0b011110 (Operation Vmnor) ∷
    row mv 0b011111 (Operation Vmxnor) ∷
    row mvx 0b100000 (Operation Vdivu) ∷
    row mvx 0b100001 (Operation Vdiv) ∷
    row mvx 0b100010 (Operation Vremu) ∷
    row mvx 0b100011 (Operation Vrem) ∷
    row mvx 0b100100 (Operation Vmulhu) ∷
    row mvx 0b100101 (Operation Vmul) ∷
    row mvx 0b100110 (Operation Vmulhsu) ∷
    row mvx 0b100111 (Operation Vmulh) ∷
    row mvx 0b101001 (Operation Vmadd) ∷
    row mvx 0b101011 (Operation Vnmsub) ∷
    row mvx 0b101101 (Operation Vmacc) ∷
    row mvx 0b101111 (Operation Vnmsac) ∷
    row mvx 0b110000 (Operation Vwaddu) ∷
    row mvx 0b110001 (Operation Vwadd) ∷
    row mvx 0b110010 (Operation Vwsubu) ∷
    row mvx 0b110011 (Operation Vwsub) ∷
    row mvx 0b110100 (Operation VwadduW) ∷
    row mvx 0b110101 (Operation VwaddW) ∷
    row mvx 0b110110 (Operation VwsubuW) ∷
    row mvx 0b110111 (Operation VwsubW) ∷
    row mvx 0b111000 (Operation Vwmulu) ∷
    row mvx 0b111010 (Operation Vwmulsu) ∷
    row mvx 0b111011 (Operation Vwmul) ∷
    row mvx 0b111100 (Operation Vwmaccu) ∷
    row mvx 0b111101 (Operation Vwmacc) ∷
    row mx 0b111110 (Operation Vwmaccus) ∷
    row mvx 0b111111 (Operation Vwmaccsu) ∷
    []

-- the tables below the listing, by the vs1 field: VXUNARY0, VWXUNARY0, VMUNARY0
unfoldable pub vxunary0 : List Row
vxunary0 =
    row mv 0b00010 (Operation VzextVf8) ∷
    row mv 0b00011 (Operation VsextVf8) ∷
    row mv 0b00100 (Operation VzextVf4) ∷
    row mv 0b00101 (Operation VsextVf4) ∷
    row mv 0b00110 (Operation VzextVf2) ∷
    row mv 0b00111 (Operation VsextVf2) ∷
    []

unfoldable pub vwxunary0 : List Row
vwxunary0 =
    row mv 0b00000 (MovesScalar VmvXS) ∷
    row mv 0b10000 (OnMask Vcpop) ∷
    row mv 0b10001 (OnMask Vfirst) ∷
    []

unfoldable pub vmunary0 : List Row
vmunary0 =
    row mv 0b00001 (OnMask Vmsbf) ∷
    row mv 0b00010 (OnMask Vmsof) ∷
    row mv 0b00011 (OnMask Vmsif) ∷
    row mv 0b10000 (Packs Viota) ∷
    row mv 0b10001 (Permutes Vid) ∷
    []

-- whether a row stands in a column
abbrev pub has : ℕ → List ℕ → Bool
has c [] = false
has c (k ∷ ks) = eqb c k || has c ks

abbrev pub in_column : ℕ → Row → Bool
in_column c r = has c r.columns

-- the rows that a test picks
abbrev pub keep : (Row → Bool) → List Row → List Row
keep p [] = []
keep p (r ∷ rs) = cond (p r) (r ∷ keep p rs) (keep p rs)

-- the entry with that number
unfoldable pub find : List Row → ℕ → Entry
find [] k = Reserved
find (r ∷ rs) k = cond (eqb k r.number) r.entry (find rs k)

-- what funct3 and funct6 name; OPCFG, 111, has the setting instructions, whatever funct6 is
unfoldable pub entry_of : ℕ → ℕ → Entry
entry_of funct3 funct6 = cond (eqb funct3 0b111) Setting (find (keep (in_column funct3) listing) funct6)
