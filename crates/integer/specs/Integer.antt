-- The element operations of sections 12.1 to 12.9, 12.15 and 12.16 of document 000. w is SEW. The operands have their names there:
-- vs2 and vs1 (or the scalar or immediate in its place) are elements, v0 is the mask bit of the element, 0 or 1.
use Rattle.std.specs.Prelude.{ℕ, ◌+◌, ◌*◌, ◌/◌, ◌%◌, ◌^◌, min, max, ◌+ℤ◌, ◌-ℤ◌, ltb, leb, eqb, cond, not}
use Rattle.std.proofs.Math.IntN.{sub_ℕ}
use Rattle.std.specs.Int.Signed.{shr_z, lt_z, le_z}
use Rattle.std.specs.Int.Bits.{bit_and, bit_or, bit_xor}
use Rattle.width.specs.Width.{signed, wrap, flag}

-- ---- 12.1 Vector Single-Width Integer Add and Subtract: sums and differences wrap around

abbrev pub vadd : ℕ → ℕ → ℕ → ℕ
vadd w vs2 vs1 = (vs2 + vs1) % 2 ^ w

abbrev pub vsub : ℕ → ℕ → ℕ → ℕ
vsub w vs2 vs1 = wrap w (sub_ℕ vs2 vs1)

abbrev pub vrsub : ℕ → ℕ → ℕ → ℕ
vrsub w vs2 vs1 = wrap w (sub_ℕ vs1 vs2)

-- ---- 12.2 Vector Widening Integer Add/Subtract: the result has 2 * SEW bits

abbrev pub vwaddu : ℕ → ℕ → ℕ → ℕ
vwaddu w vs2 vs1 = (vs2 + vs1) % 2 ^ (2 * w)

abbrev pub vwsubu : ℕ → ℕ → ℕ → ℕ
vwsubu w vs2 vs1 = wrap (2 * w) (sub_ℕ vs2 vs1)

abbrev pub vwadd : ℕ → ℕ → ℕ → ℕ
vwadd w vs2 vs1 = wrap (2 * w) (signed w vs2 +ℤ signed w vs1)

abbrev pub vwsub : ℕ → ℕ → ℕ → ℕ
vwsub w vs2 vs1 = wrap (2 * w) (signed w vs2 -ℤ signed w vs1)

-- the .wv and .wx forms: vs2 has 2 * SEW bits too. Unsigned, they are the sums and differences above
abbrev pub vwadd-w : ℕ → ℕ → ℕ → ℕ
vwadd-w w vs2 vs1 = wrap (2 * w) (signed (2 * w) vs2 +ℤ signed w vs1)

abbrev pub vwsub-w : ℕ → ℕ → ℕ → ℕ
vwsub-w w vs2 vs1 = wrap (2 * w) (signed (2 * w) vs2 -ℤ signed w vs1)

-- ---- 12.3 Vector Integer Extension: vs2 has SEW / f bits, for f = 2, 4, 8 (vf2, vf4, vf8)

-- the number itself
abbrev pub vzext : ℕ → ℕ → ℕ → ℕ
vzext f w vs2 = vs2

abbrev pub vsext : ℕ → ℕ → ℕ → ℕ
vsext f w vs2 = wrap w (signed (w / f) vs2)

-- ---- 12.4 Vector Integer Add-with-Carry / Subtract-with-Borrow: v0 is 0 where there is no carry-in

abbrev pub vadc : ℕ → ℕ → ℕ → ℕ → ℕ
vadc w vs2 vs1 v0 = (vs2 + vs1 + v0) % 2 ^ w

-- the carry out
abbrev pub vmadc : ℕ → ℕ → ℕ → ℕ → ℕ
vmadc w vs2 vs1 v0 = flag (leb (2 ^ w) (vs2 + vs1 + v0))

abbrev pub vsbc : ℕ → ℕ → ℕ → ℕ → ℕ
vsbc w vs2 vs1 v0 = wrap w (sub_ℕ vs2 (vs1 + v0))

-- the borrow out: the difference, prior to truncation, is negative
abbrev pub vmsbc : ℕ → ℕ → ℕ → ℕ → ℕ
vmsbc w vs2 vs1 v0 = flag (ltb vs2 (vs1 + v0))

-- ---- 12.5 Vector Bitwise Logical Instructions

abbrev pub vand : ℕ → ℕ → ℕ → ℕ
vand w vs2 vs1 = bit_and vs2 vs1

abbrev pub vor : ℕ → ℕ → ℕ → ℕ
vor w vs2 vs1 = bit_or vs2 vs1

abbrev pub vxor : ℕ → ℕ → ℕ → ℕ
vxor w vs2 vs1 = bit_xor vs2 vs1

-- ---- 12.6 Vector Single-Width Shift Instructions: the low lg2(SEW) bits of vs1, which are vs1 % SEW as SEW is a power of 2

abbrev pub vsll : ℕ → ℕ → ℕ → ℕ
vsll w vs2 vs1 = vs2 * 2 ^ (vs1 % w) % 2 ^ w

abbrev pub vsrl : ℕ → ℕ → ℕ → ℕ
vsrl w vs2 vs1 = vs2 / 2 ^ (vs1 % w)

-- sign-extending: the quotient rounded down
abbrev pub vsra : ℕ → ℕ → ℕ → ℕ
vsra w vs2 vs1 = wrap w (shr_z (signed w vs2) (2 ^ (vs1 % w)))

-- ---- 12.7 Vector Narrowing Integer Right Shift Instructions: vs2 has 2 * SEW bits; the low lg2(2 * SEW) bits of vs1

abbrev pub vnsrl : ℕ → ℕ → ℕ → ℕ
vnsrl w vs2 vs1 = vs2 / 2 ^ (vs1 % (2 * w)) % 2 ^ w

abbrev pub vnsra : ℕ → ℕ → ℕ → ℕ
vnsra w vs2 vs1 = wrap w (shr_z (signed (2 * w) vs2) (2 ^ (vs1 % (2 * w))))

-- ---- 12.8 Vector Integer Compare Instructions: a mask bit

abbrev pub vmseq : ℕ → ℕ → ℕ → ℕ
vmseq w vs2 vs1 = flag (eqb vs2 vs1)

abbrev pub vmsne : ℕ → ℕ → ℕ → ℕ
vmsne w vs2 vs1 = flag (not (eqb vs2 vs1))

abbrev pub vmsltu : ℕ → ℕ → ℕ → ℕ
vmsltu w vs2 vs1 = flag (ltb vs2 vs1)

abbrev pub vmslt : ℕ → ℕ → ℕ → ℕ
vmslt w vs2 vs1 = flag (lt_z (signed w vs2) (signed w vs1))

abbrev pub vmsleu : ℕ → ℕ → ℕ → ℕ
vmsleu w vs2 vs1 = flag (leb vs2 vs1)

abbrev pub vmsle : ℕ → ℕ → ℕ → ℕ
vmsle w vs2 vs1 = flag (le_z (signed w vs2) (signed w vs1))

abbrev pub vmsgtu : ℕ → ℕ → ℕ → ℕ
vmsgtu w vs2 vs1 = flag (ltb vs1 vs2)

abbrev pub vmsgt : ℕ → ℕ → ℕ → ℕ
vmsgt w vs2 vs1 = flag (lt_z (signed w vs1) (signed w vs2))

-- ---- 12.9 Vector Integer Min/Max Instructions

abbrev pub vminu : ℕ → ℕ → ℕ → ℕ
vminu w vs2 vs1 = min vs2 vs1

abbrev pub vmin : ℕ → ℕ → ℕ → ℕ
vmin w vs2 vs1 = cond (lt_z (signed w vs2) (signed w vs1)) vs2 vs1

abbrev pub vmaxu : ℕ → ℕ → ℕ → ℕ
vmaxu w vs2 vs1 = max vs2 vs1

abbrev pub vmax : ℕ → ℕ → ℕ → ℕ
vmax w vs2 vs1 = cond (lt_z (signed w vs2) (signed w vs1)) vs1 vs2

-- ---- 12.15 Vector Integer Merge Instructions; 12.16 Vector Integer Move Instructions

abbrev pub vmerge : ℕ → ℕ → ℕ → ℕ → ℕ
vmerge w vs2 vs1 v0 = cond (eqb v0 1) vs1 vs2

abbrev pub vmv : ℕ → ℕ → ℕ
vmv w vs1 = vs1
