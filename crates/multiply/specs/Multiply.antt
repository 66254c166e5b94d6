-- The element operations of sections 12.10 to 12.14 of document 000. w is SEW. The operands have their names there: vs2 and vs1 (or
-- the scalar in its place) are elements, vd is the destination's element before the instruction.
use Rattle.std.specs.Prelude.{ℕ, ◌+◌, ◌-◌, ◌*◌, ◌/◌, ◌%◌, ◌^◌, pos, ◌+ℤ◌, ◌*ℤ◌, eqb, cond}
use Rattle.std.proofs.Math.IntN.{sub_ℕ}
use Rattle.std.specs.Int.Signed.{quot_z, rem_z, shr_z}
use Rattle.width.specs.Width.{signed, wrap}

-- ---- 12.10 Vector Single-Width Integer Multiply Instructions

-- the low SEW bits of the product
abbrev pub vmul : ℕ → ℕ → ℕ → ℕ
vmul w vs2 vs1 = vs2 * vs1 % 2 ^ w

-- the high SEW bits: both signed; both unsigned; vs2 signed, vs1 unsigned
abbrev pub vmulh : ℕ → ℕ → ℕ → ℕ
vmulh w vs2 vs1 = wrap w (shr_z (signed w vs2 *ℤ signed w vs1) (2 ^ w))

abbrev pub vmulhu : ℕ → ℕ → ℕ → ℕ
vmulhu w vs2 vs1 = vs2 * vs1 / 2 ^ w

abbrev pub vmulhsu : ℕ → ℕ → ℕ → ℕ
vmulhsu w vs2 vs1 = wrap w (shr_z (signed w vs2 *ℤ pos vs1) (2 ^ w))

-- ---- 12.11 Vector Integer Divide Instructions: by 0, all ones and the dividend (document 01, 'Numbers')

abbrev pub vdivu : ℕ → ℕ → ℕ → ℕ
vdivu w vs2 vs1 = cond (eqb vs1 0) (2 ^ w - 1) (vs2 / vs1)

abbrev pub vremu : ℕ → ℕ → ℕ → ℕ
vremu w vs2 vs1 = cond (eqb vs1 0) vs2 (vs2 % vs1)

-- rounded toward zero. The least number by −1 is 2 ^ (SEW − 1), which wraps to the least number
abbrev pub vdiv : ℕ → ℕ → ℕ → ℕ
vdiv w vs2 vs1 = cond (eqb vs1 0) (2 ^ w - 1) (wrap w (quot_z (signed w vs2) (signed w vs1)))

abbrev pub vrem : ℕ → ℕ → ℕ → ℕ
vrem w vs2 vs1 = cond (eqb vs1 0) vs2 (wrap w (rem_z (signed w vs2) (signed w vs1)))

-- ---- 12.12 Vector Widening Integer Multiply Instructions: the full product of 2 * SEW bits

abbrev pub vwmul : ℕ → ℕ → ℕ → ℕ
vwmul w vs2 vs1 = wrap (2 * w) (signed w vs2 *ℤ signed w vs1)

abbrev pub vwmulu : ℕ → ℕ → ℕ → ℕ
vwmulu w vs2 vs1 = vs2 * vs1 % 2 ^ (2 * w)

-- vs2 signed, vs1 unsigned
abbrev pub vwmulsu : ℕ → ℕ → ℕ → ℕ
vwmulsu w vs2 vs1 = wrap (2 * w) (signed w vs2 *ℤ pos vs1)

-- ---- 12.13 Vector Single-Width Integer Multiply-Add Instructions

-- +(vs1 * vs2) + vd, −(vs1 * vs2) + vd: the addend is overwritten
abbrev pub vmacc : ℕ → ℕ → ℕ → ℕ → ℕ
vmacc w vs2 vs1 vd = (vs1 * vs2 + vd) % 2 ^ w

abbrev pub vnmsac : ℕ → ℕ → ℕ → ℕ → ℕ
vnmsac w vs2 vs1 vd = wrap w (sub_ℕ vd (vs1 * vs2))

-- (vs1 * vd) + vs2, −(vs1 * vd) + vs2: the multiplicand is overwritten
abbrev pub vmadd : ℕ → ℕ → ℕ → ℕ → ℕ
vmadd w vs2 vs1 vd = (vs1 * vd + vs2) % 2 ^ w

abbrev pub vnmsub : ℕ → ℕ → ℕ → ℕ → ℕ
vnmsub w vs2 vs1 vd = wrap w (sub_ℕ vs2 (vs1 * vd))

-- ---- 12.14 Vector Widening Integer Multiply-Add Instructions: the product and vd have 2 * SEW bits

abbrev pub vwmaccu : ℕ → ℕ → ℕ → ℕ → ℕ
vwmaccu w vs2 vs1 vd = (vs1 * vs2 + vd) % 2 ^ (2 * w)

abbrev pub vwmacc : ℕ → ℕ → ℕ → ℕ → ℕ
vwmacc w vs2 vs1 vd = wrap (2 * w) (signed w vs1 *ℤ signed w vs2 +ℤ pos vd)

-- vs1 signed, vs2 unsigned
abbrev pub vwmaccsu : ℕ → ℕ → ℕ → ℕ → ℕ
vwmaccsu w vs2 vs1 vd = wrap (2 * w) (signed w vs1 *ℤ pos vs2 +ℤ pos vd)

-- vs1 unsigned, vs2 signed
abbrev pub vwmaccus : ℕ → ℕ → ℕ → ℕ → ℕ
vwmaccus w vs2 vs1 vd = wrap (2 * w) (pos vs1 *ℤ signed w vs2 +ℤ pos vd)
