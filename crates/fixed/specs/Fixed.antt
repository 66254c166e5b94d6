-- The element operations of section 13 of document 000. w is SEW, rm the rounding mode. The operands have their names there: vs2 and
-- vs1 (or the scalar or immediate in its place) are elements.
use Rattle.std.specs.Prelude.{ℕ, ◌+◌, ◌-◌, ◌*◌, ◌%◌, ◌^◌, pos, ◌+ℤ◌, ◌-ℤ◌, ◌*ℤ◌}
use Rattle.std.proofs.Math.IntN.{sub_ℕ}
use Rattle.width.specs.Width.{signed, wrap}
use Rattle.fixed.specs.declared.Element.{Element}
use Rattle.fixed.specs.declared.Vxrm.{Vxrm}
use Rattle.fixed.specs.Round.{roundoff_unsigned, roundoff_signed, clip_unsigned, clip_signed}

-- ---- 13.1 Vector Single-Width Saturating Add and Subtract

unfoldable pub vsaddu : ℕ → ℕ → ℕ → Element
vsaddu w vs2 vs1 = clip_unsigned w (pos (vs2 + vs1))

unfoldable pub vsadd : ℕ → ℕ → ℕ → Element
vsadd w vs2 vs1 = clip_signed w (signed w vs2 +ℤ signed w vs1)

unfoldable pub vssubu : ℕ → ℕ → ℕ → Element
vssubu w vs2 vs1 = clip_unsigned w (sub_ℕ vs2 vs1)

unfoldable pub vssub : ℕ → ℕ → ℕ → Element
vssub w vs2 vs1 = clip_signed w (signed w vs2 -ℤ signed w vs1)

-- ---- 13.2 Vector Single-Width Averaging Add and Subtract

-- The exact sum has SEW + 1 bits. "There can be no overflow in the result": at SEW 8 it is at most 255, or from −128 to 127, in every
-- mode. So nothing is cut here: % 2 ^ w changes no number, and wrap gives a negative one its two's complement
unfoldable pub vaaddu : Vxrm → ℕ → ℕ → ℕ → ℕ
vaaddu rm w vs2 vs1 = roundoff_unsigned rm (vs2 + vs1) 1 % 2 ^ w

unfoldable pub vaadd : Vxrm → ℕ → ℕ → ℕ → ℕ
vaadd rm w vs2 vs1 = wrap w (roundoff_signed rm (signed w vs2 +ℤ signed w vs1) 1)

-- "Overflow is ignored and the result wraps around": it does so where the rounded half is negative. The standard writes
-- roundoff_unsigned(vs2 − vs1, 1). At more bits than SEW, an unsigned difference that is negative stands above itself by a multiple of
-- 2 ^ (SEW + 1): the cut to SEW bits takes away half of that, and its last two bits, on which r depends, are 0. So the exact difference,
-- rounded off with its sign, gives the same. (At SEW bits the borrow would be lost: 0 − 1 at SEW 8 by rnu is 0, and not 128.)
unfoldable pub vasubu : Vxrm → ℕ → ℕ → ℕ → ℕ
vasubu rm w vs2 vs1 = wrap w (roundoff_signed rm (sub_ℕ vs2 vs1) 1)

-- It wraps around at one pair of operands, the largest less the smallest, by rnu and rne: 127 − (−128) at SEW 8 is 255, whose half is
-- rounded to 128, which is −128 (document 01, P6). Elsewhere nothing is cut
unfoldable pub vasub : Vxrm → ℕ → ℕ → ℕ → ℕ
vasub rm w vs2 vs1 = wrap w (roundoff_signed rm (signed w vs2 -ℤ signed w vs1) 1)

-- ---- 13.3 Vector Single-Width Fractional Multiply with Rounding and Saturation

unfoldable pub vsmul : Vxrm → ℕ → ℕ → ℕ → Element
vsmul rm w vs2 vs1 = clip_signed w (roundoff_signed rm (signed w vs2 *ℤ signed w vs1) (w - 1))

-- ---- 13.4 Vector Single-Width Scaling Shift Instructions: the low lg2(SEW) bits of vs1. Nothing is cut: a shift by 0 rounds nothing off,
-- and one by more leaves room for r

unfoldable pub vssrl : Vxrm → ℕ → ℕ → ℕ → ℕ
vssrl rm w vs2 vs1 = roundoff_unsigned rm vs2 (vs1 % w) % 2 ^ w

unfoldable pub vssra : Vxrm → ℕ → ℕ → ℕ → ℕ
vssra rm w vs2 vs1 = wrap w (roundoff_signed rm (signed w vs2) (vs1 % w))

-- ---- 13.5 Vector Narrowing Fixed-Point Clip Instructions: vs2 has 2 * SEW bits; the low lg2(2 * SEW) bits of vs1

unfoldable pub vnclipu : Vxrm → ℕ → ℕ → ℕ → Element
vnclipu rm w vs2 vs1 = clip_unsigned w (pos (roundoff_unsigned rm vs2 (vs1 % (2 * w))))

unfoldable pub vnclip : Vxrm → ℕ → ℕ → ℕ → Element
vnclip rm w vs2 vs1 = clip_signed w (roundoff_signed rm (signed (2 * w) vs2) (vs1 % (2 * w)))
