-- Rounding and saturation. Section 4.8 of document 000: the rounded result is (v >> d) + r, where r depends on the rounding mode.
use Rattle.std.specs.Prelude.{ℕ, zero, suc, ◌+◌, ◌-◌, ◌/◌, ◌%◌, ◌^◌, ℤ, pos, neg_ℤ, ◌+ℤ◌, eqb, true, false, cond, not, ◌&&◌, ◌||◌}
use Rattle.std.specs.Int.Signed.{shr_z, lt_z, le_z}
use Rattle.width.specs.Width.{wrap, flag}
use Rattle.fixed.specs.declared.Element.{Element}
use Rattle.fixed.specs.declared.Vxrm.{Vxrm}
use Rattle.fixed.specs.declared.Vxrm.TheVariants.{Rnu, Rne, Rdn, Rod}

-- the rounding mode of a vxrm number (section 4.8); one above 3 is refused (answer 36)
abbrev pub vxrm_of : ℕ → Vxrm
vxrm_of n = cond (eqb n 0) Rnu (cond (eqb n 1) Rne (cond (eqb n 2) Rdn Rod))

-- The rounding increment r (section 4.8 and document 01, 'Numbers'), where d bits of v are rounded off: `last` is the last kept bit
-- v[d], `lost` the lost bits v[d-1:0]. With d = e + 1, lost / 2 ^ e is the highest lost bit v[d-1] and lost % 2 ^ e the lower ones.
--     rnu: the highest lost bit          rne: that bit if a lower lost bit or the last kept bit is 1, else 0
--     rdn: 0                             rod: 1 if the last kept bit is 0 and a lost bit is 1
unfoldable pub increment : Vxrm → ℕ → ℕ → ℕ → ℕ
increment rm zero last lost = 0
increment Rnu (suc e) last lost = lost / 2 ^ e
increment Rne (suc e) last lost = cond (not (eqb (lost % 2 ^ e) 0) || eqb last 1) (lost / 2 ^ e) 0
increment Rdn (suc e) last lost = 0
increment Rod (suc e) last lost = flag (eqb last 0 && not (eqb lost 0))

-- roundoff_unsigned(v, d) = (unsigned(v) >> d) + r
unfoldable pub roundoff_unsigned : Vxrm → ℕ → ℕ → ℕ
roundoff_unsigned rm v d = v / 2 ^ d + increment rm d (v / 2 ^ d % 2) (v % 2 ^ d)

-- roundoff_signed(v, d) = (signed(v) >> d) + r
unfoldable pub roundoff_signed : Vxrm → ℤ → ℕ → ℤ
roundoff_signed rm v d = shr_z v (2 ^ d) +ℤ pos (increment rm d (wrap 1 (shr_z v (2 ^ d))) (wrap d v))

-- an element that did not saturate, and one that did (section 4.9)
abbrev pub exact : ℕ → Element
exact x = record { value = x; saturates = false }

abbrev pub saturated : ℕ → Element
saturated x = record { value = x; saturates = true }

-- clip of an unsigned result to 0 .. 2 ^ w − 1: the closest representable value (section 13.1)
unfoldable pub clip_unsigned : ℕ → ℤ → Element
clip_unsigned w z = cond (lt_z z (pos 0)) (saturated 0) (cond (le_z (pos (2 ^ w)) z) (saturated (2 ^ w - 1)) (exact (wrap w z)))

-- clip of a signed result to −2 ^ (w − 1) .. 2 ^ (w − 1) − 1
unfoldable pub clip_signed : ℕ → ℤ → Element
clip_signed w z =
    cond (lt_z z (neg_ℤ (pos (2 ^ (w - 1))))) (saturated (2 ^ (w - 1)))
    (cond (le_z (pos (2 ^ (w - 1))) z) (saturated (2 ^ (w - 1) - 1)) (exact (wrap w z)))
