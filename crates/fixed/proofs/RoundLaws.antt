-- Rounding: the rows of the table by the tests of the code, the increment's size, and the sums that the code makes.
use mathlib.Core.Path.{◌≡◌, refl, sym, ap, ap₂, ◌∙◌, subst⁻¹, subst₂}
use mathlib.Core.Bool.{Bool, true, false, cond, not, ◌&&◌, ◌||◌}
use Prim.Native.Nat.{ℕ, zero, suc, ◌+◌, ◌-◌, ◌*◌, ◌/◌, ◌%◌, ◌<◌, ◌≤◌, ◌^◌}
use native.Mathlib.Omega.{arith}
use native.Mathlib.Nat.{mod-lt, div-one, add-zero, mul-le-mul_left, div-mul-le_self, div-lt_iff_lt-mul, two-pow-succ}
use lib.IntN.{ℤ, pos, negsuc, ◌+ℤ◌, +ℤ_idr}
use lib.Signed.{shr_z, mag}
use lib.Dec.{ltb, eqb}
use lib.Pow.{pow_pos, pow_mono}
use mir.Syntax.{w64}
use mir.Val.{Fits, SFits, to_z, of_z, bool_byte}
use mir.Facts.{to_z-of_z, to_z_pos}
use borrow.Author.Tests.{eq-eqb, ne_eqb}
use Rattle.width.specs.Width.{wrap}
use Rattle.width.proofs.FlagLaws.{byte-is}
use Rattle.width.proofs.SignedLaws.{wrap-lt, shr-back}
use Rattle.fixed.specs.declared.Vxrm.{Vxrm}
use Rattle.fixed.specs.declared.Vxrm.TheVariants.{Rnu, Rne, Rdn, Rod}
use Rattle.fixed.specs.Round.{increment, roundoff_unsigned, roundoff_signed}

pub unit-pos : (u d : ℕ) → u ≡ 2 ^ d → 0 < u
unit-pos u d h = omega (arith, pow_pos d)

-- ---- the rows of the table, by the tests of the code; u is 2 ^ (d − 1)

pub none : (rm : Vxrm) (d last lost : ℕ) → d ≡ 0 → 0 ≡ increment rm d last lost
unfolding increment
none rm d last lost e = rw e

module _ (rm : Vxrm) (d last lost u : ℕ) (some : d ≡ 0 → ⊥) (u-is : u ≡ 2 ^ (d - 1)) where
  positive : increment rm d last lost ≡ increment rm (suc (d - 1)) last lost
  positive = ap (λ (k : ℕ). increment rm k last lost) (omega (arith, some))

  pub rnu : rm ≡ Rnu → lost / u ≡ increment rm d last lost
  unfolding increment
  rnu r = rw (positive, r, u-is)

  pub rne-lower : rm ≡ Rne → (lost % u ≡ 0 → ⊥) → lost / u ≡ increment rm d last lost
  unfolding increment
  rne-lower r k = rw (positive, r, ← u-is, ne_eqb (lost % u) 0 k)

  pub rne-odd : rm ≡ Rne → lost % u ≡ 0 → last ≡ 1 → lost / u ≡ increment rm d last lost
  unfolding increment
  rne-odd r k l = rw (positive, r, ← u-is, eq-eqb (lost % u) 0 k, eq-eqb last 1 l)

  pub rne-even : rm ≡ Rne → lost % u ≡ 0 → (last ≡ 1 → ⊥) → 0 ≡ increment rm d last lost
  unfolding increment
  rne-even r k l = rw (positive, r, ← u-is, eq-eqb (lost % u) 0 k, ne_eqb last 1 l)

  pub rdn : rm ≡ Rdn → 0 ≡ increment rm d last lost
  unfolding increment
  rdn r = rw (positive, r)

  pub rod : (r : ℕ) → r ≡ bool_byte (eqb last 0 && not (eqb lost 0)) → rm ≡ Rod → r ≡ increment rm d last lost
  unfolding increment
  rod r e m = e ∙ byte-is (eqb last 0 && not (eqb lost 0)) ∙ rw (positive, m)

-- ---- the increment is 0 or 1

highest-le : (e lost : ℕ) → lost < 2 ^ suc e → lost / 2 ^ e ≤ 1
highest-le e lost h = let l : lost / 2 ^ e < 2 = (div-lt_iff_lt-mul (pow_pos e)).1 (omega (arith, two-pow-succ e)) in omega arith

cond-le : (t : Bool) (x : ℕ) → x ≤ 1 → cond t x 0 ≤ 1
cond-le true x h = h
cond-le false x h = omega arith

increment-le : (rm : Vxrm) (d last lost : ℕ) → lost < 2 ^ d → increment rm d last lost ≤ 1
unfolding increment
increment-le rm zero last lost h = omega arith
increment-le Rnu (suc e) last lost h = highest-le e lost h
increment-le Rne (suc e) last lost h = cond-le (not (eqb (lost % 2 ^ e) 0) || eqb last 1) (lost / 2 ^ e) (highest-le e lost h)
increment-le Rdn (suc e) last lost h = omega arith
increment-le Rod (suc e) last lost h = cond-le (eqb last 0 && not (eqb lost 0)) 1 (omega arith)

-- ---- what the code computes

-- a value shifted down by at least one is at most half
shifted_half : (v d : ℕ) → (d ≡ 0 → ⊥) → 2 * (v / 2 ^ d) ≤ v
shifted_half v d f =
    let h : 2 ≤ 2 ^ d = pow_mono {i = 1} {j = d} (omega (arith, f)) in
    omega (arith, mul-le-mul_left (v / 2 ^ d) h, div-mul-le_self v (2 ^ d))

pub unsigned-none : (rm : Vxrm) (v d : ℕ) → d ≡ 0 → v ≡ roundoff_unsigned rm v d
unfolding roundoff_unsigned increment
unsigned-none rm v d e = rw (e, div-one v, add-zero v)

module _ (rm : Vxrm) (v d lost i : ℕ) (some : d ≡ 0 → ⊥) (fits : Fits w64 v) (lost-is : lost ≡ v % 2 ^ d)
    (i-is : i ≡ increment rm d (v / 2 ^ d % 2) lost) where
  pub unsigned-fits : Fits w64 (v / 2 ^ d + i)
  unsigned-fits =
      let e = increment-le rm d (v / 2 ^ d % 2) lost (omega (arith, mod-lt v (pow_pos d))) in
      record { fits = omega (arith, shifted_half v d some, e, fits.fits) }

  pub unsigned_is : v / 2 ^ d + i ≡ roundoff_unsigned rm v d
  unfolding roundoff_unsigned
  unsigned_is = rw (i-is, lost-is)

-- what an i64 is read back as
abbrev pub back : ℤ → ℤ
back z = to_z w64 (of_z w64 z)

shr_one : (z : ℤ) → shr_z z 1 ≡ z
shr_one (pos n) = ap pos (div-one n)
shr_one (negsuc n) = ap negsuc (div-one n)

pub signed-none : (rm : Vxrm) (z : ℤ) (d : ℕ) → SFits w64 z → d ≡ 0 → back z ≡ roundoff_signed rm z d
unfolding roundoff_signed increment
signed-none rm z d h e = to_z-of_z h ∙ rw (e, shr_one z, +ℤ_idr z)

mag-shr-is : (z : ℤ) (m : ℕ) → mag (shr_z z m) ≡ mag z / m
mag-shr-is (pos n) m = refl
mag-shr-is (negsuc n) m = refl

mag-cond : (t : Bool) (x y n : ℕ) → x ≤ n → y ≤ n → mag (cond t (negsuc x) (pos y)) ≤ n
mag-cond true x y n h l = h
mag-cond false x y n h l = l

mag-add : (z : ℤ) (i : ℕ) → mag (z +ℤ pos i) ≤ mag z + i
mag-add (pos n) i = omega arith
mag-add (negsuc n) i = mag-cond (ltb i (suc n)) (suc n - suc i) (i - suc n) (n + i) (omega arith) (omega arith)

module _ (rm : Vxrm) (z : ℤ) (d last lost i : ℕ) (some : d ≡ 0 → ⊥) (fits : SFits w64 z)
    (last-is : last ≡ wrap 1 (back (shr_z (back z) (2 ^ d)))) (lost-is : lost ≡ wrap d (back z)) (i-is : i ≡ increment rm d last lost) where
  at_most_one : i ≤ 1
  at_most_one = omega (arith, increment-le rm d last lost (subst⁻¹ (λ (x : ℕ). x < 2 ^ d) lost-is (wrap-lt d (back z))))

  pub increment-fits : SFits w64 (pos i)
  increment-fits = record { sfits = omega (arith, at_most_one) }

  -- at least one bit is shifted out
  sum_fits : SFits w64 (shr_z z (2 ^ d) +ℤ pos i)
  sum_fits =
      let e = shifted_half (mag z) d some in
      record { sfits = omega (arith, mag-add (shr_z z (2 ^ d)) i, mag-shr-is z (2 ^ d), e, at_most_one, fits.sfits) }

  pub signed-fits : SFits w64 (back (shr_z (back z) (2 ^ d)) +ℤ to_z w64 i)
  signed-fits =
      subst₂ (λ (x y : ℤ). SFits w64 (x +ℤ y)) (sym (shr-back z (2 ^ d) fits)) (sym (to_z_pos w64 increment-fits.sfits)) sum_fits

  pub signed_is : back (back (shr_z (back z) (2 ^ d)) +ℤ to_z w64 i) ≡ roundoff_signed rm z d
  unfolding roundoff_signed
  signed_is =
      ap₂ (λ (x y : ℤ). back (x +ℤ y)) (shr-back z (2 ^ d) fits) (to_z_pos w64 increment-fits.sfits) ∙ to_z-of_z sum_fits
      ∙ rw (i-is, last-is, lost-is, shr-back z (2 ^ d) fits, to_z-of_z fits)
