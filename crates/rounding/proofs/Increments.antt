-- The increments of the table by the size of what is lost: twice the lost part beside unit, which is 2 ^ d. last is the last kept bit.
use mathlib.Core.Path.{◌≡◌, refl, ap}
use mathlib.Core.Bool.{Bool, cond, not, ◌||◌}
use Prim.Native.Nat.{ℕ, zero, suc, ◌+◌, ◌*◌, ◌/◌, ◌%◌, ◌<◌, ◌≤◌, ◌^◌}
use native.Mathlib.Nat.{lt_of_not-le, div-add-mod', div-eq_of_lt, div-eq_of_lt-le}
use native.Mathlib.Decide.{dec_le}
use native.Mathlib.Omega.{arith}
use lib.Dec.{eqb}
use borrow.Author.Tests.{eq-eqb, ne_eqb}
use Rattle.laws.proofs.Chain.{either}
use Rattle.fixed.specs.declared.Vxrm.TheVariants.{Rnu, Rne, Rdn, Rod}
use Rattle.fixed.specs.Round.{increment}

pub data RnuAdds (unit lost : ℕ) : ℕ → Type 0 where
  under-half : 2 * lost < unit → RnuAdds unit lost 0
  from-half : unit ≤ 2 * lost → RnuAdds unit lost 1

pub data RneAdds (unit last lost : ℕ) : ℕ → Type 0 where
  below : 2 * lost < unit → RneAdds unit last lost 0
  above : unit < 2 * lost → RneAdds unit last lost 1
  tie-even : 2 * lost ≡ unit → last ≡ 0 → RneAdds unit last lost 0
  tie-odd : 2 * lost ≡ unit → last ≡ 1 → RneAdds unit last lost 1

pub data RodAdds (last lost : ℕ) : ℕ → Type 0 where
  whole : lost ≡ 0 → RodAdds last lost 0
  kept-odd : last ≡ 1 → RodAdds last lost 0
  made-odd : last ≡ 0 → 0 < lost → RodAdds last lost 1

-- from half of 2 ^ d up the highest lost bit is 1, and the lower ones are the rest
module _ (e lost : ℕ) (fits : lost < 2 ^ suc e) (high : 2 ^ e ≤ lost) where
  highest : lost / 2 ^ e ≡ 1
  highest = div-eq_of_lt-le {k = 1} (2 ^ e) {m = lost} (omega arith) (omega arith)

  lower : lost ≡ 2 ^ e + lost % 2 ^ e
  lower = let q : lost / 2 ^ e * 2 ^ e ≡ 1 * 2 ^ e = ap (λ (x : ℕ). x * 2 ^ e) highest in omega (arith, div-add-mod' lost (2 ^ e))

pub rnu-adds : (d last lost : ℕ) → lost < 2 ^ d → RnuAdds (2 ^ d) lost (increment Rnu d last lost)
unfolding increment
rnu-adds zero last lost fits = under-half (omega arith)
rnu-adds (suc e) last lost fits = go (dec_le (2 ^ e) lost)
  where
    go : Dec (2 ^ e ≤ lost) → RnuAdds (2 ^ suc e) lost (lost / 2 ^ e)
    go (yes h) = rw (highest e lost fits h) (from-half (omega arith))
    go (no f) = let h : lost < 2 ^ e = lt_of_not-le f in rw (div-eq_of_lt h) (under-half (omega arith))

pub rne-adds : (d last lost : ℕ) → last < 2 → lost < 2 ^ d → RneAdds (2 ^ d) last lost (increment Rne d last lost)
unfolding increment
rne-adds zero last lost bit fits = below (omega arith)
rne-adds (suc e) last lost bit fits = go (dec_le (2 ^ e) lost)
  where
    test : Bool
    test = not (eqb (lost % 2 ^ e) 0) || eqb last 1

    value : ℕ
    value = cond test (lost / 2 ^ e) 0

    tie : 2 * lost ≡ 2 ^ suc e → 2 ^ e ≤ lost → Dec (last ≤ 0) → RneAdds (2 ^ suc e) last lost value
    tie l h (yes k) =
        let z : last ≡ 0 = omega arith in
        rw (eq-eqb (lost % 2 ^ e) 0 (omega (arith, lower e lost fits h)), z) (tie-even l refl)
    tie l h (no k) =
        let z : last ≡ 1 = omega (arith, lt_of_not-le k) in
        rw (eq-eqb (lost % 2 ^ e) 0 (omega (arith, lower e lost fits h)), highest e lost fits h, z) (tie-odd l refl)

    from-half-up : 2 ^ e ≤ lost → Dec (lost ≤ 2 ^ e) → RneAdds (2 ^ suc e) last lost value
    from-half-up h (yes l) = tie (omega arith) h (dec_le last 0)
    from-half-up h (no f) =
        let l : 2 ^ e < lost = lt_of_not-le f in
        rw (ne_eqb (lost % 2 ^ e) 0 (λ z. omega (arith, lower e lost fits h)), highest e lost fits h) (above (omega arith))

    go : Dec (2 ^ e ≤ lost) → RneAdds (2 ^ suc e) last lost value
    go (yes h) = from-half-up h (dec_le lost (2 ^ e))
    go (no f) =
        let h : lost < 2 ^ e = lt_of_not-le f in
        let l : 2 * lost < 2 ^ suc e = omega arith in
        rw (div-eq_of_lt h) (either (RneAdds (2 ^ suc e) last lost) test 0 0 (λ t. below l) (λ t. below l))

pub rdn-adds : (d last lost : ℕ) → increment Rdn d last lost ≡ 0
unfolding increment
rdn-adds zero last lost = refl
rdn-adds (suc e) last lost = refl

pub rod-adds : (d last lost : ℕ) → last < 2 → lost < 2 ^ d → RodAdds last lost (increment Rod d last lost)
unfolding increment
rod-adds zero last lost bit fits = whole (omega arith)
rod-adds (suc e) last lost bit fits = go (dec_le last 0) (dec_le lost 0)
  where
    go : Dec (last ≤ 0) → Dec (lost ≤ 0) → RodAdds last lost (increment Rod (suc e) last lost)
    go (yes h) (yes l) =
        let y : last ≡ 0 = omega arith in
        let z : lost ≡ 0 = omega arith in
        rw (y, z) (whole refl)
    go (yes h) (no f) =
        let y : last ≡ 0 = omega arith in
        rw (y, ne_eqb lost 0 (λ z. omega (arith, f))) (made-odd refl (lt_of_not-le f))
    go (no f) l = let y : last ≡ 1 = omega (arith, lt_of_not-le f) in rw y (kept-odd refl)
