-- Each roundoff is what its row means, and nothing else is.
use mathlib.Core.Path.{◌≡◌, refl, ap, ◌∙◌}
use Prim.Native.Nat.{ℕ, suc, ◌+◌, ◌-◌, ◌*◌, ◌/◌, ◌%◌, ◌<◌, ◌≤◌, ◌^◌}
use native.Mathlib.Nat.{div-add-mod', mod-lt, mul-le-mul_left}
use native.Mathlib.Omega.{arith}
use lib.IntN.{ℤ, pos, negsuc, sub_ℕ}
use lib.Pow.{pow_pos}
use Rattle.width.specs.Width.{wrap}
use Rattle.width.proofs.Diff.{pos-diff, negsuc-diff, diff-eq}
use Rattle.fixed.specs.declared.Vxrm.{Vxrm}
use Rattle.fixed.specs.declared.Vxrm.TheVariants.{Rnu, Rne, Rdn, Rod}
use Rattle.fixed.specs.Round.{increment, roundoff_unsigned, roundoff_signed}
use Rattle.fixed.proofs.AverageLaws.{round-diff}
use Rattle.rounding.specs.Rounding.{Meaning, OnlyOf, Rounding}
use Rattle.rounding.proofs.Integers.{Is, difference, is-difference, pos-is, NoTwo, same}
use Rattle.rounding.proofs.Rows.{rows, once}
use Rattle.rounding.proofs.Increments.{RnuAdds, RneAdds, RodAdds, under-half, from-half, below, above, tie-even, tie-odd}
use Rattle.rounding.proofs.Increments.{whole, kept-odd, made-odd, rnu-adds, rne-adds, rdn-adds, rod-adds}

-- v is c * 2 ^ d + lost less an even multiple of 2 ^ d, and q is c and the increment less that even number
module _ (d c lost k : ℕ) (fits : lost < 2 ^ d) where
  abbrev value : ℤ
  value = difference (c * 2 ^ d + lost) (2 * k * 2 ^ d)

  rnu : {x : ℕ} → RnuAdds (2 ^ d) lost x → Meaning Rnu value d (difference (c + x) (2 * k))
  rnu (under-half l) = simp rows (omega arith)
  rnu (from-half l) = simp rows (omega arith)

  rne : {x : ℕ} → RneAdds (2 ^ d) (c % 2) lost x → Meaning Rne value d (difference (c + x) (2 * k))
  rne (below l) = simp rows (omega arith)
  rne (above l) = simp rows (omega arith)
  rne (tie-even l p) = simp rows (omega arith)
  rne (tie-odd l p) = simp rows (omega arith)

  rdn : {x : ℕ} → x ≡ 0 → Meaning Rdn value d (difference (c + x) (2 * k))
  rdn e = rw e (simp rows (omega arith))

  rod : {x : ℕ} → RodAdds (c % 2) lost x → Meaning Rod value d (difference (c + x) (2 * k))
  rod (whole l) = simp rows (omega arith)
  rod (kept-odd p) = simp rows (omega arith)
  rod (made-odd p l) = simp rows (omega arith)

  result-means : (rm : Vxrm) → Meaning rm value d (difference (c + increment rm d (c % 2) lost) (2 * k))
  result-means Rnu = rnu (rnu-adds d (c % 2) lost fits)
  result-means Rne = rne (rne-adds d (c % 2) lost (omega arith) fits)
  result-means Rdn = rdn (rdn-adds d (c % 2) lost)
  result-means Rod = rod (rod-adds d (c % 2) lost (omega arith) fits)

no-two : (rm : Vxrm) (d p n : ℕ) → NoTwo (Meaning rm (difference p n) d)
no-two Rnu d p n a b g h l = search once
no-two Rne d p n a b g h l = search once
no-two Rdn d p n a b g h l = search once
no-two Rod d p n a b g h l = search once

-- what the unsigned and the signed roundoff share: n is v, and an even multiple of 2 ^ d more
only_of : (rm : Vxrm) (d n k : ℕ) (v q : ℤ) → Is v n (2 * k * 2 ^ d) → Is q (roundoff_unsigned rm n d) (2 * k) → OnlyOf (Meaning rm v d) q
unfolding roundoff_unsigned
only_of rm d n k v q i j = rw (is-difference i, is-difference j) (record { holds = holds; unique = unique })
  where
    v' : ℤ
    v' = difference n (2 * k * 2 ^ d)

    q' : ℤ
    q' = difference (roundoff_unsigned rm n d) (2 * k)

    holds : Meaning rm v' d q'
    holds = rw (div-add-mod' n (2 ^ d)) at (result-means d (n / 2 ^ d) (n % 2 ^ d) k (mod-lt n (pow_pos d)) rm)

    unique : (x : ℤ) → Meaning rm v' d x → x ≡ q'
    unique x h = same (Meaning rm v' d) (no-two rm d n (2 * k * 2 ^ d)) x q' h holds

-- an integer, and an even multiple of u that makes it a natural number
record Raised (v : ℤ) (u : ℕ) : Type 0 where
  n : ℕ
  k : ℕ
  is : Is v n (2 * k * u)

raised : (v : ℤ) (u : ℕ) → 0 < u → Raised v u
raised (pos m) u h = record { n = m; k = 0; is = record { is = pos-diff m ∙ ap (sub_ℕ m) (omega arith) } }
raised (negsuc m) u h =
    let l : suc m * 1 ≤ suc m * u = mul-le-mul_left (suc m) h in
    record {
      n = 2 * suc m * u - suc m;
      k = suc m;
      is = record { is = negsuc-diff m ∙ diff-eq 0 (suc m) (2 * suc m * u - suc m) (2 * suc m * u) (omega arith) };
    }

of-signed : (rm : Vxrm) (v : ℤ) (d : ℕ) → OnlyOf (Meaning rm v d) (roundoff_signed rm v d)
of-signed rm v d =
    let r = raised v (2 ^ d) (pow_pos d) in
    only_of rm d r.n r.k v (roundoff_signed rm v d) r.is
    (record { is = ap (λ (z : ℤ). roundoff_signed rm z d) r.is.is ∙ round-diff rm r.n r.k d })

of-unsigned : (rm : Vxrm) (v d : ℕ) → OnlyOf (Meaning rm (pos v) d) (pos (roundoff_unsigned rm v d))
unfolding raised
of-unsigned rm v d =
    only_of rm d v 0 (pos v) (pos (roundoff_unsigned rm v d)) (raised (pos v) (2 ^ d) (pow_pos d)).is (pos-is (roundoff_unsigned rm v d))

pub rounding : Rounding
unfolding wrap increment roundoff_signed
rounding = record { of_signed = of-signed; of_unsigned = of-unsigned; worked = refl }
