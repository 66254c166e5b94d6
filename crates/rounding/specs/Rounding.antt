-- What the rows of the rounding table (section 4.8 of document 000) mean, in words of quotients: an integer v, of any size and sign, is
-- divided by 2^d, and the integer q is the result. fixed/specs/Round makes q from bits; here no bit is spoken of. In quotation marks are
-- the words of document 02, A3.
use Rattle.std.specs.Prelude.{◌≡◌, ◌⊎◌, List, [], ◌∷◌, map, ℕ, ◌%◌, ◌^◌, ◌<◌, ℤ, pos, neg_ℤ, nat_abs, ◌+ℤ◌, ◌-ℤ◌, ◌*ℤ◌, ◌≤ℤ◌, ◌<ℤ◌}
use Rattle.fixed.specs.declared.Vxrm.{Vxrm}
use Rattle.fixed.specs.declared.Vxrm.TheVariants.{Rnu, Rne, Rdn, Rod}
use Rattle.fixed.specs.Round.{roundoff_unsigned, roundoff_signed}

-- q by 2 leaves 0; it leaves 1
abbrev pub Even : ℤ → Type 0
Even q = nat_abs q % 2 ≡ 0

abbrev pub Odd : ℤ → Type 0
Odd q = nat_abs q % 2 ≡ 1

module _ (v : ℤ) (d : ℕ) (q : ℤ) where
  -- 2^d
  abbrev pub divisor : ℤ
  divisor = pos (2 ^ d)

  -- the rounding error: v − q * 2^d
  abbrev pub error : ℤ
  error = v -ℤ q *ℤ divisor

  -- rnu, round-to-nearest-up, "the nearest, ties up": −2^d ≤ 2 * (v − q * 2^d) < 2^d. So q * 2^d is at most half of 2^d away from v, and
  -- just half only where it lies above v, toward plus infinity: −5 by 1 bit is −2
  pub record NearestTiesUp : Type 0 where
    pub lower_bound : neg_ℤ divisor ≤ℤ (pos 2 *ℤ error)
    pub upper_bound : (pos 2 *ℤ error) <ℤ divisor

  -- rne, round-to-nearest-even, "the nearest, ties to even": −2^d ≤ 2 * (v − q * 2^d) ≤ 2^d, and at either equality q is even
  pub record NearestTiesEven : Type 0 where
    pub lower_bound : neg_ℤ divisor ≤ℤ (pos 2 *ℤ error)
    pub upper_bound : (pos 2 *ℤ error) ≤ℤ divisor
    pub ties : (pos 2 *ℤ error ≡ neg_ℤ divisor) ⊎ (pos 2 *ℤ error ≡ divisor) → Even q

  -- rdn, round-down, "the quotient by 2^d rounded down": q * 2^d ≤ v < (q + 1) * 2^d
  pub record Down : Type 0 where
    pub lower_bound : (q *ℤ divisor) ≤ℤ v
    pub upper_bound : v <ℤ ((q +ℤ pos 1) *ℤ divisor)

  -- rod, round-to-odd, "the quotient if whole, else the odd one of its two neighbours": v = q * 2^d, or q is odd and |v − q * 2^d| < 2^d
  abbrev pub WholeOrOdd : Type 0
  WholeOrOdd = (v ≡ q *ℤ divisor) ⊎ (Odd q × (nat_abs error < 2 ^ d))

-- the table in its order: vxrm 0 rnu, 1 rne, 2 rdn, 3 rod
abbrev pub Meaning : Vxrm → ℤ → ℕ → ℤ → Type 0
Meaning Rnu = NearestTiesUp
Meaning Rne = NearestTiesEven
Meaning Rdn = Down
Meaning Rod = WholeOrOdd

-- P holds of q, and of no other integer
pub record OnlyOf (P : ℤ → Type 0) (q : ℤ) : Type 0 where
  pub holds : P q
  pub unique : (x : ℤ) → P x → x ≡ q

-- v by 1 bit in each mode, in the table's order
abbrev pub by_one_bit : ℤ → List ℤ
by_one_bit v = roundoff_signed Rnu v 1 ∷ roundoff_signed Rne v 1 ∷ roundoff_signed Rdn v 1 ∷ roundoff_signed Rod v 1 ∷ []

pub record Rounding : Type 0 where
  -- roundoff_signed of every integer by every d, 0 too, is what its row means, and nothing else is
  pub of_signed : (rm : Vxrm) (v : ℤ) (d : ℕ) → OnlyOf (Meaning rm v d) (roundoff_signed rm v d)
  -- and so is roundoff_unsigned of every natural number
  pub of_unsigned : (rm : Vxrm) (v d : ℕ) → OnlyOf (Meaning rm (pos v) d) (pos (roundoff_unsigned rm v d))
  -- −5, 5, 6 and 7 by 1 bit: a line for each, with rnu, rne, rdn, rod
  pub worked : map by_one_bit (neg_ℤ (pos 5) ∷ pos 5 ∷ pos 6 ∷ pos 7 ∷ [])
      ≡ ((neg_ℤ (pos 2) ∷ neg_ℤ (pos 2) ∷ neg_ℤ (pos 3) ∷ neg_ℤ (pos 3) ∷ [])
      ∷ (pos 3 ∷ pos 2 ∷ pos 2 ∷ pos 3 ∷ [])
      ∷ (pos 3 ∷ pos 3 ∷ pos 3 ∷ pos 3 ∷ [])
      ∷ (pos 4 ∷ pos 4 ∷ pos 3 ∷ pos 3 ∷ [])
      ∷ [])
