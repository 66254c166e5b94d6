-- The three sums as sections 15.1 and 15.2 say them: the numbers are summed as integers, and "overflows wrap around" once, at the end. So it
-- is the same whether each element is added to the scalar, or the elements are summed first and the scalar is added "then" (section 15.2).
use Rattle.std.specs.Prelude.{ℕ, ◌+◌, ◌*◌, ◌%◌, ◌^◌, ◌≤◌, ◌<◌, ◌≡◌, ℤ, ◌+ℤ◌}
use mathlib.Core.List.{List, foldl}
use Rattle.width.specs.Width.{signed, wrap}
use Rattle.decode.specs.declared.ReductionOp.TheVariants.{Vredsum, Vwredsumu, Vwredsum}
use Rattle.machine.specs.OneTurn.{joined_by}

pub record ExactSums : Type 0 where
  -- at SEW w, from a scalar a over elements xs; "zero-extends the SEW-wide vector elements" changes no number
  pub vredsum : (w a : ℕ) (xs : List ℕ) → a < 2 ^ w → foldl (joined_by Vredsum w) a xs ≡ foldl ◌+◌ a xs % 2 ^ w
  pub vwredsumu : (w a : ℕ) (xs : List ℕ) → a < 2 ^ (2 * w) → foldl (joined_by Vwredsumu w) a xs ≡ foldl ◌+◌ a xs % 2 ^ (2 * w)
  -- "sign-extends the SEW-wide vector elements before summing them"
  pub vwredsum : (w a : ℕ) (xs : List ℕ) → 1 ≤ w → a < 2 ^ (2 * w)
      → foldl (joined_by Vwredsum w) a xs ≡ wrap (2 * w) (foldl (λ (z : ℤ) (x : ℕ). z +ℤ signed w x) (signed (2 * w) a) xs)
