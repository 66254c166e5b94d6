-- The pages of the elements of an access (document 02, A2).
use Rattle.std.specs.Prelude.{ℕ, zero, suc, ◌+◌, ◌%◌, Bool, false, not, ◌&&◌, ◌||◌, leb, eqb}
use Rattle.width.specs.Width.{flag}

-- ---- "the number of different pages of the active elements"

-- which elements are active, the page of each, and the first of them
module _ (active : ℕ → Bool) (page : ℕ → ℕ) (i : ℕ) where
  -- one of the n elements from i up is active and lies on page p
  unfoldable pub meets : ℕ → ℕ → Bool
  meets p zero = false
  meets p (suc n) = meets p n || (active (i + n) && eqb (page (i + n)) p)

  -- the different pages of the active ones among the n elements from i up: an element counts where no active one before it lies on its page
  unfoldable pub different_pages : ℕ → ℕ
  different_pages zero = 0
  different_pages (suc n) = different_pages n + flag (active (i + n) && not (meets (page (i + n)) n))

-- an element of n bytes at address a is neither misaligned nor past memory, so that its page is tested
abbrev pub page_tested : ℕ → ℕ → ℕ → Bool
page_tested memory a n = eqb (a % n) 0 && leb (a + n) memory
