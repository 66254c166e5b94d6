-- The allowance, how many words there are, and the first bad line.
use mathlib.Core.Path.{◌≡◌, refl, ◌∙◌}
use mathlib.Core.Bool.{Bool, true, false, cond}
use mathlib.Core.List.{List}
use Prim.Native.Nat.{ℕ, zero, suc, ◌+◌, ◌-◌, ◌≤◌, ◌<◌}
use native.Mathlib.Omega.{arith}
use native.Mathlib.Nat.{add-zero}
use lib.ListN.{get_or}
use Rattle.laws.proofs.Chain.{granted, denied}
use Rattle.sheet_read.specs.Sheet.{begins, up_to_128, allow_at, allow_from, allow_of, word_line, word_length, most_words}
use Rattle.sheet_read.specs.Sheet.{count_at, after_words}
use Rattle.sheet_read.specs.Listed.{Allowed}
use Rattle.text.specs.Text.{ascii}
use Rattle.std.specs.Prelude.{Option}

-- ---- the allowance

pub allow-stands : (s : List ℕ) (t : Bool) (d e f g : ℕ) (r : Option ℕ) → t ≡ begins s allow_at (ascii "allow=") → t ≡ true
    → d ≡ get_or s allow_from 0 → e ≡ get_or s (allow_from + 1) 0 → f ≡ get_or s (allow_from + 2) 0 → g ≡ get_or s (allow_from + 3) 0
    → Allowed (up_to_128 d e f g) r → Allowed (allow_of s) r
unfolding allow_of
allow-stands s t d e f g r p h i j k l q = rw (← p, h) (rw (i, j, k, l) at q)

pub allow-missing : (s : List ℕ) (t : Bool) → t ≡ begins s allow_at (ascii "allow=") → t ≡ false → allow_of s ≡ 0
unfolding allow_of
allow-missing s t p h = rw (← p, h)

-- ---- words

-- k words have been counted, and the others remain to be
abbrev pub Counted : List ℕ → ℕ → ℕ → Type 0
Counted s at k = count_at s at most_words ≡ k + count_at s (after_words at k) (most_words - k)

pub counted_none : (s : List ℕ) (at : ℕ) → Counted s at 0
counted_none s at = rw (add-zero at) (omega arith)

-- where the next line is no word; and where there is one more to look at
stops : (s : List ℕ) (at n : ℕ) → word_line s at ≡ false → count_at s at n ≡ 0
unfolding count_at
stops s at zero h = refl
stops s at (suc n) h = rw h

next : (s : List ℕ) (at k : ℕ) → k < most_words
    → count_at s at (most_words - k) ≡ cond (word_line s at) (suc (count_at s (at + word_length) (most_words - (k + 1)))) 0
unfolding count_at
next s at k h =
    let e : most_words - k ≡ suc (most_words - (k + 1)) = omega arith in
    rw e

module _ (s : List ℕ) (at k : ℕ) where
  pub counted-more : (r : Bool) → k < most_words → Counted s at k → r ≡ word_line s (after_words at k) → r ≡ true → Counted s at (k + 1)
  counted-more r h e p q =
      let a : after_words at k + word_length ≡ after_words at (k + 1) = omega arith in
      let x : count_at s (after_words at k) (most_words - k) ≡ suc (count_at s (after_words at (k + 1)) (most_words - (k + 1))) =
      next s (after_words at k) k h ∙ rw (granted (word_line s (after_words at k)) r p q, a) in
      omega arith

  pub counted_stop : (r : Bool) → Counted s at k → r ≡ word_line s (after_words at k) → r ≡ false → k ≡ count_at s at most_words
  counted_stop r e p q = omega (arith, stops s (after_words at k) (most_words - k) (denied (word_line s (after_words at k)) r p q))

  pub counted-full : k ≤ most_words → most_words ≤ k → Counted s at k → most_words ≡ count_at s at most_words
  unfolding count_at
  counted-full p q e =
      let n : most_words - k ≡ 0 = omega arith in
      let x : count_at s (after_words at k) (most_words - k) ≡ 0 = rw n in
      omega arith
