-- Nothing of a sheet is read past its first 1,000 bytes, so a program that reads 1,000 reads enough.
use mathlib.Core.Path.{◌≡◌, refl, sym, ap₂, ◌∙◌}
use mathlib.Core.Bool.{Bool, ◌&&◌, cond}
use mathlib.Core.List.{List, [], ◌∷◌, ◌++◌}
use Prim.Native.Nat.{ℕ, zero, suc, ◌+◌, ◌*◌, ◌≤◌, ◌<◌, min}
use native.Mathlib.Omega.{arith}
use native.Mathlib.Nat.{le-min, min-le_right, le_trans}
use native.Mathlib.Decide.{dec_lt}
use lib.ListN.{length, get_or, take, length-take}
use lib.Seq.{get_or-take}
use lib.Dec.{ltb, eqb, lit≤}
use borrow.Author.Tests.{lt-ltb, le-ltb}
use Rattle.hexadecimal.specs.Hexadecimal.{is_digit, digit_of, all_at, number_at}
use Rattle.text.specs.Text.{ascii}
use Rattle.sheet_read.specs.Sheet.{value_at, same_to, begins, hex_line, is_mark, mark_of, rights_at, marks_from, rights_line}
use Rattle.sheet_read.specs.Sheet.{x10_at, x11_at, x12_at, allow_at, x10_from, x11_from, x12_from, allow_from, allow_of, after_allow}
use Rattle.sheet_read.specs.Sheet.{first_word}
use Rattle.sheet_read.specs.Sheet.{word_line, word_length, most_words, count_at, words_at, after_words, bad_end, first_bad, sheet_of}
use Rattle.sheet_read.proofs.LineLaws.{cond-le}

-- two texts have the same bytes below an index, and end at the same one below it, if at all
abbrev Agree : ℕ → List ℕ → List ℕ → Type 0
Agree m s t = (i : ℕ) → i < m → (get_or s i 0 ≡ get_or t i 0) × (ltb i (length s) ≡ ltb i (length t))

-- what is made of n bytes from an index, byte by byte, is the same of both
made-same : {A : Type 0} (f : List ℕ → ℕ → ℕ → A) (g : ℕ → A → ℕ → A) (m : ℕ) (s t : List ℕ) → Agree m s t
    → ((at : ℕ) → f s at 0 ≡ f t at 0)
    → ((u : List ℕ) (at n : ℕ) → f u at (suc n) ≡ g n (f u at n) (get_or u (at + n) 0)) → (at n : ℕ) → at + n ≤ m → f s at n ≡ f t at n
made-same f g m s t h start step at zero p = start at
made-same f g m s t h start step at (suc n) p =
    step s at n ∙ (ap₂ (g n) (made-same f g m s t h start step at n (omega arith)) (h (at + n) (omega arith)).0 ∙ sym (step t at n))

first-le : (n : ℕ) → first_word n ≤ after_allow 3
first-le n =
    cond-le (ltb n 10) (after_allow 1) (cond (ltb n 100) (after_allow 2) (after_allow 3)) (after_allow 3) (λ _. omega arith)
    (λ _. cond-le (ltb n 100) (after_allow 2) (after_allow 3) (after_allow 3) (λ _. omega arith) (λ _. omega arith))

count-le : (s : List ℕ) (at n : ℕ) → count_at s at n ≤ n
unfolding count_at
count-le s at zero = omega arith
count-le s at (suc n) =
    cond-le (word_line s at) (suc (count_at s (at + word_length) n)) 0 (suc n) (λ _. omega (arith, count-le s (at + word_length) n))
    (λ _. omega arith)

-- a byte more than the longest good sheet has: 1,000
abbrev enough_bytes : ℕ
enough_bytes = after_words (after_allow 3) most_words + length (ascii "end=1\n") + 1

module _ (s t : List ℕ) (h : Agree enough_bytes s t) where
  all_same : (test : ℕ → Bool) (at n : ℕ) → at + n ≤ enough_bytes → all_at test s at n ≡ all_at test t at n
  unfolding all_at
  all_same test = made-same (all_at test) (λ n all b. all && test b) enough_bytes s t h (λ at. refl) (λ u at n. refl)

  number_same : (at n : ℕ) → at + n ≤ enough_bytes → number_at s at n ≡ number_at t at n
  unfolding number_at
  number_same = made-same number_at (λ n x b. x * 16 + digit_of b) enough_bytes s t h (λ at. refl) (λ u at n. refl)

  rights-same : (at n : ℕ) → at + n ≤ enough_bytes → rights_at s at n ≡ rights_at t at n
  unfolding rights_at
  rights-same = made-same rights_at (λ n l b. l ++ (mark_of b ∷ [])) enough_bytes s t h (λ at. refl) (λ u at n. refl)

  key-same : (key : List ℕ) (at : ℕ) → at + length key ≤ enough_bytes → begins s at key ≡ begins t at key
  unfolding same_to
  key-same key at p =
      made-same (λ u at n. same_to u at key n) (λ n all b. all && eqb b (get_or key n 0)) enough_bytes s t h (λ at. refl) (λ u at n. refl)
      at (length key) p

  -- ---- the lines

  line_same : (at : ℕ) (key : List ℕ) (n : ℕ) → value_at at key + n < enough_bytes → hex_line s at key n ≡ hex_line t at key n
  line_same at key n p =
      rw (key-same key at (omega arith), all_same is_digit (value_at at key) n (omega arith), (h (value_at at key + n) p).0)

  rights-line-same : rights_line s ≡ rights_line t
  rights-line-same = rw (key-same (ascii "rights=") 0 (lit≤ tt), all_same is_mark marks_from 16 (lit≤ tt), (h (marks_from + 16) (lit≤ tt)).0)

  allow-same : allow_of s ≡ allow_of t
  unfolding allow_of
  allow-same =
      rw (
        key-same (ascii "allow=") allow_at (lit≤ tt),
        (h allow_from (lit≤ tt)).0,
        (h (allow_from + 1) (lit≤ tt)).0,
        (h (allow_from + 2) (lit≤ tt)).0,
        (h (allow_from + 3) (lit≤ tt)).0,
      )

  word_same : (at : ℕ) → at + word_length ≤ enough_bytes → word_line s at ≡ word_line t at
  word_same at p = line_same at (ascii "word=") 8 (omega arith)

  count_same : (at n : ℕ) → after_words at n ≤ enough_bytes → count_at s at n ≡ count_at t at n
  unfolding count_at
  count_same at zero p = refl
  count_same at (suc n) p =
      ap₂ (λ (b : Bool) (k : ℕ). cond b (suc k) 0) (word_same at (omega arith)) (count_same (at + word_length) n (omega arith))

  words_same : (at n : ℕ) → after_words at n ≤ enough_bytes → words_at s at n ≡ words_at t at n
  unfolding words_at
  words_same at zero p = refl
  words_same at (suc n) p =
      ap₂ ◌∷◌ (number_same (value_at at (ascii "word=")) 8 (omega arith)) (words_same (at + word_length) n (omega arith))

  end_same : (at k : ℕ) → after_words at k + length (ascii "end=1\n") < enough_bytes → bad_end s at k ≡ bad_end t at k
  unfolding bad_end
  end_same at k p =
      rw (key-same (ascii "end=1\n") (after_words at k) (omega arith), (h (after_words at k + length (ascii "end=1\n")) p).1)

  -- ---- from the first word on

  module _ (at : ℕ) (p : at ≤ after_allow 3) where
    rest-same : bad_end s at (count_at s at most_words) ≡ bad_end t at (count_at t at most_words)
    rest-same = rw (count_same at most_words (omega arith)) (end_same at (count_at t at most_words) (omega (arith, count-le t at most_words)))

    said_same : words_at s at (count_at s at most_words) ≡ words_at t at (count_at t at most_words)
    said_same = rw (count_same at most_words (omega arith)) (words_same at (count_at t at most_words) (omega (arith, count-le t at most_words)))

  bad-same : first_bad s ≡ first_bad t
  unfolding first_bad
  bad-same =
      rw (
        rights-line-same,
        line_same x10_at (ascii "x10=") 16 (lit≤ tt),
        line_same x11_at (ascii "x11=") 16 (lit≤ tt),
        line_same x12_at (ascii "x12=") 16 (lit≤ tt),
        allow-same,
        rest-same (first_word (allow_of t)) (first-le (allow_of t)),
      )

  words-said : words_at s (first_word (allow_of s)) (count_at s (first_word (allow_of s)) most_words)
      ≡ words_at t (first_word (allow_of t)) (count_at t (first_word (allow_of t)) most_words)
  words-said = rw allow-same (said_same (first_word (allow_of t)) (first-le (allow_of t)))

  sheet-same : sheet_of s ≡ sheet_of t
  unfolding sheet_of
  sheet-same = λ i. record {
    rights = rights-same marks_from 16 (lit≤ tt) i;
    x10 = number_same x10_from 16 (lit≤ tt) i;
    x11 = number_same x11_from 16 (lit≤ tt) i;
    x12 = number_same x12_from 16 (lit≤ tt) i;
    allow = allow-same i;
    words = words-said i;
  }

-- the first bytes, and all
take-agree : (m : ℕ) (s : List ℕ) → Agree m (take m s) s
take-agree m s i p = (get_or-take m s i 0 p, go (dec_lt i (length s)))
  where
    go : Dec (i < length s) → ltb i (length (take m s)) ≡ ltb i (length s)
    go (yes l) = rw (length-take m s, lt-ltb i (min m (length s)) (le-min p l), lt-ltb i (length s) l)
    go (no l) =
        let u : length s ≤ i = omega arith in
        rw (length-take m s, le-ltb i (min m (length s)) (le_trans (min-le_right m (length s)) u), le-ltb i (length s) u)

-- The first bad line, and what the sheet says, are in the first 1,000 bytes.
pub enough : (s : List ℕ) → first_bad (take 1000 s) ≡ first_bad s
enough s = bad-same (take 1000 s) s (take-agree 1000 s)

pub enough-said : (s : List ℕ) → sheet_of (take 1000 s) ≡ sheet_of s
enough-said s = sheet-same (take 1000 s) s (take-agree 1000 s)
