-- What the functions that read a sheet answer, by the definitions in Sheet.
use Rattle.std.specs.Prelude.{ℕ, ◌≡◌, ◌≤◌, ◌<◌, List, Option, MatchOption}
use Rattle.sheet_read.specs.declared.Words.{Words}
use Rattle.sheet_read.specs.Sheet.{most_allow, allow_of, after_allow, first_word, most_words, count_at, first_bad}

-- a number from 1 to 128 where the definition has one, and None where it has 0
abbrev pub Allowed : ℕ → Option ℕ → Type 0
Allowed number result = MatchOption result (number ≡ 0) (λ n. (n ≡ number) × ((0 < n) × (n ≤ most_allow)))

-- the words of a good sheet
pub record Listed (s : List ℕ) (w : Words) : Type 0 where
  pub good : first_bad s ≡ 0
  pub allow : w.allow ≡ allow_of s
  pub first : w.first ≡ first_word w.allow
  pub count : w.count ≡ count_at s w.first most_words
  pub most : (w.allow ≤ most_allow) × ((w.first ≤ after_allow 3) × (w.count ≤ most_words))
