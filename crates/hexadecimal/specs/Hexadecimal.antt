-- Numbers written in lower-case hex digits.
use Rattle.std.specs.Prelude.{ℕ, zero, suc, ◌+◌, ◌-◌, ◌*◌, Bool, true, ◌&&◌, ◌||◌, cond, List, get_or, leb}

-- the bytes 0 to 9, and a to f
abbrev pub is_decimal : ℕ → Bool
is_decimal b = leb 48 b && leb b 57

abbrev pub is_letter : ℕ → Bool
is_letter b = leb 97 b && leb b 102

abbrev pub is_digit : ℕ → Bool
is_digit b = is_decimal b || is_letter b

-- the value of a digit, and 0 of any other byte
unfoldable pub digit_of : ℕ → ℕ
digit_of b = cond (is_decimal b) (b - 48) (cond (is_letter b) (b - 87) 0)

-- whether the n bytes from index `at` pass a test
unfoldable pub all_at : (ℕ → Bool) → List ℕ → ℕ → ℕ → Bool
all_at test s at zero = true
all_at test s at (suc n) = all_at test s at n && test (get_or s (at + n) 0)

-- whether they are digits, and their number
abbrev pub digits_at : List ℕ → ℕ → ℕ → Bool
digits_at s at n = all_at is_digit s at n

unfoldable pub number_at : List ℕ → ℕ → ℕ → ℕ
number_at s at zero = 0
number_at s at (suc n) = number_at s at n * 16 + digit_of (get_or s (at + n) 0)
