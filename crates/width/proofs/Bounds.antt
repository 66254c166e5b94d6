-- Results that fit their width: `search bounds` proves it of an operation, from the operands' bounds where it needs them.
use Rattle.std.proofs.Common.{ℕ, ◌*◌, ◌/◌, ◌%◌, ◌^◌, ◌<◌, min, max, Bool, true, false, cond, lt_of_lt_of_le, lt_of_le_of_lt, mod-lt}
use Rattle.std.proofs.Common.{div-le_self, arith, pow_pos, pow_mono, shr_lt}
use native.Mathlib.Nat.{mod-le}
use lib.Bits.{and_lt, or_lt, xor_lt}
use lib.Pow.{ones_lt}
use Rattle.width.specs.Width.{flag}
use Rattle.width.proofs.SignedLaws.{wrap-lt}
use Rattle.width.proofs.LowBits.{mul-lt}

-- the low bits
pub low-lt : (w x : ℕ) → x % 2 ^ w < 2 ^ w
low-lt w x = mod-lt x (pow_pos w)

-- one of two
pub choice-lt : (t : Bool) (x y n : ℕ) → x < n → y < n → cond t x y < n
choice-lt true x y n h l = h
choice-lt false x y n h l = l

pub flag-lt : (t : Bool) → flag t < 2
flag-lt t = choice-lt t 1 0 2 (omega arith) (omega arith)

pub min-lt : (x y n : ℕ) → x < n → y < n → min x y < n
min-lt x y n h l = omega arith

pub max-lt : (x y n : ℕ) → x < n → y < n → max x y < n
max-lt x y n h l = omega arith

pub quotient-lt : (x d n : ℕ) → x < n → x / d < n
quotient-lt x d n h = lt_of_le_of_lt (div-le_self x d) h

pub remainder-lt : (x d n : ℕ) → x < n → x % d < n
remainder-lt x d n h = lt_of_le_of_lt (mod-le x d) h

-- an operand of w / f bits
pub part-lt : (f w x : ℕ) → x < 2 ^ (w / f) → x < 2 ^ w
part-lt f w x h = lt_of_lt_of_le h (pow_mono (div-le_self w f))

-- the high half of a product
pub high_lt : (w x y : ℕ) → x < 2 ^ w → y < 2 ^ w → x * y / 2 ^ w < 2 ^ w
high_lt w x y h l = shr_lt w w (mul-lt w w h l)

pub ruleset bounds =
    (wrap-lt, low-lt, choice-lt, flag-lt, min-lt, max-lt, ones_lt, quotient-lt, remainder-lt, part-lt, high_lt, and_lt, or_lt, xor_lt)
