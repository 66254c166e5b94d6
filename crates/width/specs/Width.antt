-- Numbers at a width of w bits. An element is a natural number below 2 ^ w; its signed value is an integer.
use Rattle.std.specs.Prelude.{ℕ, suc, ◌-◌, ◌*◌, ◌%◌, ◌^◌, ◌≤◌, Bool, cond, ℤ, pos, negsuc, nat_lt}
use Rattle.std.proofs.Math.IntN.{sub_ℕ}

-- for contracts of inner functions, not to be believed: a width that a u64 holds
pub record Width (w : ℕ) : Type 0 where
  pub some : 1 ≤ w
  pub most : w ≤ 64

-- the two's complement value of x: x, or x − 2 ^ w in the upper half
unfoldable pub signed : ℕ → ℕ → ℤ
signed w x = cond (nat_lt (2 * x) (2 ^ w)) (pos x) (sub_ℕ x (2 ^ w))

-- z modulo 2 ^ w: the low w bits of z in two's complement
unfoldable pub wrap : ℕ → ℤ → ℕ
wrap w (pos n) = n % 2 ^ w
wrap w (negsuc n) = 2 ^ w - suc (n % 2 ^ w)

-- a mask bit: 1 for true, 0 for false
abbrev pub flag : Bool → ℕ
flag b = cond b 1 0
