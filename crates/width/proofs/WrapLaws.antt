-- Laws of `wrap` and `signed`, over the width.
use Rattle.std.proofs.Common.{◌≡◌, ℕ, ◌+◌, ◌-◌, ◌*◌, ◌/◌, ◌%◌, ◌^◌, ◌≤◌, sym, ◌∙◌, mod-lt, div-add-mod', arith, pow_pos}
use lib.IntN.{sub_ℕ}
use Rattle.width.specs.Width.{wrap}
use Rattle.width.proofs.Diff.{wrap-is}
use Rattle.width.proofs.LowBits.{pow-64, low-low}

-- a − b modulo 2 ^ w, from the difference that wraps at 64 bits
pub sub_low : (w a b : ℕ) → w ≤ 64 → b ≤ 2 ^ 64 → (a + (2 ^ 64 - b)) % 2 ^ 64 % 2 ^ w ≡ wrap w (sub_ℕ a b)
sub_low w a b h l =
    let n : ℕ = a + (2 ^ 64 - b) in
    let s : n / 2 ^ w * 2 ^ w + n % 2 ^ w ≡ n = div-add-mod' n (2 ^ w) in
    let p : 2 ^ 64 ≡ 2 ^ (64 - w) * 2 ^ w = pow-64 h in
    low-low n h ∙ sym (wrap-is w a b (n % 2 ^ w) (2 ^ (64 - w)) (n / 2 ^ w) (mod-lt n (pow_pos w)) (omega arith))
