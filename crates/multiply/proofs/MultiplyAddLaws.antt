-- A sum with a product of w bits, and a difference, over plain numbers.
use mathlib.Core.Path.{◌≡◌, sym, ap, ◌∙◌}
use Prim.Native.Nat.{ℕ, suc, ◌+◌, ◌/◌, ◌%◌, ◌^◌}
use native.Mathlib.Omega.{arith}
use native.Mathlib.Nat.{mod-lt, mod-add-mod, div-add-mod'}
use lib.IntN.{ℤ, pos, negsuc, sub_ℕ, ◌+ℤ◌, ◌*ℤ◌, *ℤ_comm}
use lib.Pow.{pow_pos}
use Rattle.width.specs.Width.{wrap}
use Rattle.width.proofs.Diff.{wrap-is, wrap-cong}

pub add_is : (w n d p r : ℕ) → r ≡ (p + d) % 2 ^ w → p ≡ n % 2 ^ w → r ≡ (n + d) % 2 ^ w
add_is w n d p r e f = e ∙ ap (λ (x : ℕ). (x + d) % 2 ^ w) f ∙ mod-add-mod n (2 ^ w) d

pub sub_is : (w n d p r : ℕ) → r ≡ wrap w (sub_ℕ d p) → p ≡ n % 2 ^ w → r ≡ wrap w (sub_ℕ d n)
sub_is w n d p r e f = let s = div-add-mod' n (2 ^ w) in e ∙ wrap-cong w d p d n 0 (n / 2 ^ w) (omega arith)

pub add-signed-is : (w d p r : ℕ) (z : ℤ) → r ≡ (p + d) % 2 ^ w → p ≡ wrap w z → r ≡ wrap w (z +ℤ pos d)
unfolding wrap
add-signed-is w d p r (pos n) e f = add_is w n d p r e f
add-signed-is w d p r (negsuc n) e f =
    let q : ℕ = p + d in
    let s = div-add-mod' n (2 ^ w) in
    let t = div-add-mod' q (2 ^ w) in
    let l = mod-lt n (pow_pos w) in
    e ∙ sym (wrap-is w d (suc n) (q % 2 ^ w) (suc (n / 2 ^ w)) (q / 2 ^ w) (mod-lt q (pow_pos w)) (omega arith))

-- the product with its factors in the other order
pub add-swapped-is : (w d p r : ℕ) (x y : ℤ) → r ≡ (p + d) % 2 ^ w → p ≡ wrap w (x *ℤ y) → r ≡ wrap w (y *ℤ x +ℤ pos d)
add-swapped-is w d p r x y e f = add-signed-is w d p r (y *ℤ x) e (f ∙ ap (wrap w) (*ℤ_comm x y))
