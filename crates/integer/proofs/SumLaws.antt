-- Sums and differences modulo 2 ^ w, and operands that are sign-extended first.
use mathlib.Core.Path.{◌≡◌, sym, ap, ap₂, ◌∙◌}
use Prim.Native.Nat.{ℕ, ◌+◌, ◌*◌, ◌/◌, ◌%◌, ◌^◌, ◌<◌}
use native.Mathlib.Nat.{div-add-mod', mod-add-mod}
use native.Mathlib.Omega.{arith}
use lib.IntN.{ℤ, sub_ℕ, ◌+ℤ◌, ◌-ℤ◌}
use lib.Signed.{mag}
use mir.Syntax.{w64}
use mir.Val.{to_z, of_z}
use mir.Facts.{to_z-of_z}
use Rattle.width.specs.Width.{signed, wrap}
use Rattle.width.proofs.Diff.{IsDiff, is-diff, Wrapped, wrapped, add-diff, neg-diff, wrap-cong, wrap-diff}
use Rattle.width.proofs.SignedLaws.{wrap-signed, in-range}

-- an integer differs from its low w bits by a multiple of 2 ^ w
record Residue (w : ℕ) (z : ℤ) : Type 0 where
  p : ℕ
  n : ℕ
  j : ℕ
  k : ℕ
  is : z ≡ sub_ℕ p n
  by : p + j * 2 ^ w ≡ wrap w z + n + k * 2 ^ w

residue : (w : ℕ) (z : ℤ) → Residue w z
residue w z =
    let d : IsDiff z = is-diff z in
    let v : Wrapped w d.p d.n = wrapped w d.p d.n in
    let e = ap (wrap w) d.is ∙ v.is in
    record { p = d.p; n = d.n; j = v.j; k = v.k; is = d.is; by = v.by ∙ ap (λ (r : ℕ). r + d.n + v.k * 2 ^ w) (sym e) }

-- the sum of two integers, from their low bits
pub sum_is : (w a b r : ℕ) (x y : ℤ) → r ≡ (a + b) % 2 ^ w → a ≡ wrap w x → b ≡ wrap w y → r ≡ wrap w (x +ℤ y)
sum_is w a b r x y e f g =
    let s : Residue w x = residue w x in
    let t : Residue w y = residue w y in
    e ∙ sym (wrap-diff w (a + b) 0) ∙ wrap-cong w (a + b) (0 * 2 ^ w) (s.p + t.p) (s.n + t.n) (s.k + t.k) (s.j + t.j) (omega arith)
    ∙ ap (wrap w) (sym (ap₂ ◌+ℤ◌ s.is t.is ∙ add-diff s.p s.n t.p t.n))

-- and their difference
pub difference-is : (w a b r : ℕ) (x y : ℤ) → r ≡ wrap w (sub_ℕ a b) → a ≡ wrap w x → b ≡ wrap w y → r ≡ wrap w (x -ℤ y)
difference-is w a b r x y e f g =
    let s : Residue w x = residue w x in
    let t : Residue w y = residue w y in
    e ∙ wrap-cong w a b (s.p + t.n) (s.n + t.p) (s.k + t.j) (s.j + t.k) (omega arith)
    ∙ ap (wrap w) (sym (ap₂ ◌-ℤ◌ s.is t.is
    ∙ ap (λ (z : ℤ). sub_ℕ s.p s.n +ℤ z) (neg-diff t.p t.n) ∙ add-diff s.p s.n t.n t.p))

-- an operand that has the result's width already
pub element-is : (w x : ℕ) → x < 2 ^ w → x ≡ wrap w (signed w x)
element-is w x h = sym (wrap-signed w x h)

pub ruleset widening = (sum_is, difference-is, element-is)

-- v bits read as an i64 and put at w bits
pub extended : (v w x r : ℕ) (z : ℤ) → r ≡ wrap w (to_z w64 (of_z w64 z)) → z ≡ signed v x → mag z < 2 ^ 63 → r ≡ wrap w (signed v x)
extended v w x r z e f h = e ∙ ap (wrap w) (to_z-of_z (in-range h) ∙ f)

-- a sum that is cut twice, and a difference whose subtrahend is cut first
pub sum-cut : (w n d x r : ℕ) → r ≡ (x + d) % 2 ^ w → x ≡ n % 2 ^ w → r ≡ (n + d) % 2 ^ w
sum-cut w n d x r e f = e ∙ ap (λ (y : ℕ). (y + d) % 2 ^ w) f ∙ mod-add-mod n (2 ^ w) d

pub difference-cut : (w a n x r : ℕ) → r ≡ wrap w (sub_ℕ a x) → x ≡ n % 2 ^ w → r ≡ wrap w (sub_ℕ a n)
difference-cut w a n x r e f = let s = div-add-mod' n (2 ^ w) in e ∙ wrap-cong w a x a n 0 (n / 2 ^ w) (omega arith)

pub ruleset cuts = (sum-cut, difference-cut)
