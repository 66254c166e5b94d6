-- A sum that wraps around at each step is the exact sum, cut once.
use Prim.Native.Nat.{ℕ, ◌+◌, ◌*◌, ◌%◌, ◌^◌, ◌≤◌, ◌<◌}
use mathlib.Core.Path.{◌≡◌, refl, sym, ap, ap₂, ◌∙◌}
use mathlib.Core.List.{List, [], ◌∷◌, foldl}
use native.Mathlib.Nat.{mod-add-mod, mod-eq_of_lt}
use native.Mathlib.Omega.{arith}
use lib.IntN.{ℤ, ◌+ℤ◌}
use Rattle.width.specs.Width.{signed, wrap}
use Rattle.width.proofs.Diff.{add-diff, Wrapped, wrapped, wrap-cong, IsDiff, is-diff}
use Rattle.width.proofs.SignedLaws.{AsDiff, as-diff, wrap-signed}
use Rattle.integer.specs.Integer.{vwadd-w}
use Rattle.reduction_order.specs.ExactSums.{ExactSums}

-- ---- modulo m

cut-once : (m z : ℕ) (xs : List ℕ) → foldl (λ (acc x : ℕ). (acc + x) % m) (z % m) xs ≡ foldl ◌+◌ z xs % m
cut-once m z [] = refl
cut-once m z (x ∷ xs) =
    ap (λ (n : ℕ). foldl (λ (acc y : ℕ). (acc + y) % m) n xs) (mod-add-mod z m x) ∙ cut-once m (z + x) xs

from : (m a : ℕ) (xs : List ℕ) → a < m → foldl (λ (acc x : ℕ). (acc + x) % m) a xs ≡ foldl ◌+◌ a xs % m
from m a xs h = ap (λ (n : ℕ). foldl (λ (acc x : ℕ). (acc + x) % m) n xs) (sym (mod-eq_of_lt h)) ∙ cut-once m a xs

-- ---- in two's complement

-- what was cut before is cut again
wrap-again : (n : ℕ) → 1 ≤ n → (z d : ℤ) → wrap n (signed n (wrap n z) +ℤ d) ≡ wrap n (z +ℤ d)
wrap-again n some z d =
    let p : IsDiff z = is-diff z in
    let q : IsDiff d = is-diff d in
    let v : Wrapped n p.p p.n = wrapped n p.p p.n in
    let r : wrap n z ≡ v.r = ap (wrap n) p.is ∙ v.is in
    let s : AsDiff n v.r = as-diff n v.r some v.bound in
    ap (wrap n) (ap₂ ◌+ℤ◌ (ap (signed n) r ∙ s.is) q.is ∙ add-diff v.r (s.k * 2 ^ n) q.p q.n)
    ∙ wrap-cong n (v.r + q.p) (s.k * 2 ^ n + q.n) (p.p + q.p) (p.n + q.n) (v.k + s.k) v.j (omega (arith, v.by))
    ∙ ap (wrap n) (sym (ap₂ ◌+ℤ◌ p.is q.is ∙ add-diff p.p p.n q.p q.n))

signed-cut-once : (w : ℕ) → 1 ≤ w → (z : ℤ) (xs : List ℕ)
    → foldl (vwadd-w w) (wrap (2 * w) z) xs ≡ wrap (2 * w) (foldl (λ (y : ℤ) (x : ℕ). y +ℤ signed w x) z xs)
signed-cut-once w h z [] = refl
signed-cut-once w h z (x ∷ xs) =
    ap (λ (n : ℕ). foldl (vwadd-w w) n xs) (wrap-again (2 * w) (omega arith) z (signed w x)) ∙ signed-cut-once w h (z +ℤ signed w x) xs

pub exact-sums : ExactSums
exact-sums = record {
  vredsum = λ w a xs h. from (2 ^ w) a xs h;
  vwredsumu = λ w a xs h. from (2 ^ (2 * w)) a xs h;
  vwredsum = λ w a xs l h.
      ap (λ (n : ℕ). foldl (vwadd-w w) n xs) (sym (wrap-signed (2 * w) a h)) ∙ signed-cut-once w l (signed (2 * w) a) xs;
}
