-- Statements about integers as ones about the naturals whose differences they are: omega reads no integer.
use mathlib.Core.Path.{◌≡◌, refl, sym, ap, ap₂, ◌∙◌, subst, subst⁻¹}
use mathlib.Core.Bool.{Bool, true, false, not}
use Prim.Native.Nat.{ℕ, suc, ◌+◌, ◌-◌, ◌*◌, ◌%◌, ◌<◌, ◌≤◌}
use native.Mathlib.Nat.{lt_of_not-le}
use native.Mathlib.Decide.{dec_le}
use native.Mathlib.Omega.{arith}
use lib.IntN.{ℤ, pos, neg_ℤ, nat_abs, sub_ℕ, ◌+ℤ◌, ◌-ℤ◌, ◌*ℤ◌, *ℤ_comm}
use lib.Dec.{T}
use lib.Signed.{lt_z, le_z, ◌≤ℤ◌, ◌<ℤ◌, ≤ℤ_refl}
use Rattle.width.proofs.Diff.{diff-pos, diff-neg, pos-diff, diff-eq, neg-diff, add-diff, lt-diff, nlt-diff, le_z-is, IsDiff, is-diff}

-- z is p − n
pub record Is (z : ℤ) (p n : ℕ) : Type 0 where
  pub is : z ≡ sub_ℕ p n

-- p − n under a name that stays shut, so that p and n can be read off a statement
unfoldable pub difference : ℕ → ℕ → ℤ
difference p n = sub_ℕ p n

pub difference-is : (p n : ℕ) → Is (difference p n) p n
unfolding difference
difference-is p n = record { is = refl }

pub is-difference : {z : ℤ} {p n : ℕ} → Is z p n → z ≡ difference p n
unfolding difference
is-difference i = i.is

pub pos-is : (k : ℕ) → Is (pos k) k 0
pos-is k = record { is = pos-diff k }

pub neg_is : {z : ℤ} {p n : ℕ} → Is z p n → Is (neg_ℤ z) n p
neg_is {z} {p} {n} i = record { is = ap neg_ℤ i.is ∙ neg-diff p n }

pub add_is : {x y : ℤ} {p n q m : ℕ} → Is x p n → Is y q m → Is (x +ℤ y) (p + q) (n + m)
add_is {x} {y} {p} {n} {q} {m} i j = record { is = rw (i.is, j.is) (add-diff p n q m) }

pub sub_is : {x y : ℤ} {p n q m : ℕ} → Is x p n → Is y q m → Is (x -ℤ y) (p + m) (n + q)
sub_is i j = add_is i (neg_is j)

mul-diff : (p n u : ℕ) → sub_ℕ p n *ℤ pos u ≡ sub_ℕ (p * u) (n * u)
mul-diff p n u = go (dec_le n p)
  where
    go : Dec (n ≤ p) → sub_ℕ p n *ℤ pos u ≡ sub_ℕ (p * u) (n * u)
    go (yes h) =
        let k : ℕ = p - n in
        let e : p * u ≡ (n + k) * u = ap (λ (x : ℕ). x * u) (omega arith) in
        ap (λ (z : ℤ). z *ℤ pos u) (diff-pos p n h) ∙ pos-diff (k * u) ∙ diff-eq (k * u) 0 (p * u) (n * u) (omega arith)
    go (no f) =
        let h : p < n = lt_of_not-le f in
        let k : ℕ = n - suc p in
        let e : n * u ≡ (p + suc k) * u = ap (λ (x : ℕ). x * u) (omega arith) in
        ap (λ (z : ℤ). z *ℤ pos u) (diff-neg p n h) ∙ (neg_is (pos-is (suc k * u))).is ∙ diff-eq 0 (suc k * u) (p * u) (n * u) (omega arith)

pub mul_is : {z : ℤ} {p n : ℕ} (u : ℕ) → Is z p n → Is (z *ℤ pos u) (p * u) (n * u)
mul_is {z} {p} {n} u i = record { is = ap (λ (x : ℤ). x *ℤ pos u) i.is ∙ mul-diff p n u }

pub twice-is : {z : ℤ} {p n : ℕ} → Is z p n → Is (pos 2 *ℤ z) (p * 2) (n * 2)
twice-is {z} i = record { is = *ℤ_comm (pos 2) z ∙ (mul_is 2 i).is }

-- ---- order and equality, both ways

test-holds : (t : Bool) → t ≡ true → T t
test-holds t e = subst⁻¹ T e tt

test-fails : (t : Bool) → t ≡ false → T t → ⊥
test-fails t e h = subst T e h

less : {x y : ℤ} {p n q m : ℕ} → Is x p n → Is y q m → p + m < q + n → lt_z x y ≡ true
less {p = p} {n = n} {q = q} {m = m} i j h = ap₂ lt_z i.is j.is ∙ lt-diff p n q m h

not-less : {x y : ℤ} {p n q m : ℕ} → Is x p n → Is y q m → q + n ≤ p + m → lt_z x y ≡ false
not-less {p = p} {n = n} {q = q} {m = m} i j h = ap₂ lt_z i.is j.is ∙ nlt-diff p n q m h

pub le_of : {x y : ℤ} {p n q m : ℕ} → Is x p n → Is y q m → p + m ≤ q + n → x ≤ℤ y
le_of {x} {y} i j h = record { le = test-holds (le_z x y) (le_z-is x y ∙ ap not (not-less j i h)) }

pub lt_of : {x y : ℤ} {p n q m : ℕ} → Is x p n → Is y q m → p + m < q + n → x <ℤ y
lt_of {x} {y} i j h = record { lt = test-holds (lt_z x y) (less i j h) }

pub le-to : {x y : ℤ} {p n q m : ℕ} → Is x p n → Is y q m → x ≤ℤ y → p + m ≤ q + n
le-to {x} {y} {p} {n} {q} {m} i j h = go (dec_le (p + m) (q + n))
  where
    go : Dec (p + m ≤ q + n) → p + m ≤ q + n
    go (yes l) = l
    go (no f) = absurd (test-fails (le_z x y) (le_z-is x y ∙ ap not (less j i (lt_of_not-le f))) h.le)

pub lt-to : {x y : ℤ} {p n q m : ℕ} → Is x p n → Is y q m → x <ℤ y → p + m < q + n
lt-to {x} {y} {p} {n} {q} {m} i j h = go (dec_le (q + n) (p + m))
  where
    go : Dec (q + n ≤ p + m) → p + m < q + n
    go (yes l) = absurd (test-fails (lt_z x y) (not-less i j l) h.lt)
    go (no f) = lt_of_not-le f

pub eq_of : {x y : ℤ} {p n q m : ℕ} → Is x p n → Is y q m → p + m ≡ q + n → x ≡ y
eq_of {x} {y} {p} {n} {q} {m} i j h = i.is ∙ diff-eq p n q m h ∙ sym j.is

pub eq-to : {x y : ℤ} {p n q m : ℕ} → Is x p n → Is y q m → x ≡ y → p + m ≡ q + n
eq-to {x} {y} {p} {n} {q} {m} i j e =
    let l : p + m ≤ q + n = le-to i j (subst (λ (z : ℤ). x ≤ℤ z) e (≤ℤ_refl x)) in
    let g : q + n ≤ p + m = le-to j i (subst (λ (z : ℤ). z ≤ℤ x) e (≤ℤ_refl x)) in
    omega arith

-- ---- the absolute value

data Absolute (a p n : ℕ) : Type 0 where
  above : n ≤ p → p ≡ n + a → Absolute a p n
  below : p < n → n ≡ p + a → Absolute a p n

absolute : {z : ℤ} {p n : ℕ} → Is z p n → Absolute (nat_abs z) p n
absolute {z} {p} {n} i = go (dec_le n p)
  where
    go : Dec (n ≤ p) → Absolute (nat_abs z) p n
    go (yes h) = let e : nat_abs z ≡ p - n = ap nat_abs (i.is ∙ diff-pos p n h) in above h (omega arith)
    go (no f) =
        let h : p < n = lt_of_not-le f in
        let e : nat_abs z ≡ suc (n - suc p) = ap nat_abs (i.is ∙ diff-neg p n h) in
        below h (omega arith)

pub parity : {z : ℤ} {p n : ℕ} → Is z p n → nat_abs z % 2 ≡ (p + n) % 2
parity {z} {p} {n} i = go (absolute i)
  where
    go : Absolute (nat_abs z) p n → nat_abs z % 2 ≡ (p + n) % 2
    go (above h e) = omega arith
    go (below h e) = omega arith

pub abs-of : {z : ℤ} {p n u : ℕ} → Is z p n → p < n + u → n < p + u → nat_abs z < u
abs-of {z} {p} {n} {u} i h l = go (absolute i)
  where
    go : Absolute (nat_abs z) p n → nat_abs z < u
    go (above k e) = omega arith
    go (below k e) = omega arith

pub abs-to : {z : ℤ} {p n u : ℕ} → Is z p n → nat_abs z < u → (p < n + u) × (n < p + u)
abs-to {z} {p} {n} {u} i h = go (absolute i)
  where
    go : Absolute (nat_abs z) p n → (p < n + u) × (n < p + u)
    go (above k e) = (omega arith, omega arith)
    go (below k e) = (omega arith, omega arith)

-- ---- a statement that holds of no two integers, of which the greater is more by g + 1, holds of one at most

abbrev pub NoTwo : (ℤ → Type 0) → Type 0
NoTwo P = (a b g : ℕ) → P (difference a b) → P (difference (a + suc g) b) → ⊥

pub same : (P : ℤ → Type 0) → NoTwo P → (x y : ℤ) → P x → P y → x ≡ y
same P no-two x y h l =
    let i : IsDiff x = is-diff x in
    let j : IsDiff y = is-diff y in
    go i.p i.n j.p j.n (record { is = i.is }) (record { is = j.is })
  where
    not-less-than : {x y : ℤ} (a b s t : ℕ) → Is x a b → Is y s t → P x → P y → a + t < s + b → ⊥
    not-less-than a b s t i j h l k =
        let g : ℕ = s + b - suc (a + t) in
        no-two a b g (subst P (is-difference i) h) (subst P (eq_of j (difference-is (a + suc g) b) (omega arith)) l)

    go : (a b s t : ℕ) → Is x a b → Is y s t → x ≡ y
    go a b s t i j = by (dec_le (s + b) (a + t)) (dec_le (a + t) (s + b))
      where
        by : Dec (s + b ≤ a + t) → Dec (a + t ≤ s + b) → x ≡ y
        by (yes f) (yes g) = eq_of i j (omega arith)
        by (no f) g = absurd (not-less-than a b s t i j h l (lt_of_not-le f))
        by (yes f) (no g) = absurd (not-less-than s t a b j i l h (lt_of_not-le g))
