-- An integer as a difference of two naturals, `sub_ℕ p n`, which is p − n: the operations of ℤ on differences, so that a fact about
-- integers becomes one about naturals, which omega proves. Assumes nothing.
use Rattle.std.proofs.Common.{◌≡◌, ℕ, zero, suc, ◌+◌, ◌-◌, ◌*◌, ◌/◌, ◌%◌, ◌^◌, ◌<◌, ◌≤◌, Bool, true, false, cond, not, ltb, leb, ℤ, pos}
use Rattle.std.proofs.Common.{negsuc, ◌+ℤ◌, neg_ℤ, sym, refl, ap, ◌∙◌, mod-lt, mod-eq_of_lt, lt_of_not-le, div-add-mod', arith, pow_pos}
use Rattle.std.proofs.Common.{le-ltb, lt-ltb, le-leb}
use native.Mathlib.Nat.{sub-zero, mul-add-mod_self_right}
use native.Mathlib.Decide.{dec_le}
use lib.IntN.{sub_ℕ}
use lib.Signed.{lt_z, le_z, shr_z}
use lib.Arith.{digits_div}
use borrow.Author.Tests.{lt-leb}
use Rattle.width.specs.Width.{wrap}

-- a difference by its sign
pub diff-pos : (p n : ℕ) → n ≤ p → sub_ℕ p n ≡ pos (p - n)
diff-pos p n h = ap (λ (b : Bool). cond b (negsuc (n - suc p)) (pos (p - n))) (le-ltb p n h)

pub diff-neg : (p n : ℕ) → p < n → sub_ℕ p n ≡ negsuc (n - suc p)
diff-neg p n h = ap (λ (b : Bool). cond b (negsuc (n - suc p)) (pos (p - n))) (lt-ltb p n h)

-- every integer is a difference
pub pos-diff : (n : ℕ) → pos n ≡ sub_ℕ n 0
pos-diff n = sym (diff-pos n 0 (omega arith) ∙ ap pos (sub-zero n))

pub negsuc-diff : (n : ℕ) → negsuc n ≡ sub_ℕ 0 (suc n)
negsuc-diff n = sym (diff-neg 0 (suc n) (omega arith) ∙ ap negsuc (omega arith))

-- two differences are equal where the cross sums are
pub diff-eq : (p n q m : ℕ) → p + m ≡ q + n → sub_ℕ p n ≡ sub_ℕ q m
diff-eq p n q m e = go (dec_le n p)
  where
    go : Dec (n ≤ p) → sub_ℕ p n ≡ sub_ℕ q m
    go (yes h) = diff-pos p n h ∙ ap pos (omega arith) ∙ sym (diff-pos q m (omega arith))
    go (no f) = let h : p < n = lt_of_not-le f in diff-neg p n h ∙ ap negsuc (omega arith) ∙ sym (diff-neg q m (omega arith))

pub diff-is-pos : (p n k : ℕ) → p ≡ k + n → sub_ℕ p n ≡ pos k
diff-is-pos p n k e = diff-pos p n (omega arith) ∙ ap pos (omega arith)

pub diff-is-neg : (p n k : ℕ) → n ≡ p + suc k → sub_ℕ p n ≡ negsuc k
diff-is-neg p n k e = diff-neg p n (omega arith) ∙ ap negsuc (omega arith)

pub neg-diff : (p n : ℕ) → neg_ℤ (sub_ℕ p n) ≡ sub_ℕ n p
neg-diff p n = go (dec_le n p)
  where
    neg-pos : (k : ℕ) → p ≡ k + n → neg_ℤ (pos k) ≡ sub_ℕ n p
    neg-pos zero e = sym (diff-is-pos n p 0 (omega arith))
    neg-pos (suc k) e = sym (diff-is-neg n p k (omega arith))

    go : Dec (n ≤ p) → neg_ℤ (sub_ℕ p n) ≡ sub_ℕ n p
    go (yes h) = ap neg_ℤ (diff-pos p n h) ∙ neg-pos (p - n) (omega arith)
    go (no f) = let h : p < n = lt_of_not-le f in ap neg_ℤ (diff-neg p n h) ∙ sym (diff-is-pos n p (suc (n - suc p)) (omega arith))

pub add-diff : (p n q m : ℕ) → sub_ℕ p n +ℤ sub_ℕ q m ≡ sub_ℕ (p + q) (n + m)
add-diff p n q m = go (dec_le n p) (dec_le m q)
  where
    go : Dec (n ≤ p) → Dec (m ≤ q) → sub_ℕ p n +ℤ sub_ℕ q m ≡ sub_ℕ (p + q) (n + m)
    go (yes h) (yes k) = rw (diff-pos p n h, diff-pos q m k) (sym (diff-is-pos (p + q) (n + m) (p - n + (q - m)) (omega arith)))
    go (yes h) (no k) =
        let l : q < m = lt_of_not-le k in
        rw (diff-pos p n h, diff-neg q m l) (diff-eq (p - n) (suc (m - suc q)) (p + q) (n + m) (omega arith))
    go (no h) (yes k) =
        let l : p < n = lt_of_not-le h in
        rw (diff-neg p n l, diff-pos q m k) (diff-eq (q - m) (suc (n - suc p)) (p + q) (n + m) (omega arith))
    go (no h) (no k) =
        let l : p < n = lt_of_not-le h in
        let l' : q < m = lt_of_not-le k in
        rw (diff-neg p n l, diff-neg q m l') (sym (diff-is-neg (p + q) (n + m) (suc (n - suc p + (m - suc q))) (omega arith)))

-- the remainder is the r below m that differs from x by a multiple of m
pub mod-is : (m x r j k : ℕ) → r < m → x + j * m ≡ r + k * m → x % m ≡ r
mod-is m x r j k h e =
    sym (mul-add-mod_self_right j m x) ∙ ap (λ (y : ℕ). y % m) (omega arith) ∙ mul-add-mod_self_right k m r ∙ mod-eq_of_lt h

-- z modulo 2 ^ w, of a difference: the r below 2 ^ w that differs from it by a multiple of 2 ^ w
pub wrap-is : (w p n r j k : ℕ) → r < 2 ^ w → p + j * 2 ^ w ≡ r + n + k * 2 ^ w → wrap w (sub_ℕ p n) ≡ r
unfolding wrap
wrap-is w p n r j k h e = go (dec_le n p)
  where
    go : Dec (n ≤ p) → wrap w (sub_ℕ p n) ≡ r
    go (yes l) = rw (diff-pos p n l) (mod-is (2 ^ w) (p - n) r j k h (omega arith))
    go (no f) =
        let l : p < n = lt_of_not-le f in
        rw (diff-neg p n l)
        (ap (λ (x : ℕ). 2 ^ w - suc x) (mod-is (2 ^ w) (n - suc p) (2 ^ w - suc r) (suc k) j (omega arith) (omega arith)) ∙ omega arith)

-- what wraps, by an equation of naturals
pub record Wrapped (w p n : ℕ) : Type 0 where
  pub r : ℕ
  pub j : ℕ
  pub k : ℕ
  pub is : wrap w (sub_ℕ p n) ≡ r
  pub bound : r < 2 ^ w
  pub by : p + j * 2 ^ w ≡ r + n + k * 2 ^ w

pub wrapped : (w p n : ℕ) → Wrapped w p n
unfolding wrap
wrapped w p n = go (dec_le n p)
  where
    go : Dec (n ≤ p) → Wrapped w p n
    go (yes l) =
        let e = div-add-mod' (p - n) (2 ^ w) in
        record {
          r = (p - n) % 2 ^ w;
          j = 0;
          k = (p - n) / 2 ^ w;
          is = ap (wrap w) (diff-pos p n l);
          bound = mod-lt (p - n) (pow_pos w);
          by = omega arith;
        }
    go (no f) =
        let l : p < n = lt_of_not-le f in
        let y : ℕ = n - suc p in
        let e = div-add-mod' y (2 ^ w) in
        let h = mod-lt y (pow_pos w) in
        record {
          r = 2 ^ w - suc (y % 2 ^ w);
          j = suc (y / 2 ^ w);
          k = 0;
          is = ap (wrap w) (diff-neg p n l);
          bound = omega (arith, pow_pos w);
          by = omega arith;
        }

-- differences that agree modulo 2 ^ w wrap alike
pub wrap-cong : (w p n q m j k : ℕ) → p + m + j * 2 ^ w ≡ q + n + k * 2 ^ w → wrap w (sub_ℕ p n) ≡ wrap w (sub_ℕ q m)
wrap-cong w p n q m j k e =
    let v : Wrapped w q m = wrapped w q m in
    let b : v.r < 2 ^ w = v.bound in
    let d : q + v.j * 2 ^ w ≡ v.r + m + v.k * 2 ^ w = v.by in
    wrap-is w p n v.r (j + v.j) (k + v.k) b (omega arith) ∙ sym v.is

-- ---- order of differences

pub lt-diff : (p n q m : ℕ) → p + m < q + n → lt_z (sub_ℕ p n) (sub_ℕ q m) ≡ true
lt-diff p n q m h = go (dec_le n p) (dec_le m q)
  where
    go : Dec (n ≤ p) → Dec (m ≤ q) → lt_z (sub_ℕ p n) (sub_ℕ q m) ≡ true
    go (yes k) (yes l) = rw (diff-pos p n k, diff-pos q m l) (lt-ltb (p - n) (q - m) (omega arith))
    go (yes k) (no l) = let g : q < m = lt_of_not-le l in absurd (omega arith)
    go (no k) (yes l) = rw (diff-neg p n (lt_of_not-le k), diff-pos q m l)
    go (no k) (no l) =
        let f : p < n = lt_of_not-le k in
        let g : q < m = lt_of_not-le l in
        rw (diff-neg p n f, diff-neg q m g) (lt-ltb (m - suc q) (n - suc p) (omega arith))

pub nlt-diff : (p n q m : ℕ) → q + n ≤ p + m → lt_z (sub_ℕ p n) (sub_ℕ q m) ≡ false
nlt-diff p n q m h = go (dec_le n p) (dec_le m q)
  where
    go : Dec (n ≤ p) → Dec (m ≤ q) → lt_z (sub_ℕ p n) (sub_ℕ q m) ≡ false
    go (yes k) (yes l) = rw (diff-pos p n k, diff-pos q m l) (le-ltb (p - n) (q - m) (omega arith))
    go (yes k) (no l) = rw (diff-pos p n k, diff-neg q m (lt_of_not-le l))
    go (no k) (yes l) = let g : p < n = lt_of_not-le k in absurd (omega arith)
    go (no k) (no l) =
        let f : p < n = lt_of_not-le k in
        let g : q < m = lt_of_not-le l in
        rw (diff-neg p n f, diff-neg q m g) (le-ltb (m - suc q) (n - suc p) (omega arith))

leb-is : (a b : ℕ) → leb a b ≡ not (ltb b a)
leb-is a b = go (dec_le a b)
  where
    go : Dec (a ≤ b) → leb a b ≡ not (ltb b a)
    go (yes h) = le-leb a b h ∙ ap not (sym (le-ltb b a h))
    go (no f) = let h : b < a = lt_of_not-le f in lt-leb a b h ∙ ap not (sym (lt-ltb b a h))

-- x ≤ y is the failed test y < x
pub le_z-is : (x y : ℤ) → le_z x y ≡ not (lt_z y x)
le_z-is (pos a) (pos b) = leb-is a b
le_z-is (pos a) (negsuc b) = refl
le_z-is (negsuc a) (pos b) = refl
le_z-is (negsuc a) (negsuc b) = leb-is b a

-- an integer as a difference
pub record IsDiff (z : ℤ) : Type 0 where
  pub p : ℕ
  pub n : ℕ
  pub is : z ≡ sub_ℕ p n

pub is-diff : (z : ℤ) → IsDiff z
is-diff (pos k) = record { p = k; n = 0; is = pos-diff k }
is-diff (negsuc k) = record { p = 0; n = suc k; is = negsuc-diff k }

-- ---- shifts of differences: what is taken away is a multiple of the unit

pub shr-diff : (u n m : ℕ) → zero < u → shr_z (sub_ℕ n (m * u)) u ≡ sub_ℕ (n / u) m
shr-diff u n m h = go (dec_le m (n / u))
  where
    go : Dec (m ≤ n / u) → shr_z (sub_ℕ n (m * u)) u ≡ sub_ℕ (n / u) m
    go (yes l) =
        let k : ℕ = n / u - m in
        let e : n / u ≡ m + k = omega arith in
        let s : (m + k) * u + n % u ≡ n = ap (λ (x : ℕ). x * u + n % u) (sym e) ∙ div-add-mod' n u in
        ap (λ (z : ℤ). shr_z z u) (diff-is-pos n (m * u) (k * u + n % u) (omega arith)) ∙ ap pos (digits_div k (mod-lt n h))
        ∙ sym (diff-is-pos (n / u) m k (omega arith))
    go (no f) =
        let l : n / u < m = lt_of_not-le f in
        let k : ℕ = m - suc (n / u) in
        let e : m ≡ n / u + suc k = omega arith in
        let g : m * u ≡ (n / u + suc k) * u = ap (λ (x : ℕ). x * u) e in
        let s : n / u * u + n % u ≡ n = div-add-mod' n u in
        let b : n % u < u = mod-lt n h in
        let r : u - suc (n % u) < u = omega arith in
        ap (λ (z : ℤ). shr_z z u) (diff-is-neg n (m * u) (k * u + (u - suc (n % u))) (omega arith)) ∙ ap negsuc (digits_div k r)
        ∙ sym (diff-is-neg (n / u) m k (omega arith))

pub wrap-diff : (w n m : ℕ) → wrap w (sub_ℕ n (m * 2 ^ w)) ≡ n % 2 ^ w
wrap-diff w n m = let s = div-add-mod' n (2 ^ w) in wrap-is w n (m * 2 ^ w) (n % 2 ^ w) m (n / 2 ^ w) (mod-lt n (pow_pos w)) (omega arith)
