-- Numbers of several bytes: read and stored byte by byte, and kept by other stores.
use mathlib.Core.Path.{◌≡◌, refl, ap, ap₂, ◌∙◌}
use mathlib.Core.Logic.{◌⊎◌, inl, inr, ⊎_elim}
use mathlib.Core.List.{List}
use Prim.Native.Nat.{ℕ, zero, suc, ◌+◌, ◌-◌, ◌*◌, ◌/◌, ◌%◌, ◌^◌, ◌≤◌, ◌<◌}
use native.Mathlib.Omega.{arith}
use native.Mathlib.Nat.{zero-add, add-zero, suc-add, add-suc, add_comm, mul-suc, div-one}
use lib.ListN.{length, get_or, set, length-set}
use lib.Seq.{get_or-set_other, set_comm}
use lib.Pow.{pow-add, shr-shr, pow_mono}
use mir.Syntax.{w8, w64}
use mir.Val.{Fits}
use mir.Facts.{Fits-widen}
use Rattle.layout.specs.Layout.{bytes_at, with_bytes}

-- ---- m bytes, then n bytes

pub bytes-split : (l : List ℕ) (a m n : ℕ) → bytes_at l a (m + n) ≡ bytes_at l a m + 2 ^ (8 * m) * bytes_at l (a + m) n
unfolding bytes_at
bytes-split l a zero n = rw (zero-add n, add-zero a) (omega arith)
bytes-split l a (suc m) n =
    rw (suc-add m n, add-suc a m, ← suc-add a m, mul-suc 8 m, pow-add 2 (8 * m) 8) (omega (arith, bytes-split l (suc a) m n))

pub with_bytes-split : (l : List ℕ) (a m n x : ℕ) → with_bytes l a (m + n) x ≡ with_bytes (with_bytes l a m x) (a + m) n (x / 2 ^ (8 * m))
unfolding with_bytes
with_bytes-split l a zero n x = rw (zero-add n, add-zero a, div-one x)
with_bytes-split l a (suc m) n x =
    rw (suc-add m n, add-suc a m, ← suc-add a m, mul-suc 8 m, add_comm (8 * m) 8, ← shr-shr x 8 (8 * m))
    (with_bytes-split (set l a (x % 256)) (suc a) m n (x / 256))

-- ---- a byte more, of n, where those from k on are read, or those below k are stored

pub read-none : (l : List ℕ) (a n : ℕ) → 0 ≡ bytes_at l (a + n) (n - n)
unfolding bytes_at
read-none l a n = let e : n - n ≡ 0 = omega arith in rw e

pub read-more : (l : List ℕ) (a n k x y : ℕ) → 1 ≤ k → k ≤ n → x ≡ bytes_at l (a + k) (n - k) → y ≡ get_or l (a + (k - 1)) 0
    → 256 * x + y ≡ bytes_at l (a + (k - 1)) (n - (k - 1))
unfolding bytes_at
read-more l a n k x y h i p q =
    let e : n - (k - 1) ≡ suc (n - k) = omega arith in
    let f : a + k ≡ suc (a + (k - 1)) = omega arith in
    rw e (let r : x ≡ bytes_at l (suc (a + (k - 1))) (n - k) = p ∙ ap (λ (m : ℕ). bytes_at l m (n - k)) f in omega arith)

pub read-all : (l : List ℕ) (a n k x : ℕ) → k ≡ 0 → x ≡ bytes_at l (a + k) (n - k) → x ≡ bytes_at l a n
read-all l a n k x e p =
    let f : a + k ≡ a = omega arith in
    let g : n - k ≡ n = omega arith in
    p ∙ ap₂ (bytes_at l) f g

pub write-more : (l : List ℕ) (a n k x : ℕ) → k < n
    → with_bytes (set l (a + k) (x % 256)) (a + (k + 1)) (n - (k + 1)) (x / 256) ≡ with_bytes l (a + k) (n - k) x
unfolding with_bytes
write-more l a n k x h =
    let e : n - k ≡ suc (n - (k + 1)) = omega arith in
    let f : a + (k + 1) ≡ suc (a + k) = omega arith in
    rw (e, f)

pub write-all : (l m : List ℕ) (a n k x : ℕ) → n ≤ k → with_bytes l (a + k) (n - k) x ≡ m → l ≡ m
unfolding with_bytes
write-all l m a n k x h p = let e : n - k ≡ 0 = omega arith in rw e at p

-- ---- a number of bytes n that is known to be m

pub read-sized : (l : List ℕ) (a n m r : ℕ) → n ≡ m → r ≡ bytes_at l a m → r ≡ bytes_at l a n
read-sized l a n m r e p = rw e p

pub lt-sized : (m n r : ℕ) → n ≡ m → r < 2 ^ (8 * m) → r < 2 ^ (8 * n)
lt-sized m n r e p = rw e p

pub write-sized : (l l' : List ℕ) (a n m x : ℕ) → n ≡ m → l' ≡ with_bytes l a m x → l' ≡ with_bytes l a n x
write-sized l l' a n m x e p = rw e p

-- ---- what a store leaves

pub length-with_bytes : (l : List ℕ) (a n x : ℕ) → length (with_bytes l a n x) ≡ length l
unfolding with_bytes
length-with_bytes l a zero x = refl
length-with_bytes l a (suc n) x = length-with_bytes (set l a (x % 256)) (suc a) n (x / 256) ∙ length-set l a (x % 256)

-- a byte that is not among those stored
pub with_bytes-other : (l : List ℕ) (a n x k : ℕ) → (a + n ≤ k) ⊎ (k < a) → get_or (with_bytes l a n x) k 0 ≡ get_or l k 0
unfolding with_bytes
with_bytes-other l a zero x k h = refl
with_bytes-other l a (suc n) x k h =
    with_bytes-other (set l a (x % 256)) (suc a) n (x / 256) k (⊎_elim (λ u. inl (omega arith)) (λ u. inr (omega arith)) h)
    ∙ get_or-set_other l a k (x % 256) 0 (⊎_elim (λ u. omega arith) (λ u. omega arith) h)

-- lists that agree on n bytes from a have the same number there
pub bytes_same : (l m : List ℕ) (a n : ℕ) → ((k : ℕ) → a ≤ k → k < a + n → get_or l k 0 ≡ get_or m k 0) → bytes_at l a n ≡ bytes_at m a n
unfolding bytes_at
bytes_same l m a zero h = refl
bytes_same l m a (suc n) h =
    ap₂ (λ (x y : ℕ). x + 256 * y) (h a (omega arith) (omega arith)) (bytes_same l m (suc a) n (λ k u v. h k (omega arith) (omega arith)))

-- a number that has no byte in common with what is stored
pub bytes_apart : (l : List ℕ) (a m x b n : ℕ) → (a + m ≤ b) ⊎ (b + n ≤ a) → bytes_at (with_bytes l a m x) b n ≡ bytes_at l b n
bytes_apart l a m x b n h =
    bytes_same (with_bytes l a m x) l b n (λ k u v. with_bytes-other l a m x k (⊎_elim (λ w. inl (omega arith)) (λ w. inr (omega arith)) h))

-- ---- one byte that is set, k, where it is none of the n bytes from a

pub bytes-set : (l : List ℕ) (k y a n : ℕ) → (a + n ≤ k) ⊎ (k < a) → bytes_at (set l k y) a n ≡ bytes_at l a n
bytes-set l k y a n h =
    bytes_same (set l k y) l a n (λ j u v. get_or-set_other l k j y 0 (⊎_elim (λ w. omega arith) (λ w. omega arith) h))

-- the two stores in either order
pub with_bytes-set : (l : List ℕ) (k y a n x : ℕ) → (a + n ≤ k) ⊎ (k < a) → with_bytes (set l k y) a n x ≡ set (with_bytes l a n x) k y
unfolding with_bytes
with_bytes-set l k y a zero x h = refl
with_bytes-set l k y a (suc n) x h =
    ap (λ (m : List ℕ). with_bytes m (suc a) n (x / 256)) (set_comm l k a y (x % 256) (⊎_elim (λ w. omega arith) (λ w. omega arith) h))
    ∙ with_bytes-set (set l a (x % 256)) k y (suc a) n (x / 256) (⊎_elim (λ w. inl (omega arith)) (λ w. inr (omega arith)) h)

-- ---- a list of bytes: what a slice of u8 is

abbrev pub Bytes : List ℕ → Type 0
Bytes l = (k : ℕ) → get_or l k 0 < 256

pub slice-bytes : (l : List ℕ) → ((k : ℕ) → Fits w8 (get_or l k 0)) → Bytes l
slice-bytes l h k = (h k).fits

pub byte-wide : (l : List ℕ) (k : ℕ) → ((j : ℕ) → Fits w8 (get_or l j 0)) → Fits w64 (get_or l k 0)
byte-wide l k h = Fits-widen {w = w8} tt (h k)

pub bytes_lt : (l : List ℕ) (a n : ℕ) → Bytes l → bytes_at l a n < 2 ^ (8 * n)
unfolding bytes_at
bytes_lt l a zero h = omega arith
bytes_lt l a (suc n) h = rw (mul-suc 8 n, pow-add 2 (8 * n) 8) (omega (arith, bytes_lt l (suc a) n h, h a))

-- a number of fewer than eight bytes, and one byte more
pub bytes-room : (l : List ℕ) (a m x y : ℕ) → Bytes l → m ≤ 7 → x ≡ bytes_at l a m → y < 256 → Fits w64 (256 * x + y)
bytes-room l a m x y h i p q =
    let e : 8 * m ≤ 56 = omega arith in
    record { fits = omega (arith, bytes_lt l a m h, pow_mono e) }
