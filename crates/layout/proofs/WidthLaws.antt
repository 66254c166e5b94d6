-- The sizes of an element in bytes, and its widths, one by one.
use mathlib.Core.Path.{◌≡◌, refl, sym, subst}
use mathlib.Core.Bool.{Bool, true, false, ◌||◌}
use Prim.Native.Nat.{ℕ, ◌+◌, ◌*◌, ◌/◌, ◌≤◌}
use native.Mathlib.Omega.{arith}
use lib.Dec.{T, eqb, eqb→eq}
use Rattle.layout.specs.Layout.{byte_size, element_width}

-- n is k, or one of the rest
one_more : (P : ℕ → Type 0) (n k : ℕ) (rest : Bool) → P k → (T rest → P n) → T (eqb n k || rest) → P n
one_more P n k rest p q = go (eqb n k) (λ t. subst P (sym (eqb→eq n k t)) p)
  where
    go : (b : Bool) → (T b → P n) → T (b || rest) → P n
    go true f t = f t
    go false f t = q t

pub size-elim : (P : ℕ → Type 0) → P 1 → P 2 → P 4 → P 8 → (n : ℕ) → T (byte_size n) → P n
size-elim P a b c d n =
    one_more P n 1 (eqb n 2 || (eqb n 4 || eqb n 8)) a
    (one_more P n 2 (eqb n 4 || eqb n 8) b
    (one_more P n 4 (eqb n 8) c (λ t. subst P (sym (eqb→eq n 8 t)) d)))

pub width-elim : (P : ℕ → Type 0) → P 1 → P 8 → P 16 → P 32 → P 64 → (e : ℕ) → T (element_width e) → P e
width-elim P m a b c d e =
    one_more P e 1 (eqb e 8 || (eqb e 16 || (eqb e 32 || eqb e 64))) m
    (one_more P e 8 (eqb e 16 || (eqb e 32 || eqb e 64)) a
    (one_more P e 16 (eqb e 32 || eqb e 64) b
    (one_more P e 32 (eqb e 64) c (λ t. subst P (sym (eqb→eq e 64 t)) d))))

pub size-pos : (n : ℕ) → T (byte_size n) → 1 ≤ n
size-pos n t = size-elim (λ k. 1 ≤ k) (omega arith) (omega arith) (omega arith) (omega arith) n t

-- a size that is not 1, 2 or 4
pub last-size : (n : ℕ) → T (byte_size n) → (n ≡ 1 → ⊥) → (n ≡ 2 → ⊥) → (n ≡ 4 → ⊥) → n ≡ 8
last-size n t =
    size-elim (λ k. (k ≡ 1 → ⊥) → (k ≡ 2 → ⊥) → (k ≡ 4 → ⊥) → k ≡ 8)
    (λ f g h. absurd (f refl)) (λ f g h. absurd (g refl)) (λ f g h. absurd (h refl)) (λ f g h. refl) n t

pub last-room : (n a size : ℕ) → T (byte_size n) → (n ≡ 1 → ⊥) → (n ≡ 2 → ⊥) → (n ≡ 4 → ⊥) → a + n ≤ size → a + 8 ≤ size
last-room n a size t f g h r = rw (last-size n t f g h) at r

-- a width is one bit, or so many bytes
pub shape : (P : ℕ → Type 0) → P 1 → ((n : ℕ) → T (byte_size n) → P (8 * n)) → (e : ℕ) → T (element_width e) → P e
shape P m b e t = width-elim P m (b 1 tt) (b 2 tt) (b 4 tt) (b 8 tt) e t

pub whole-bytes : (e : ℕ) → T (element_width e) → (e ≡ 1 → ⊥) → e ≡ 8 * (e / 8)
whole-bytes e t = shape (λ k. (k ≡ 1 → ⊥) → k ≡ 8 * (k / 8)) (λ f. absurd (f refl)) (λ n s f. omega arith) e t

pub bytes-size : (e : ℕ) → T (element_width e) → (e ≡ 1 → ⊥) → T (byte_size (e / 8))
bytes-size e t =
    shape (λ k. (k ≡ 1 → ⊥) → T (byte_size (k / 8))) (λ f. absurd (f refl))
    (λ n s f. let q : 8 * n / 8 ≡ n = omega arith in rw q s) e t
