-- Elements of the register file: where they lie, and what a write leaves of the others.
use mathlib.Core.Path.{◌≡◌, sym, ap, ◌∙◌}
use mathlib.Core.Logic.{◌⊎◌, inl, inr, ⊎_elim, ◌≢◌}
use mathlib.Core.Bool.{cond}
use mathlib.Core.List.{List}
use Prim.Native.Nat.{ℕ, ◌+◌, ◌*◌, ◌/◌, ◌%◌, ◌^◌, ◌≤◌, ◌<◌}
use native.Mathlib.Omega.{arith}
use native.Mathlib.Nat.{lt_of_lt_of_le}
use native.Mathlib.Decide.{ℕ_discrete, dec_lt}
use lib.ListN.{length, get_or, set, length-set}
use lib.Dec.{T, eqb}
use lib.Pow.{pow_mono}
use lib.Seq.{get_or-set_same, get_or-set_other, set_out, set_comm}
use borrow.Author.Tests.{eq-eqb, ne_eqb, eqb-true}
use Rattle.laws.proofs.Chain.{either}
use Rattle.layout.specs.Layout.{bytes_at, with_bytes, bit_at, with_bit_at, element_at, with_element, bit_of, with_bit, element_width}
use Rattle.layout.specs.Layout.{Inside}
use Rattle.layout.proofs.WidthLaws.{whole-bytes, shape}
use Rattle.layout.proofs.BytesLaws.{length-with_bytes, with_bytes-other, bytes_same, bytes_apart, Bytes, bytes_lt, bytes-set}
use Rattle.layout.proofs.BytesLaws.{with_bytes-set}
use Rattle.layout.proofs.BitLaws.{bit-other}

-- ---- an element of one bit, and one of several bytes

pub mask-room : {size vlenb reg eew i : ℕ} → Inside size vlenb reg eew i → eew ≡ 1 → vlenb * reg + i / 8 < size
mask-room {i = i} h e = let p = ap (λ (k : ℕ). i * k) e in omega arith

pub bytes-room : {size vlenb reg eew i : ℕ} → Inside size vlenb reg eew i → (eew ≡ 1 → ⊥) → vlenb * reg + i * (eew / 8) + eew / 8 ≤ size
bytes-room {eew = eew} {i = i} h f =
    let e = whole-bytes eew h.width f in
    let p = ap (λ (k : ℕ). i * k) e in
    omega arith

-- where an element of any width begins, and one of a byte
pub begins : {size vlenb reg eew i : ℕ} → Inside size vlenb reg eew i → vlenb * reg + i * (eew / 8) ≤ size
begins {size} {vlenb} {reg} {eew} {i} h =
    shape (λ e. 8 * (vlenb * reg) + i * e + e ≤ 8 * size → vlenb * reg + i * (e / 8) ≤ size)
    (λ u. omega (arith, u)) (λ n s u. let q : 8 * n / 8 ≡ n = omega arith in rw q (omega (arith, u)))
    eew h.width h.within

pub one_byte : (eew : ℕ) → eew / 8 ≡ 1 → eew ≡ 1 → ⊥
one_byte eew e f = omega (arith, e, f)

pub byte-room : {size vlenb reg eew i : ℕ} → Inside size vlenb reg eew i → eew / 8 ≡ 1 → vlenb * reg + i * (eew / 8) + 1 ≤ size
byte-room {eew = eew} h e = omega (arith, e, bytes-room h (one_byte eew e))

pub as-mask : {A : Type 0} (eew : ℕ) (r x y : A) → eew ≡ 1 → r ≡ x → r ≡ cond (eqb eew 1) x y
as-mask eew r x y e p = rw (eq-eqb eew 1 e) p

pub as-several : {A : Type 0} (eew : ℕ) (r x y : A) → (eew ≡ 1 → ⊥) → r ≡ y → r ≡ cond (eqb eew 1) x y
as-several eew r x y f p = rw (ne_eqb eew 1 f) p

pub lt-mask : (eew r : ℕ) → eew ≡ 1 → r < 2 → r < 2 ^ eew
lt-mask eew r e p = rw e p

pub lt-several : (eew r : ℕ) → T (element_width eew) → (eew ≡ 1 → ⊥) → r < 2 ^ (8 * (eew / 8)) → r < 2 ^ eew
lt-several eew r t f p = rw (← whole-bytes eew t f) at p

several : {A : Type 0} (n : ℕ) (x : A) (f : ℕ → A) → cond (eqb (8 * n) 1) x (f (8 * n / 8)) ≡ f n
several n x f = let e : 8 * n / 8 ≡ n = omega arith in rw (ne_eqb (8 * n) 1 (omega arith), e)

pub at-several : (vlenb : ℕ) (file : List ℕ) (reg n i : ℕ) → element_at vlenb file reg (8 * n) i ≡ bytes_at file (vlenb * reg + i * n) n
unfolding element_at
at-several vlenb file reg n i = several n (bit_at file (vlenb * reg) i) (λ m. bytes_at file (vlenb * reg + i * m) m)

pub with-several : (vlenb : ℕ) (file : List ℕ) (reg n i x : ℕ)
    → with_element vlenb file reg (8 * n) i x ≡ with_bytes file (vlenb * reg + i * n) n x
unfolding with_element
with-several vlenb file reg n i x = several n (with_bit_at file (vlenb * reg) i x) (λ m. with_bytes file (vlenb * reg + i * m) m x)

-- ---- a write keeps the length

pub length-with_bit_at : (l : List ℕ) (a i x : ℕ) → length (with_bit_at l a i x) ≡ length l
unfolding with_bit_at
length-with_bit_at l a i x = length-set l _ _

pub length-with_element : (vlenb : ℕ) (file : List ℕ) (reg eew i x : ℕ) → length (with_element vlenb file reg eew i x) ≡ length file
unfolding with_element
length-with_element vlenb file reg eew i x =
    either (λ (l : List ℕ). length l ≡ length file) (eqb eew 1) _ _ (λ e. length-with_bit_at file (vlenb * reg) i x)
    (λ e. length-with_bytes file _ (eew / 8) x)

-- ---- in a list of bytes an element is below 2 ^ EEW

pub element-lt : (vlenb : ℕ) (file : List ℕ) (reg eew i : ℕ) → Bytes file → element_at vlenb file reg eew i < 2 ^ eew
unfolding element_at bit_at
element-lt vlenb file reg eew i h =
    either (λ r. r < 2 ^ eew) (eqb eew 1) _ _
    (λ e. rw (eqb-true eew 1 e) (omega arith))
    (λ e. lt_of_lt_of_le (bytes_lt file _ (eew / 8) h) (pow_mono (omega arith)))

-- ---- an element is as it was after one that has no bit in common with it was replaced

-- the element of EEW e at index i from register r ends before that of EEW f at index j from register s begins, or begins after its end
abbrev pub Apart : (vlenb r e i s f j : ℕ) → Type 0
Apart vlenb r e i s f j =
    (8 * (vlenb * r) + i * e + e ≤ 8 * (vlenb * s) + j * f) ⊎ (8 * (vlenb * s) + j * f + f ≤ 8 * (vlenb * r) + i * e)

bits-apart : (l : List ℕ) (a i x b j : ℕ) → 8 * a + i ≢ 8 * b + j → bit_at (with_bit_at l a i x) b j ≡ bit_at l b j
unfolding bit_at with_bit_at
bits-apart l a i x b j d = go (ℕ_discrete q p) (dec_lt p (length l))
  where
    p : ℕ
    p = a + i / 8

    q : ℕ
    q = b + j / 8

    y : ℕ
    y = with_bit (get_or l p 0) (i % 8) (x % 2)

    go : Dec (q ≡ p) → Dec (p < length l) → bit_of (get_or (set l p y) q 0) (j % 8) ≡ bit_of (get_or l q 0) (j % 8)
    go (no n) s = rw (get_or-set_other l p q y 0 n)
    go (yes e) (no n) = rw (set_out l p y (omega arith))
    go (yes e) (yes s) = rw (e, get_or-set_same l p y 0 s) (bit-other (get_or l p 0) (i % 8) (x % 2) (j % 8) (omega arith) (omega arith))

pub apart : (vlenb : ℕ) (file : List ℕ) (reg eew i x q eew' j : ℕ) → T (element_width eew) → T (element_width eew')
    → Apart vlenb reg eew i q eew' j
    → element_at vlenb (with_element vlenb file reg eew i x) q eew' j ≡ element_at vlenb file q eew' j
unfolding element_at with_element bit_at with_bit_at
apart vlenb file reg eew i x q eew' j t t' =
    shape (λ e. Kept e eew')
    (shape (Kept 1) mask-mask (λ n s. mask-several n) eew' t')
    (λ n s. shape (Kept (8 * n)) (several-mask n) (λ m s. several-several n m) eew' t')
    eew t
  where
    Kept : ℕ → ℕ → Type 0
    Kept e f = Apart vlenb reg e i q f j → element_at vlenb (with_element vlenb file reg e i x) q f j ≡ element_at vlenb file q f j

    mask-mask : Kept 1 1
    mask-mask h = bits-apart file (vlenb * reg) i x (vlenb * q) j (⊎_elim (λ u. omega arith) (λ u. omega arith) h)

    mask-several : (n : ℕ) → Kept 1 (8 * n)
    mask-several n h =
        simp at-several (bytes_same _ file (vlenb * q + j * n) n (λ k u v. get_or-set_other file (vlenb * reg + i / 8) k _ 0
        (⊎_elim (λ w. omega arith) (λ w. omega arith) h)))

    several-mask : (n : ℕ) → Kept (8 * n) 1
    several-mask n h =
        rw with-several (ap (λ (y : ℕ). bit_of y (j % 8)) (with_bytes-other file (vlenb * reg + i * n) n x (vlenb * q + j / 8)
        (⊎_elim (λ w. inl (omega arith)) (λ w. inr (omega arith)) h)))

    several-several : (n m : ℕ) → Kept (8 * n) (8 * m)
    several-several n m h =
        simp (with-several, at-several) (bytes_apart file (vlenb * reg + i * n) n x (vlenb * q + j * m) m
        (⊎_elim (λ w. inl (omega arith)) (λ w. inr (omega arith)) h))

-- ---- one byte of the file that is set, k, where it is none of the element's: read and written before or after, the element is the same

abbrev pub Clear : (vlenb reg eew i k : ℕ) → Type 0
Clear vlenb reg eew i k = (8 * (vlenb * reg) + i * eew + eew ≤ 8 * k) ⊎ (8 * k + 8 ≤ 8 * (vlenb * reg) + i * eew)

pub element-set : (vlenb : ℕ) (file : List ℕ) (k y reg eew i : ℕ) → T (element_width eew) → Clear vlenb reg eew i k
    → element_at vlenb (set file k y) reg eew i ≡ element_at vlenb file reg eew i
unfolding element_at bit_at
element-set vlenb file k y reg eew i t =
    shape (λ e. Clear vlenb reg e i k → element_at vlenb (set file k y) reg e i ≡ element_at vlenb file reg e i)
    (λ h. ap (λ (z : ℕ). bit_of z (i % 8)) (get_or-set_other file k (vlenb * reg + i / 8) y 0
    (⊎_elim (λ w. omega arith) (λ w. omega arith) h)))
    (λ n s h. simp at-several (bytes-set file k y (vlenb * reg + i * n) n (⊎_elim (λ w. inl (omega arith)) (λ w. inr (omega arith)) h)))
    eew t

bit-set : (l : List ℕ) (k y a i x : ℕ) → k ≢ a + i / 8 → with_bit_at (set l k y) a i x ≡ set (with_bit_at l a i x) k y
unfolding with_bit_at
bit-set l k y a i x d =
    ap (λ (z : ℕ). set (set l k y) (a + i / 8) (with_bit z (i % 8) (x % 2))) (get_or-set_other l k (a + i / 8) y 0 (λ e. d (sym e)))
    ∙ set_comm l k (a + i / 8) y _ d

pub with_element-set : (vlenb : ℕ) (file : List ℕ) (k y reg eew i x : ℕ) → T (element_width eew) → Clear vlenb reg eew i k
    → with_element vlenb (set file k y) reg eew i x ≡ set (with_element vlenb file reg eew i x) k y
unfolding with_element
with_element-set vlenb file k y reg eew i x t =
    shape (λ e. Clear vlenb reg e i k → with_element vlenb (set file k y) reg e i x ≡ set (with_element vlenb file reg e i x) k y)
    (λ h. bit-set file k y (vlenb * reg) i x (⊎_elim (λ w. omega arith) (λ w. omega arith) h))
    (λ n s h. simp with-several
    (with_bytes-set file k y (vlenb * reg + i * n) n x (⊎_elim (λ w. inl (omega arith)) (λ w. inr (omega arith)) h)))
    eew t
