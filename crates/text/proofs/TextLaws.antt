-- Texts written one after another, what is left to write, lengths, and digits.
use mathlib.Core.Path.{◌≡◌, refl, sym, ap, ◌∙◌}
use mathlib.Core.List.{List, [], ◌∷◌, ◌++◌}
use Prim.Native.Nat.{ℕ, zero, suc, ◌+◌, ◌-◌, ◌*◌, ◌/◌, ◌%◌, ◌^◌, ◌≤◌, ◌<◌}
use native.Mathlib.Omega.{arith}
use native.Mathlib.Nat.{add-zero, add-suc, suc-add, mul-suc, pow-suc, mod-lt, mod-eq_of_lt}
use native.Mathlib.Numerals.{add-one}
use lib.ListN.{length, get_or, set, drop, length-append, drop_of_length-le}
use lib.Seq.{set_out, drop-cons}
use lib.Dec.{ltb}
use lib.Pow.{pow-add}
use borrow.Author.Tests.{lt-ltb, le-ltb}
use Rattle.laws.proofs.Chain.{either}
use Rattle.text.specs.Text.{hex_digit, hex, numeral, decimal, short_hex, line, over, Wrote, Adds}
use Rattle.text.specs.declared.Text.{Text}

-- ---- one text after another

pub over-++ : (out : List ℕ) (at : ℕ) (s t : List ℕ) → over out at (s ++ t) ≡ over (over out at s) (at + length s) t
unfolding over
over-++ out at [] t = rw (add-zero at)
over-++ out at (b ∷ s) t = rw (add-suc at (length s), ← suc-add at (length s)) (over-++ (set out at b) (suc at) s t)

pub nothing : (t : Text) → Adds t [] t
unfolding over
nothing t = record { wrote = record { bytes = refl; ends = omega arith }; same_buffer = refl }

pub both : {t t1 t2 : Text} {s u : List ℕ} → Adds t s t1 → Adds t1 u t2 → Adds t (s ++ u) t2
both {t} {s = s} {u} p q =
    record {
      wrote = record {
        bytes = rw (over-++ t.out.now t.at s u, ← p.wrote.bytes, ← p.wrote.ends) q.wrote.bytes;
        ends = omega (arith, length-append s u, p.wrote.ends, q.wrote.ends);
      };
      same_buffer = q.same_buffer ∙ p.same_buffer;
    }

-- ---- the buffer

-- behind a first byte
over-behind : (x : ℕ) (out : List ℕ) (at : ℕ) (t : List ℕ) → over (x ∷ out) (suc at) t ≡ x ∷ over out at t
unfolding over
over-behind x out at [] = refl
over-behind x out at (b ∷ t) = over-behind x (set out at b) (suc at) t

pub over-whole : (out t : List ℕ) → length t ≤ length out → over out 0 t ≡ t ++ drop (length t) out
unfolding over
over-whole out [] h = refl
over-whole [] (b ∷ t) h = absurd (omega arith)
over-whole (x ∷ out) (b ∷ t) h = over-behind b out 0 t ∙ ap (λ (l : List ℕ). b ∷ l) (over-whole out t (omega arith))

-- ---- one byte

pub byte_fits : (o o1 : List ℕ) (a b r : ℕ) → o1 ≡ set o a b → r ≡ a + 1 → Wrote o a (b ∷ []) o1 r
unfolding over
byte_fits o o1 a b r e q = record { bytes = e; ends = q }

pub byte-lost : (o o1 : List ℕ) (a b r : ℕ) → length o ≤ a → o1 ≡ o → r ≡ a + 1 → Wrote o a (b ∷ []) o1 r
byte-lost o o1 a b r h e q = byte_fits o o1 a b r (e ∙ sym (set_out o a b h)) q

-- ---- what is left to write: the text s from a on is done when u is written from a1 on

pub record Left (t : Text) (s : List ℕ) (t1 : Text) (u : List ℕ) : Type 0 where
  pub bytes : over t1.out.now t1.at u ≡ over t.out.now t.at s
  pub ends : t1.at + length u ≡ t.at + length s
  pub same_buffer : t1.out.ghost_name ≡ t.out.ghost_name

pub whole : (t : Text) (s : List ℕ) → Left t s t s
whole t s = record { bytes = refl; ends = refl; same_buffer = refl }

pub one_less : {t t1 t2 : Text} {s u : List ℕ} {b : ℕ} → Left t s t1 (b ∷ u) → Adds t1 (b ∷ []) t2 → Left t s t2 u
unfolding over
one_less {t1 = t1} l w =
    record {
      bytes = rw (w.wrote.bytes, w.wrote.ends, add-one t1.at) l.bytes;
      ends = omega (arith, l.ends, w.wrote.ends);
      same_buffer = w.same_buffer ∙ l.same_buffer;
    }

pub none_left : {t t1 : Text} {s : List ℕ} → Left t s t1 [] → Adds t s t1
unfolding over
none_left l = record { wrote = record { bytes = l.bytes; ends = omega (arith, l.ends) }; same_buffer = l.same_buffer }

-- byte i of a text
pub byte-less : {t t1 t2 : Text} {s : List ℕ} (i : ℕ) → i < length s → Left t s t1 (drop i s)
    → Adds t1 (get_or s i 0 ∷ []) t2 → Left t s t2 (drop (i + 1) s)
byte-less {s = s} i h l w = rw (add-one i) (one_less (rw (drop-cons s i 0) at l) w)

pub all_done : {t t1 : Text} {s : List ℕ} (i : ℕ) → length s ≤ i → Left t s t1 (drop i s) → Adds t s t1
all_done {s = s} i h l = none_left (rw (drop_of_length-le s h) at l)

-- ---- hex digits

pub hex-length : (n x : ℕ) → length (hex n x) ≡ n
unfolding hex
hex-length zero x = refl
hex-length (suc n) x = ap suc (hex-length n x)

pub hex-short : (n x : ℕ) → n ≤ 16 → length (hex n x) ≤ 20
hex-short n x h = omega (arith, hex-length n x)

pub sixteen : (n : ℕ) → 16 ^ n ≡ 2 ^ (4 * n)
sixteen zero = refl
sixteen (suc n) = rw (pow-suc 16 n, mul-suc 4 n, pow-add 2 (4 * n) 4, sixteen n)

pub digit_low : (d r : ℕ) → d < 10 → r ≡ 48 + d → r ≡ hex_digit d
unfolding hex_digit
digit_low d r h e = rw (lt-ltb d 10 h) e

pub digit-high : (d r : ℕ) → 10 ≤ d → r ≡ 97 + (d - 10) → r ≡ hex_digit d
unfolding hex_digit
digit-high d r h e = rw (le-ltb d 10 h) (omega arith)

pub digit-less : {t t1 t2 : Text} {s : List ℕ} {d : ℕ} (n x k : ℕ) → 0 < n → Left t s t1 (hex n x)
    → d ≡ hex_digit (x / 2 ^ k % 16) → k ≡ 4 * (n - 1) → Adds t1 (d ∷ []) t2 → Left t s t2 (hex (n - 1) x)
unfolding hex
digit-less {t} {t1} {t2} {s} {d} zero x k h l e f w = elim h [ ]
digit-less {d = d} (suc n) x k h l e f w =
    let p : suc n - 1 ≡ n = omega arith in
    let q : d ≡ hex_digit (x / 16 ^ n % 16) = rw sixteen (rw (f, p) at e) in
    rw p (one_less l (rw q at w))

pub hex-room : {t t1 : Text} (m n x : ℕ) → t.at ≤ 2 ^ 31 → n ≤ 16 → Left t (hex n x) t1 (hex m x) → t1.at ≤ 2 ^ 32
hex-room m n x h g l = omega (arith, hex-length n x, l.ends)

pub digits-done : {t t1 : Text} {s : List ℕ} (n x : ℕ) → n ≤ 0 → Left t s t1 (hex n x) → Adds t s t1
unfolding hex
digits-done zero x h l = none_left l
digits-done {t} {t1} {s} (suc _) x h l = elim h [ ]

pub digits-end : (t t1 : Text) (m x n : ℕ) → n ≤ 0 → Left t (hex m x) t1 (hex n x) → t1.at ≡ t.at + m
digits-end t t1 m x n h l = omega (arith, hex-length m x, hex-length n x, l.ends)

-- ---- numerals: the last digit, after nothing and after the others

numeral-few : (radix n x : ℕ) → x < radix → numeral radix (suc n) x ≡ hex_digit (x % radix) ∷ []
unfolding numeral
numeral-few radix n x h = rw (lt-ltb x radix h)

numeral-more : (radix n x : ℕ) → radix ≤ x → numeral radix (suc n) x ≡ numeral radix n (x / radix) ++ (hex_digit (x % radix) ∷ [])
unfolding numeral
numeral-more radix n x h = rw (le-ltb x radix h)

last-digit : (radix x d : ℕ) → 0 < radix → radix ≤ 16 → d ≡ hex_digit (x % radix % 16) → d ≡ hex_digit (x % radix)
last-digit radix x d l g e = e ∙ ap hex_digit (mod-eq_of_lt (omega (arith, mod-lt x l)))

pub wrote_none : (t : Text) (radix n x : ℕ) → n ≡ 0 → Adds t (numeral radix n x) t
unfolding numeral
wrote_none t radix n x h = rw h (nothing t)

pub wrote_one : {t t1 t2 : Text} {d : ℕ} (radix n x : ℕ) → (n ≡ 0 → ⊥) → 0 < radix → radix ≤ 16 → x < radix → t1 ≡ t
    → d ≡ hex_digit (x % radix % 16) → Adds t1 (d ∷ []) t2 → Adds t (numeral radix n x) t2
wrote_one radix zero x z l g h p e w = absurd (z refl)
wrote_one {d = d} radix (suc n) x z l g h p e w = rw (numeral-few radix n x h, ← last-digit radix x d l g e) (rw p at w)

pub wrote-more : {t t1 t2 t3 : Text} {d : ℕ} (radix n x : ℕ) → (n ≡ 0 → ⊥) → 0 < radix → radix ≤ 16 → radix ≤ x
    → Adds t (numeral radix (n - 1) (x / radix)) t1 → t2 ≡ t1
    → d ≡ hex_digit (x % radix % 16) → Adds t2 (d ∷ []) t3 → Adds t (numeral radix n x) t3
wrote-more radix zero x z l g h v p e w = absurd (z refl)
wrote-more {d = d} radix (suc n) x z l g h v p e w =
    let m : suc n - 1 ≡ n = omega arith in
    rw (numeral-more radix n x h, ← last-digit radix x d l g e) (both (rw m at v) (rw p at w))

-- no more digits than the definition takes
numeral-upto : (radix n x : ℕ) → length (numeral radix n x) ≤ n
unfolding numeral
numeral-upto radix zero x = omega arith
numeral-upto radix (suc n) x =
    let before = numeral radix n (x / radix) in
    let last = hex_digit (x % radix) ∷ [] in
    either (λ l. length (l ++ last) ≤ suc n) (ltb x radix) [] before (λ _. omega arith)
    (λ _. rw (length-append before last) (omega (arith, numeral-upto radix n (x / radix))))

pub decimal-length : (x : ℕ) → length (decimal x) ≤ 20
decimal-length x = numeral-upto 10 20 x

pub short-length : (x : ℕ) → length (short_hex x) ≤ 16
short-length x = numeral-upto 16 16 x

pub numeral-room : {t t1 t2 : Text} (radix n x : ℕ) → t.at ≤ 2 ^ 31 → n ≤ 20 → Adds t (numeral radix (n - 1) x) t1 → t2 ≡ t1
    → t2.at ≤ 2 ^ 32
numeral-room radix n x h g w e = omega (arith, numeral-upto radix (n - 1) x, w.wrote.ends, ap (λ (t : Text). t.at) e)

-- ---- lines

pub line_wrote : {t t1 t2 t3 : Text} {k v : List ℕ} → Adds t k t1 → Adds t1 v t2 → Adds t2 (10 ∷ []) t3 → Adds t (line k v) t3
line_wrote p q w = both p (both q w)

pub line-room : {t t1 t2 : Text} {k v : List ℕ} → t.at + length k ≤ 2 ^ 30 → length v ≤ 20 → Adds t k t1 → Adds t1 v t2 → t2.at ≤ 2 ^ 32
line-room h g p q = omega (arith, p.wrote.ends, q.wrote.ends)

pub line-ends : {t t1 t2 t3 : Text} {k v : List ℕ} (n : ℕ) → Adds t k t1 → Adds t1 v t2 → t2.at ≡ t1.at + n → Adds t2 (10 ∷ []) t3
    → t3.at ≡ t.at + length k + n + 1
line-ends n p q e w = omega (arith, p.wrote.ends, w.wrote.ends)

pub line-within : {t t1 t2 t3 : Text} {k v : List ℕ} → length v ≤ 20 → Adds t k t1 → Adds t1 v t2 → Adds t2 (10 ∷ []) t3
    → t3.at ≤ t.at + length k + 21
line-within g p q w = omega (arith, p.wrote.ends, q.wrote.ends, w.wrote.ends)
