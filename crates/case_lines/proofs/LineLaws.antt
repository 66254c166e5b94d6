-- Numbers with a space before each: lengths, and one number after another.
use mathlib.Core.Path.{◌≡◌, refl, ap, ◌∙◌}
use mathlib.Core.List.{List, [], ◌∷◌, ◌++◌}
use Prim.Native.Nat.{ℕ, zero, suc, ◌+◌, ◌-◌, ◌*◌, ◌^◌, ◌≤◌, ◌<◌}
use native.Mathlib.Omega.{arith}
use native.Mathlib.Numerals.{add-one}
use native.Mathlib.Nat.{pow-le-pow_right, zero-lt-suc}
use lib.ListN.{length, get_or, take, drop, length-append, length-take, length-drop, drop_of_length-le}
use lib.Seq.{drop-cons}
use mir.Syntax.{w8, w64}
use mir.Val.{Fits}
use Rattle.hexadecimal.specs.Hexadecimal.{number_at}
use Rattle.control.specs.declared.Control.{Control}
use Rattle.control.specs.Control.{fields_of}
use Rattle.text.specs.Text.{short_hex, decimal, Adds}
use Rattle.text.specs.declared.Text.{Text}
use Rattle.text.proofs.TextLaws.{over-++, both, Left, whole, one_less, none_left, short-length, decimal-length}
use Rattle.case_lines.specs.Lines.{bytes_at, spaced, control_text}

-- ---- numbers with a space before each

spaced-upto : (xs : List ℕ) → length (spaced xs) ≤ 21 * length xs
spaced-upto [] = omega arith
spaced-upto (x ∷ xs) = rw (length-append (decimal x) (spaced xs)) (omega (arith, decimal-length x, spaced-upto xs))

text-less : {t t1 t2 : Text} {s u v : List ℕ} → Left t s t1 (u ++ v) → Adds t1 u t2 → Left t s t2 v
text-less {t1 = t1} {u = u} {v} l w =
    record {
      bytes = rw (w.wrote.bytes, w.wrote.ends, ← over-++ t1.out.now t1.at u v) l.bytes;
      ends = omega (arith, length-append u v, l.ends, w.wrote.ends);
      same_buffer = w.same_buffer ∙ l.same_buffer;
    }

pub number-less : {t t1 t2 t3 : Text} {s : List ℕ} (xs : List ℕ) (i : ℕ) → i < length xs → Left t s t1 (spaced (drop i xs))
    → Adds t1 (32 ∷ []) t2 → Adds t2 (decimal (get_or xs i 0)) t3 → Left t s t3 (spaced (drop (i + 1) xs))
number-less xs i h l v w = rw (add-one i) (text-less (rw (drop-cons xs i 0) at l) (both v w))

pub numbers-done : {t t1 : Text} {s : List ℕ} (xs : List ℕ) (i : ℕ) → length xs ≤ i → Left t s t1 (spaced (drop i xs)) → Adds t s t1
numbers-done xs i h l = none_left (rw (drop_of_length-le xs h) at l)

pub space-room : {t t1 : Text} (xs u : List ℕ) → t.at + 21 * length xs ≤ 2 ^ 30 → Left t (spaced xs) t1 u → t1.at + 1 ≤ 2 ^ 32
space-room xs u h l = omega (arith, spaced-upto xs, l.ends)

pub number-room : {t t1 t2 : Text} (xs u : List ℕ) → t.at + 21 * length xs ≤ 2 ^ 30 → Left t (spaced xs) t1 u → Adds t1 (32 ∷ []) t2
    → t2.at ≤ 2 ^ 31
number-room xs u h l w = omega (arith, spaced-upto xs, l.ends, w.wrote.ends)

-- ---- numbers of so many digits fit

pub byte-fits : (x m : ℕ) → m ≤ 2 → x < 16 ^ m → Fits w8 x
byte-fits x m p h = let u : 16 ^ m ≤ 16 ^ 2 = pow-le-pow_right (zero-lt-suc 15) p in record { fits = omega (arith, h) }

pub next-fits : (x n : ℕ) → n ≤ 8 → x < 16 ^ n → Fits w64 (x + 1)
next-fits x n p h = let u : 16 ^ n ≤ 16 ^ 8 = pow-le-pow_right (zero-lt-suc 15) p in record { fits = omega (arith, h) }

-- ---- bytes of two digits each, one after another

bytes-length : (s : List ℕ) (at n : ℕ) → length (bytes_at s at n) ≡ n
unfolding bytes_at
bytes-length s at zero = refl
bytes-length s at (suc n) = ap suc (bytes-length s (at + 2) n)

pub byte-room : {t t1 : Text} (s u : List ℕ) (at n : ℕ) → t.at ≤ 2 ^ 31 → n ≤ 255 → Left t (bytes_at s at n) t1 u → t1.at + 1 ≤ 2 ^ 32
byte-room s u at n h k l = omega (arith, bytes-length s at n, l.ends)

pub bytes-begun : {t : Text} (s : List ℕ) (at n : ℕ) → Left t (bytes_at s at n) t (bytes_at s (at + 2 * 0) (n - 0))
bytes-begun {t} s at n = let e : at + 2 * 0 ≡ at = omega arith in let f : n - 0 ≡ n = omega arith in rw (e, f) (whole t (bytes_at s at n))

pub byte-less : {t t1 t2 : Text} {u : List ℕ} (s : List ℕ) (at k n x : ℕ) → k < n → x ≡ number_at s (at + 2 * k) 2
    → Left t u t1 (bytes_at s (at + 2 * k) (n - k)) → Adds t1 (x ∷ []) t2 → Left t u t2 (bytes_at s (at + 2 * (k + 1)) (n - (k + 1)))
unfolding bytes_at
byte-less {t} {t1} {u = u} s at k n x h e l w =
    let d : n - k ≡ suc (n - (k + 1)) = omega (arith, h) in
    let i : at + 2 * (k + 1) ≡ at + 2 * k + 2 = omega arith in
    let m : Left t u t1 (number_at s (at + 2 * k) 2 ∷ bytes_at s (at + 2 * k + 2) (n - (k + 1))) = rw d at l in
    rw i (one_less (rw (← e) at m) w)

pub bytes-done : {t t1 : Text} {u : List ℕ} (s : List ℕ) (at k n : ℕ) → n ≤ k → Left t u t1 (bytes_at s (at + 2 * k) (n - k)) → Adds t u t1
unfolding bytes_at
bytes-done s at k n h l = let d : n - k ≡ 0 = omega (arith, h) in none_left (rw d at l)

-- ---- the control record

module _ (c : Control) (l : List ℕ) (e : l ≡ fields_of c) {t t1 : Text} where
  pub fields-room : (x i n : ℕ) → t.at ≤ 2 ^ 29 → Adds t (short_hex x) t1 → t1.at + 21 * length (take n (drop i l)) ≤ 2 ^ 30
  fields-room x i n h w = rw (length-take n (drop i l), length-drop i l, e) (omega (arith, short-length x, w.wrote.ends))

  pub control-wrote : {t2 : Text} → Adds t (short_hex (get_or l 0 0)) t1 → Adds t1 (spaced (take 5 (drop 1 l))) t2
      → Adds t (control_text c) t2
  control-wrote v w = both (rw e at v) (rw e at w)

  pub control-within : {t2 : Text} → Adds t (short_hex (get_or l 0 0)) t1 → Adds t1 (spaced (take 5 (drop 1 l))) t2 → t2.at ≤ t.at + 121
  control-within v w =
      omega (arith, short-length (get_or l 0 0), v.wrote.ends, spaced-upto (drop 1 (fields_of c)), (rw e at w).wrote.ends)
