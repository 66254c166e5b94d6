-- A line's parts, as its loops read them: none, and one more.
use mathlib.Core.Path.{◌≡◌, refl, ap, ◌∙◌}
use mathlib.Core.Bool.{Bool, true, false, ◌&&◌, cond}
use mathlib.Core.List.{List, [], ◌∷◌, ◌++◌, append_assoc}
use Prim.Native.Nat.{ℕ, zero, suc, ◌+◌, ◌≤◌, ◌<◌}
use native.Mathlib.Omega.{arith}
use native.Mathlib.Numerals.{add-one}
use lib.ListN.{length, get_or, set, drop, length-append}
use lib.Seq.{drop-cons, set_at}
use lib.Dec.{eqb}
use Rattle.std.specs.List.{list_all, enumerate_from}
use Rattle.std.proofs.Math.Bool.{and_assoc, and-true}
use Rattle.std.proofs.Math.Nat.{add-zero, zero-add}
use Rattle.sheet_read.specs.Sheet.{same_to, begins, mark_of, rights_at, marks_from}

-- ---- keys

-- each byte of the key: the definition takes the last after the others
same-on : (s : List ℕ) (at : ℕ) (key rest : List ℕ) (n : ℕ) → ((i : ℕ) → get_or rest i 0 ≡ get_or key (n + i) 0)
    → (same_to s at key n && list_all (λ (p : ℕ × ℕ). eqb (get_or s (at + p.0) 0) p.1) (enumerate_from n rest))
    ≡ same_to s at key (n + length rest)
unfolding same_to
same-on s at key [] n h = rw (add-zero, and-true)
same-on s at key (b ∷ rest) n h =
    let e : b ≡ get_or key n 0 = h 0 ∙ rw add-zero in
    let more : same_to s at key (n + 1) ≡ (same_to s at key n && eqb (get_or s (at + n) 0) b) = rw (add-one n, e) in
    let k : n + 1 + length rest ≡ n + suc (length rest) = omega arith in
    rw (← and_assoc, ← more, ← k) (same-on s at key rest (n + 1) (λ i. h (suc i) ∙ (let m : n + suc i ≡ n + 1 + i = omega arith in rw m)))

pub key-all : (s : List ℕ) (at : ℕ) (key : List ℕ)
    → list_all (λ (p : ℕ × ℕ). eqb (get_or s (at + p.0) 0) p.1) (enumerate_from 0 key) ≡ begins s at key
unfolding same_to
key-all s at key = rw zero-add at (same-on s at key key 0 (λ i. rw zero-add))

-- ---- rights

pub length-rights : (s : List ℕ) (at n : ℕ) → length (rights_at s at n) ≡ n
unfolding rights_at
length-rights s at zero = refl
length-rights s at (suc n) = length-append (rights_at s at n) (mark_of (get_or s (at + n) 0) ∷ []) ∙ rw (length-rights s at n) (add-one n)

-- an array of rights, of which n are opened
abbrev pub Opened : List ℕ → List ℕ → ℕ → List ℕ → Type 0
Opened s rights n now = now ≡ rights_at s marks_from n ++ drop n rights

pub opened-none : (s rights : List ℕ) → Opened s rights 0 rights
unfolding rights_at
opened-none s rights = refl

-- the next entry takes its place
pub placed : (l m : List ℕ) (i x : ℕ) → length l ≡ i → i < length m → set (l ++ drop i m) i x ≡ (l ++ (x ∷ [])) ++ drop (i + 1) m
placed l m i x h k = rw (add-one i, drop-cons m i 0 k, set_at l (get_or m i 0) (drop (suc i) m) x i h, append_assoc)

pub opened-more : (s rights now : List ℕ) (i b m : ℕ) → i < length rights → Opened s rights i now
    → b ≡ get_or s (marks_from + i) 0 → m ≡ mark_of b → Opened s rights (i + 1) (set now i m)
unfolding rights_at
opened-more s rights now i b m h e p q =
    let v : m ≡ mark_of (get_or s (marks_from + i) 0) = q ∙ ap mark_of p in
    rw (e, placed (rights_at s marks_from i) rights i m (length-rights s marks_from i) h, v, add-one i)

-- ---- bounds by cases

pub cond-le : (b : Bool) (x y m : ℕ) → (b ≡ true → x ≤ m) → (b ≡ false → y ≤ m) → cond b x y ≤ m
cond-le true x y m f g = f refl
cond-le false x y m f g = g refl
