-- Bounds on LMUL, SEW and VLMAX, and what a supported type and a possible record keep to, over any board.
use Prim.Native.Nat.{ℕ, zero, suc, ◌-◌, ◌*◌, ◌/◌, ◌%◌, ◌^◌, ◌≤◌, ◌<◌}
use mathlib.Core.Path.{◌≡◌, refl, sym, ◌∙◌}
use mathlib.Core.Logic.{◌⊎◌, inl, inr, ⊎_elim}
use mathlib.Core.List.{List, [], ◌∷◌}
use mathlib.Core.Bool.{Bool, true, false, ◌&&◌, cond}
use native.Mathlib.Nat.{le_of_suc-le-suc, not-suc-le-zero, mul-le-mul, mul-le-mul_right, div-le_of_le-mul, mod-lt}
use native.Mathlib.Omega.{arith}
use borrow.Author.Tests.{leb-true, eqb-true, lt-ltb, le-ltb}
use lib.Dec.{leb, ltb, eqb, lit<, lit≤}
use lib.ListN.{length, get_or}
use mir.Syntax.{w64}
use mir.Val.{Fits}
use Rattle.laws.proofs.Apart.{both_left, both_right, apart}
use Rattle.control.specs.declared.Board.{Board}
use Rattle.control.specs.declared.Control.{Control}
use Rattle.control.specs.declared.Hart.{Hart}
use Rattle.control.specs.Board.{Valid, base, small}
use Rattle.control.specs.Vtype.{vill, lmul8_of, sew_of, vlmax_of, supported_of}
use Rattle.control.specs.Control.{typed_well_of, possible_of}

-- ---- the boards that there are
pub base-valid : Valid base
base-valid = record { lenb = 4; power = refl; some = lit≤ tt; most = lit≤ tt; elen = lit≤ tt; within = lit≤ tt }

pub small-valid : Valid small
small-valid = record { lenb = 3; power = refl; some = lit≤ tt; most = lit≤ tt; elen = lit≤ tt; within = lit≤ tt }

-- ---- tests taken apart
cond-apart : (p q r : Bool) → cond p q r ≡ true → ((p ≡ true) × (q ≡ true)) ⊎ (r ≡ true)
cond-apart true q r e = inl (refl, e)
cond-apart false q r e = inr e

-- ---- a bound that each entry of a table keeps to holds of whichever is looked up
abbrev all : (ℕ → Bool) → List ℕ → Bool
all p [] = true
all p (x ∷ xs) = p x && all p xs

entry : (p : ℕ → Bool) (xs : List ℕ) (k : ℕ) → all p xs ≡ true → k < length xs → p (get_or xs k 0) ≡ true
entry p [] k e h = absurd (not-suc-le-zero h)
entry p (x ∷ xs) zero e h = both_left (p x) (all p xs) e
entry p (x ∷ xs) (suc k) e h = entry p xs k (both_right (p x) (all p xs) e) (le_of_suc-le-suc h)

entry-le : (hi : ℕ) (xs : List ℕ) (k : ℕ) → all (λ x. leb x hi) xs ≡ true → k < length xs → get_or xs k 0 ≤ hi
entry-le hi xs k e h = leb-true _ hi (entry (λ x. leb x hi) xs k e h)

entry-ge : (lo : ℕ) (xs : List ℕ) (k : ℕ) → all (leb lo) xs ≡ true → k < length xs → lo ≤ get_or xs k 0
entry-ge lo xs k e h = leb-true lo _ (entry (leb lo) xs k e h)

pub lmul8-le : (v : ℕ) → lmul8_of v ≤ 64
lmul8-le v = search (entry-le, mod-lt, lit<)

pub sew-ge : (v : ℕ) → 8 ≤ sew_of v
sew-ge v = search (entry-ge, mod-lt, lit<)

pub sew-le : (v : ℕ) → sew_of v ≤ 1024
sew-le v = search (entry-le, mod-lt, lit<)

-- ---- the tables, as the code has them: a function that agrees with each entry of a table does so with whichever is looked up
abbrev agree : (ℕ → ℕ) → List ℕ → Bool
agree f [] = true
agree f (x ∷ xs) = eqb (f zero) x && agree (λ k. f (suc k)) xs

looked-up : (f : ℕ → ℕ) (xs : List ℕ) (k : ℕ) → agree f xs ≡ true → k < length xs → f k ≡ get_or xs k 0
looked-up f [] k e h = absurd (not-suc-le-zero h)
looked-up f (x ∷ xs) zero e h = eqb-true (f zero) x (both_left (eqb (f zero) x) _ e)
looked-up f (x ∷ xs) (suc k) e h = looked-up (λ j. f (suc j)) xs k (both_right (eqb (f zero) x) _ e) (le_of_suc-le-suc h)

pub sew-shifted : (v : ℕ) → 8 * 2 ^ (v / 8 % 8) % 2 ^ 64 ≡ sew_of v
sew-shifted v = search (looked-up (λ k. 8 * 2 ^ k % 2 ^ 64), mod-lt, lit<)

lmul8-shifted : (v : ℕ) → cond (ltb (v % 8) 4) (8 * 2 ^ (v % 8) % 2 ^ 64) (1 * 2 ^ (v % 8 - 4) % 2 ^ 64 / 2) ≡ lmul8_of v
lmul8-shifted v =
    search (looked-up (λ k. cond (ltb k 4) (8 * 2 ^ k % 2 ^ 64) (1 * 2 ^ (k - 4) % 2 ^ 64 / 2)), mod-lt, lit<)

-- ---- the board of a hart is valid: a divisor of 16 is a power of 2
abbrev lenbs : List ℕ
lenbs = 0 ∷ 0 ∷ 1 ∷ 0 ∷ 2 ∷ 0 ∷ 0 ∷ 0 ∷ 3 ∷ 0 ∷ 0 ∷ 0 ∷ 0 ∷ 0 ∷ 0 ∷ 0 ∷ 4 ∷ []

power-or-one : (v : ℕ) → v < 17 → cond (eqb (16 % v) 0) v 1 ≡ 2 ^ get_or lenbs v 0
power-or-one v h =
    let powers : List ℕ = 1 ∷ 1 ∷ 2 ∷ 1 ∷ 4 ∷ 1 ∷ 1 ∷ 1 ∷ 8 ∷ 1 ∷ 1 ∷ 1 ∷ 1 ∷ 1 ∷ 1 ∷ 1 ∷ 16 ∷ [] in
    looked-up (λ k. cond (eqb (16 % k) 0) k 1) powers v refl h ∙ sym (looked-up (λ k. 2 ^ get_or lenbs k 0) powers v refl h)

divides-power : (v : ℕ) → v ≤ 16 → 16 % v ≡ 0 → v ≡ 2 ^ get_or lenbs v 0
divides-power v h e = let p = power-or-one v (omega arith) in rw e at p

pub valid : (h : Hart) → Valid h.board
valid h = record {
  lenb = get_or lenbs h.board.vlenb 0;
  power = divides-power h.board.vlenb h.most h.divides;
  some = h.some;
  most = h.most;
  elen = h.elen_most;
  within = h.within;
}

taken : (b : Bool) (x y z : ℕ) → b ≡ true → cond b x y ≡ z → x ≡ z
taken b x y z e h = rw e at h

passed : (b : Bool) (x y z : ℕ) → b ≡ false → cond b x y ≡ z → y ≡ z
passed b x y z e h = rw e at h

pub lmul8-whole : (v : ℕ) → v % 8 < 4 → 8 * 2 ^ (v % 8) % 2 ^ 64 ≡ lmul8_of v
lmul8-whole v l = taken (ltb (v % 8) 4) _ _ _ (lt-ltb (v % 8) 4 l) (lmul8-shifted v)

pub lmul8-fraction : (v : ℕ) → 4 ≤ v % 8 → 1 * 2 ^ (v % 8 - 4) % 2 ^ 64 / 2 ≡ lmul8_of v
lmul8-fraction v l = passed (ltb (v % 8) 4) _ _ _ (le-ltb (v % 8) 4 l) (lmul8-shifted v)

pub supported-sew-le : (b : Board) (v : ℕ) → Valid b → supported_of b v ≡ true → sew_of v ≤ 64
unfolding supported_of
supported-sew-le b v w e = let h : sew_of v ≤ b.elen = search apart in omega arith

-- of an unsupported type too
pub vlmax-le : (b : Board) (v : ℕ) → vlmax_of b v ≤ 8 * b.vlenb
unfolding vlmax_of
vlmax-le b v =
    div-le_of_le-mul (sew_of v) (omega (arith, mul-le-mul_right b.vlenb (lmul8-le v), mul-le-mul_right (8 * b.vlenb) (sew-ge v)))

-- LMUL8 by VLENB or ELEN
pub product-fits : (x y : ℕ) → x ≤ 64 → y ≤ 64 → Fits w64 (x * y)
product-fits x y p q = omega (arith, mul-le-mul p q)

-- ---- records
pub typed-well-apart : (b : Board) (c : Control) → typed_well_of b c ≡ true
    → ((c.vtype ≡ vill) × (c.vl ≡ 0)) ⊎ ((supported_of b c.vtype ≡ true) × (c.vl ≤ vlmax_of b c.vtype))
unfolding typed_well_of
typed-well-apart b c e =
    ⊎_elim
    (λ h. inl (eqb-true _ _ h.0, eqb-true _ _ h.1))
    (λ h. inr (search apart))
    (cond-apart (eqb c.vtype vill) (eqb c.vl 0) (supported_of b c.vtype && leb c.vl (vlmax_of b c.vtype)) e)

typed-well-vl : (b : Board) (c : Control) → typed_well_of b c ≡ true → c.vl ≤ 8 * b.vlenb
typed-well-vl b c e = ⊎_elim (λ h. omega arith) (λ h. omega (arith, vlmax-le b c.vtype)) (typed-well-apart b c e)

pub record Possible (b : Board) (c : Control) : Type 0 where
  pub typed : typed_well_of b c ≡ true
  pub vl : c.vl ≤ 8 * b.vlenb
  pub vstart : c.vstart < 8 * b.vlenb
  pub vxrm : c.vxrm ≤ 3
  pub vxsat : c.vxsat ≤ 1
  pub vs : c.vs ≤ 3

pub possible-apart : (b : Board) (c : Control) → possible_of b c ≡ true → Possible b c
unfolding possible_of
possible-apart b c e =
    let t : typed_well_of b c ≡ true = search apart in
    record { typed = t; vl = typed-well-vl b c t; vstart = search apart; vxrm = search apart; vxsat = search apart; vs = search apart }
