-- A group has a register and lies within the file, on any board.
use Prim.Native.Nat.{ℕ, ◌+◌, ◌*◌, ◌%◌, ◌≤◌}
use mathlib.Core.List.{List}
use mathlib.Core.Path.{◌≡◌, refl, sym, subst}
use mathlib.Core.Bool.{Bool, true, false, not, ◌||◌, cond}
use native.Mathlib.Nat.{mul-le-mul_right}
use native.Mathlib.Omega.{arith}
use borrow.Author.Tests.{eqb-true}
use lib.Dec.{eqb}
use lib.ListN.{length, length-drop}
use lib.Seq.{length-take-le}
use Rattle.laws.proofs.Apart.{apart}
use Rattle.std.specs.Prelude.{Result, Ok, Err}
use Rattle.answer.specs.declared.Answer.{Answer}
use Rattle.control.specs.declared.Board.{Board}
use Rattle.view.specs.declared.ViewPlace.{ViewPlace}
use Rattle.view.specs.View.{is_group_of, place_of, start_of, size_of, part_in, part_of}

either : {P : Type 0} (p q : Bool) → (p || q) ≡ true → (p ≡ true → P) → (q ≡ true → P) → P
either true q e f g = f refl
either false q e f g = g e

-- what holds of 1, 2, 4 and 8 holds of a group's size
sizes : (P : ℕ → Type 0) (n : ℕ) → (eqb n 1 || eqb n 2 || eqb n 4 || eqb n 8) ≡ true → P 1 → P 2 → P 4 → P 8 → P n
sizes P n e p₁ p₂ p₄ p₈ =
    either (eqb n 1 || eqb n 2 || eqb n 4) (eqb n 8) e
    (λ e. either (eqb n 1 || eqb n 2) (eqb n 4) e (λ e. either (eqb n 1) (eqb n 2) e (is 1 p₁) (is 2 p₂)) (is 4 p₄))
    (is 8 p₈)
  where
    is : (k : ℕ) → P k → eqb n k ≡ true → P n
    is k p h = rw (eqb-true n k h) p

-- the registers of a group are among the 32
pub within : (f n : ℕ) → is_group_of f n ≡ true → f + n ≤ 32
unfolding is_group_of
within f n e =
    let l : f ≤ 31 = search apart in
    let r : f % n ≡ 0 = search apart in
    sizes (λ k. f % k ≡ 0 → f + k ≤ 32) n (search apart) (λ h. omega arith) (λ h. omega arith) (λ h. omega arith) (λ h. omega arith) r

-- by cases on a test that must hold
unless : {T : Type 0} (P : T → Type 0) (t : Bool) (x y : T) → P x → (t ≡ true → P y) → P (cond (not t) x y)
unless P true x y p q = q refl
unless P false x y p q = p

-- a part ends within the file, so it has as many bytes as its place says
pub part_end : (b : Board) (bytes f n : ℕ) → start_of (place_of b bytes f n) + size_of (place_of b bytes f n) ≤ bytes
unfolding place_of
part_end b bytes f n =
    unless (λ q. start_of q + size_of q ≤ bytes) (eqb bytes (32 * b.vlenb)) _ _
    (omega arith)
    (λ h. unless (λ q. start_of q + size_of q ≤ bytes) (is_group_of f n) _ _
    (omega arith)
    (λ g. omega (arith, eqb-true bytes (32 * b.vlenb) h, mul-le-mul_right b.vlenb (within f n g))))

-- the same of a place that there is
pub ends-within : (b : Board) (bytes f n : ℕ) (p : ViewPlace) → Ok p ≡ place_of b bytes f n → p.start + p.size ≤ bytes
ends-within b bytes f n p e =
    let P : Result ViewPlace Answer → Type 0 = λ q. start_of q + size_of q ≤ bytes in
    subst P (sym e) (part_end b bytes f n)

pub part_length : (b : Board) (l : List ℕ) (f n : ℕ) → length (part_of b l f n) ≡ size_of (place_of b (length l) f n)
part_length b l f n = of-place (place_of b (length l) f n) (part_end b (length l) f n)
  where
    of-place : (q : Result ViewPlace Answer) → start_of q + size_of q ≤ length l → length (part_in q l) ≡ size_of q
    of-place (Ok p) h = length-take-le _ _ (rw (length-drop _ l) (omega arith))
    of-place (Err a) h = refl
