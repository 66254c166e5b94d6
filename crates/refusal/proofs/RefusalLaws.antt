-- What fitting rights and an accepted state keep to.
use Prim.Native.Nat.{ℕ, zero, suc, ◌*◌, ◌≤◌}
use mathlib.Core.Path.{◌≡◌, refl}
use mathlib.Core.Bool.{Bool, true, false, cond}
use mathlib.Core.List.{List, [], ◌∷◌}
use native.Mathlib.Omega.{arith}
use borrow.Author.Tests.{leb-true, ltb-false, eqb-true, not-false}
use lib.Dec.{leb}
use lib.ListN.{length, get_or}
use Rattle.std.specs.Prelude.{Result, Ok, Err, ⊤}
use Rattle.laws.proofs.Apart.{both_left, both_right}
use Rattle.answer.specs.declared.Answer.{Answer}
use Rattle.control.specs.declared.Board.{Board}
use Rattle.control.specs.declared.Control.{Control}
use Rattle.control.specs.Control.{possible_of}
use Rattle.refusal.specs.Refusal.{rights_fit, refusal_of}

pub right_le : (rs : List ℕ) (k : ℕ) → rights_fit rs ≡ true → get_or rs k 0 ≤ 2
right_le [] k h = omega arith
right_le (r ∷ rs) zero h = leb-true r 2 (both_left (leb r 2) (rights_fit rs) h)
right_le (r ∷ rs) (suc k) h = right_le rs k (both_right (leb r 2) (rights_fit rs) h)

-- a test that did not refuse, and those after it
test-passed : (t : Bool) (a : Answer) (v : Result ⊤ Answer) → cond t (Err a) v ≡ Ok tt → t ≡ false
test-passed true a v h = cc
test-passed false a v h = refl

rest-passed : (t : Bool) (a : Answer) (v : Result ⊤ Answer) → cond t (Err a) v ≡ Ok tt → v ≡ Ok tt
rest-passed true a v h = cc
rest-passed false a v h = h

ruleset passed = (test-passed, rest-passed, both_left, both_right, not-false, eqb-true, ltb-false)

pub record Acceptable (b : Board) (registers scalars memory : ℕ) (rights : List ℕ) (c : Control) : Type 0 where
  pub registers-length : registers ≡ 32 * b.vlenb
  pub scalars-length : scalars ≡ 32
  pub memory-length : memory ≤ 65536
  pub rights-length : length rights ≡ 256
  pub rights-fit : rights_fit rights ≡ true
  pub possible : possible_of b c ≡ true

pub accepted-facts : (b : Board) (registers scalars memory : ℕ) (rights : List ℕ) (c : Control)
    → refusal_of b registers scalars memory rights c ≡ Ok tt → Acceptable b registers scalars memory rights c
unfolding refusal_of
accepted-facts b registers scalars memory rights c h = search passed
