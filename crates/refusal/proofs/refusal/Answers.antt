-- `refusal` meets its contract: at each return the tests that led there settle the definition's. Assumes nothing.
use Prim.Native.Nat.{ℕ}
use mathlib.Core.Path.{◌≡◌}
use mathlib.Core.Bool.{Bool, true, false, not, ◌&&◌, cond}
use borrow.Author.Tests.{lt-ltb, le-ltb, eq-eqb, ne_eqb}
use lib.Dec.{eqb}
use Rattle.std.specs.Prelude.{Result, Err, ⊤}
use Rattle.answer.specs.declared.Answer.{Answer}
use Rattle.refusal.specs.Refusal.{refusal_of}
use borrow.Author.Rules.{rules}
use Rattle.refusal.proofs.refusal.Goals as goal

refused : (t : Bool) (a : Answer) (v : Result ⊤ Answer) → t ≡ true → Err a ≡ cond t (Err a) v
refused t a v e = rw e

passed : (t : Bool) (a : Answer) (v w : Result ⊤ Answer) → t ≡ false → w ≡ v → w ≡ cond t (Err a) v
passed t a v w e h = rw e h

differ : (m n : ℕ) → (m ≡ n → ⊥) → not (eqb m n) ≡ true
differ m n h = rw (ne_eqb m n h)

same : (m n : ℕ) → m ≡ n → not (eqb m n) ≡ false
same m n h = rw (eq-eqb m n h)

off-length : (m n : ℕ) (q : Bool) → (m ≡ n → ⊥) → not (eqb m n && q) ≡ true
off-length m n q h = rw (ne_eqb m n h)

on-length : (m n : ℕ) (q x : Bool) → m ≡ n → not q ≡ x → not (eqb m n && q) ≡ x
on-length m n q x h e = rw (eq-eqb m n h) e

told : (q r x : Bool) → r ≡ q → not r ≡ x → not q ≡ x
told q r x e h = rw (← e) h

ruleset ways = (refused, passed, differ, same, lt-ltb, le-ltb, off-length, on-length, told)

pub returns-then-registers-hart : goal.returns-then-registers-hart
unfolding refusal_of
returns-then-registers-hart c = search ways

pub returns-then-scalars-ne32 : goal.returns-then-scalars-ne32
unfolding refusal_of
returns-then-scalars-ne32 c = search ways

pub returns-then-memory-gt65536 : goal.returns-then-memory-gt65536
unfolding refusal_of
returns-then-memory-gt65536 c = search ways

pub returns-then-rights-ne256 : goal.returns-then-rights-ne256
unfolding refusal_of
returns-then-rights-ne256 c = search ways

pub rights_fit-requires : goal.rights_fit-requires
unfolding refusal_of
rights_fit-requires c = search rules

pub returns-then-not-rights_fit : goal.returns-then-not-rights_fit
unfolding refusal_of
returns-then-not-rights_fit c = search ways

pub possible-requires : goal.possible-requires
unfolding refusal_of
possible-requires c = search rules

pub returns-then-not-possible : goal.returns-then-not-possible
unfolding refusal_of
returns-then-not-possible c = search ways depth 8

pub returns : goal.returns
unfolding refusal_of
returns c = search ways depth 8
