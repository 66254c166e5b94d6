use Prim.Native.Nat.{ℕ, ◌*◌, ◌≤◌}
use mathlib.Core.Path.{◌≡◌}
use mathlib.Core.Bool.{Bool, true}
use native.Mathlib.Nat.{mul-le-mul_right}
use native.Mathlib.Omega.{arith}
use borrow.Author.Tests.{eq-eqb, ne_eqb}
use mir.Syntax.{w64}
use mir.Val.{Fits}
use Rattle.laws.proofs.Chain.{granted}
use Rattle.view.specs.View.{is_group_of, place_of}
use Rattle.view.proofs.ViewLaws.{within}
use Rattle.view.proofs.place.Goals as goal

-- a group's numbers, in bytes
first_fits : (v f n : ℕ) (r : Bool) → v ≤ 16 → r ≡ is_group_of f n → r ≡ true → Fits w64 (v * f)
first_fits v f n r h e g = omega (arith, within f n (granted _ r e g), mul-le-mul_right f h)

count_fits : (v f n : ℕ) (r : Bool) → v ≤ 16 → r ≡ is_group_of f n → r ≡ true → Fits w64 (v * n)
count_fits v f n r h e g = omega (arith, within f n (granted _ r e g), mul-le-mul_right n h)

ruleset fits = (first_fits, count_fits)

pub returns-then-bytes-vlenb : goal.returns-then-bytes-vlenb
unfolding place_of
returns-then-bytes-vlenb c = rw (ne_eqb _ _ c.if-bytes-vlenb.true)

pub returns-then-not-is_group : goal.returns-then-not-is_group
unfolding place_of
returns-then-not-is_group c = rw (eq-eqb _ _ c.if-bytes-vlenb.false, ← c.is_group.ensures, c.if-not-is_group.true)

pub overflow_mul-result : goal.overflow_mul-result
overflow_mul-result c = search fits

pub overflow_mul-result-2 : goal.overflow_mul-result-2
overflow_mul-result-2 c = search fits

pub returns : goal.returns
unfolding place_of
returns c = rw (eq-eqb _ _ c.if-bytes-vlenb.false, ← c.is_group.ensures, c.if-not-is_group.false)
