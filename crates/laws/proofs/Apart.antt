-- Tests taken apart: `search apart` finds each fact in an `&&` of tests that is true.
use mathlib.Core.Path.{◌≡◌}
use mathlib.Core.Logic.{◌⊎◌, inl, inr}
use mathlib.Core.Bool.{Bool, true, false, ◌&&◌, ◌||◌, and-eq-true_iff}
use borrow.Author.Tests.{leb-true, ltb-true, eqb-true}

pub both_left : (p q : Bool) → (p && q) ≡ true → p ≡ true
both_left p q e = ((and-eq-true_iff p q).0 e).0

pub both_right : (p q : Bool) → (p && q) ≡ true → q ≡ true
both_right p q e = ((and-eq-true_iff p q).0 e).1

pub or_cases : (p q : Bool) → (p || q) ≡ true → (p ≡ true) ⊎ (q ≡ true)
or_cases true q e = inl e
or_cases false q e = inr e

pub ruleset apart = (both_left, both_right, leb-true, ltb-true, eqb-true)
