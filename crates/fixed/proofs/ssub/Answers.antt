use mathlib.Core.Path.{◌∙◌}
use Prim.Native.Nat.{ℕ, ◌/◌, ◌<◌, ◌≤◌}
use native.Mathlib.Omega.{arith}
use Rattle.fixed.proofs.SumLaws.{differences}
use Rattle.fixed.proofs.ssub.Goals as goal

pub returns-then-h-s : goal.returns-then-h-s
returns-then-h-s c = c.saturated.ensures ∙ search differences

pub returns-then-s-h : goal.returns-then-s-h
returns-then-s-h c = c.saturated-then-s-h.ensures ∙ search differences

pub returns : goal.returns
returns c =
    let a : ℕ = c.args.a in
    let b : ℕ = c.args.b in
    let h : ℕ = c.ones-h.result / 2 in
    let s : ℕ = c.sub-s.result in
    let f : (a ≤ h → h < b → s ≤ h) = λ p q. omega arith in
    let g : (h < a → b ≤ h → h < s) = λ p q. omega arith in
    c.exact.ensures ∙ search differences
