-- A turn from a state with a change that the instruction does not see is the turn from that state, and then the change.
use mathlib.Core.Path.{◌≡◌, refl, ap, ◌∙◌}
use mathlib.Core.Bool.{Bool, true, false}
use mathlib.Core.Option.{Option, none, some}
use Prim.Native.Nat.{ℕ, zero, suc, ◌+◌, ◌-◌, ◌≤◌, ◌<◌, min}
use native.Mathlib.Omega.{arith}
use native.Mathlib.Nat.{le_refl}
use lib.Dec.{ltb}
use borrow.Author.Tests.{ltb-true}
use Rattle.turn_theory.specs.Turn.{Effect, inactive, fault, write, Semantics, Point, apply, written, clean}
use Rattle.turn_theory.specs.Turn.{remaining, passing, ended, legal, answered, turn}
use Rattle.turn_theory.specs.Claims.{changed_point, changed_end, Unseen, PassesBy}

module _ (I : Semantics) (c : I.State → I.State) where
  apply-unseen : (e : Effect I.Fault I.Write) → ((w : I.Write) → e ≡ write w → (x : I.State) → I.put w (c x) ≡ c (I.put w x))
      → (x : I.State) → apply I e (c x) ≡ c (apply I e x)
  apply-unseen inactive h x = refl
  apply-unseen (fault f) h x = refl
  apply-unseen (write w) h x = h w refl x

  written-unseen : (r : I.Rights) (s s' : I.State) (i n : ℕ) (x : I.State)
      → ((k : ℕ) → i ≤ k → k < i + n → I.effect r s' k ≡ I.effect r s k)
      → ((k : ℕ) (w : I.Write) → i ≤ k → k < i + n → I.effect r s k ≡ write w → (x : I.State) → I.put w (c x) ≡ c (I.put w x))
      → written I r s' i n (c x) ≡ c (written I r s i n x)
  unfolding written
  written-unseen r s s' i zero x h g = refl
  written-unseen r s s' i (suc n) x h g =
      ap (λ (e : Effect I.Fault I.Write). written I r s' (suc i) n (apply I e (c x))) (h i (le_refl i) (omega arith))
      ∙ ap (λ (y : I.State). written I r s' (suc i) n y) (apply-unseen (I.effect r s i) (λ w e. g i w (le_refl i) (omega arith) e) x)
      ∙ written-unseen r s s' (suc i) n (apply I (I.effect r s i) x) (λ k a b. h k (omega arith) (omega arith))
      (λ k w a b. g k w (omega arith) (omega arith))

  clean-unseen : (r : I.Rights) (s s' : I.State) (i n : ℕ) → ((k : ℕ) → i ≤ k → k < i + n → I.effect r s' k ≡ I.effect r s k)
      → clean I r s' i n ≡ clean I r s i n
  unfolding clean
  clean-unseen r s s' i zero h = refl
  clean-unseen r s s' i (suc n) h =
      rw (h i (le_refl i) (omega arith), clean-unseen r s s' (suc i) n (λ k a b. h k (omega arith) (omega arith)))

  module _ (r : I.Rights) (p : Point I) (u : Unseen I c p.state p.vstart) where
    passing-unseen : (k : ℕ) → k ≤ remaining I p → passing I r (changed_point I c p) k ≡ c (passing I r p k)
    passing-unseen k l =
        written-unseen r p.state (c p.state) p.vstart k p.state (λ j a b. u.effect r j a (omega arith))
        (λ j w a b. u.put r j w a (omega arith))

    ended-unseen : (f m : Bool) (n k : ℕ) → n ≤ remaining I p → (f ≡ true → k < remaining I p)
        → ended I f m r (changed_point I c p) n k ≡ changed_end I c (ended I f m r p n k)
    ended-unseen true m n k l g =
        rw (passing-unseen k (omega (arith, g refl)), u.effect r (p.vstart + k) (omega arith) (omega (arith, g refl)))
    ended-unseen false true n k l g = rw (passing-unseen n l)
    ended-unseen false false n k l g = rw (passing-unseen n l, u.finish (passing I r p n))

    legal-unseen : (n : ℕ) → n ≤ remaining I p → legal I r (changed_point I c p) n ≡ changed_end I c (legal I r p n)
    legal-unseen n l =
        let k : ℕ = clean I r p.state p.vstart n in
        let e : clean I r (c p.state) p.vstart n ≡ k =
        clean-unseen r p.state (c p.state) p.vstart n (λ j a b. u.effect r j a (omega arith)) in
        rw (e, u.count) (ended-unseen (ltb k n) (ltb n (remaining I p)) n k l (λ h. omega (arith, ltb-true k n h)))

  pub passes-by : PassesBy I c
  unfolding turn
  passes-by t p u =
      rw (u.rejection t.rights)
      (ap (λ (m : ℕ). answered I x (changed_point I c p) (legal I t.rights (changed_point I c p) (min t.allowance m)))
      (ap (λ (k : ℕ). k - p.vstart) u.count)
      ∙ go x)
    where
      x : Option I.Rejection
      x = I.rejection t.rights p.state p.vstart

      n : ℕ
      n = min t.allowance (remaining I p)

      go : (x : Option I.Rejection)
          → answered I x (changed_point I c p) (legal I t.rights (changed_point I c p) n)
          ≡ changed_end I c (answered I x p (legal I t.rights p n))
      go (some x) = refl
      go none = legal-unseen t.rights p u n (omega arith)
