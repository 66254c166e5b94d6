-- A fold by an associative and commutative operation goes by no order.
use Prim.Native.Nat.{ℕ, ◌^◌, ◌<◌}
use mathlib.Core.Path.{◌≡◌, refl, sym, ap, ◌∙◌}
use mathlib.Core.Logic.{∥∥₁_elim}
use mathlib.Core.List.{List, [], ◌∷◌, foldl, Perm, Permᴰ}
use native.Mathlib.Nat.{ℕ_set}
use Rattle.reduction_order.specs.AnyOrder.{Orderless, Numbers}

module _ (w : ℕ) (f : ℕ → ℕ → ℕ) (o : Orderless w f) where
  -- two numbers joined to an accumulator, in the one order and in the other
  exchanged : (a x y : ℕ) → a < 2 ^ w → x < 2 ^ w → y < 2 ^ w → f (f a x) y ≡ f (f a y) x
  exchanged a x y l h k =
      o.associative a x y l h k ∙ ap (f a) (o.commutative x y h k) ∙ sym (o.associative a y x l k h)

  -- the fold over all of a list; nothing is asked of the empty one
  abbrev total : List ℕ → ℕ
  total [] = 0
  total (x ∷ xs) = foldl f x xs

  -- what a list in another order has in common with it
  record Alike (l m : List ℕ) : Type 0 where
    numbers : Numbers w m
    folds : (a : ℕ) → a < 2 ^ w → foldl f a l ≡ foldl f a m
    totals : total l ≡ total m

  alike : {l m : List ℕ} → Permᴰ l m → Numbers w l → Alike l m
  alike Permᴰ.nil n = record { numbers = n; folds = λ a h. refl; totals = refl }
  alike (Permᴰ.cons {a = x} {b = y} {l₁ = l} {l₂ = m} e d) n =
      let r = alike d n.1 in
      record {
        numbers = (rw (← e) n.0, r.numbers);
        folds = λ a h. r.folds (f a x) (o.closed a x h n.0) ∙ ap (λ (z : ℕ). foldl f (f a z) m) e;
        totals = r.folds x n.0 ∙ ap (λ (z : ℕ). foldl f z m) e;
      }
  alike (Permᴰ.swap {a = x} {b = y} {a' = y'} {b' = x'} {l = l} p q) n =
      record {
        numbers = (rw (← q) n.1.0, (rw (← p) n.0, n.1.1));
        folds = λ a h. rw (← p, ← q) (ap (λ (z : ℕ). foldl f z l) (exchanged a x y h n.0 n.1.0));
        totals = rw (← p, ← q) (ap (λ (z : ℕ). foldl f z l) (o.commutative x y n.0 n.1.0));
      }
  alike (Permᴰ.trans {l₁ = l} {l₂ = m} {l₃ = k} d e) n =
      let r = alike d n in
      let s = alike e r.numbers in
      record { numbers = s.numbers; folds = λ a h. r.folds a h ∙ s.folds a h; totals = r.totals ∙ s.totals }

  pub in-any-order : (x y : ℕ) (xs ys : List ℕ) → Numbers w (x ∷ xs) → Perm (x ∷ xs) (y ∷ ys) → foldl f x xs ≡ foldl f y ys
  in-any-order x y xs ys n p = ∥∥₁_elim p (ℕ_set (foldl f x xs) (foldl f y ys)) (λ d. (alike d n).totals)
