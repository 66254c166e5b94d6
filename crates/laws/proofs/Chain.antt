-- Chains of tests: what a chain is where a test holds and where it does not, and whether a test holds that is made of others.
use Prim.Native.Nat.{ℕ}
use mathlib.Core.Path.{◌≡◌, refl, sym, ap, ◌∙◌}
use mathlib.Core.Bool.{Bool, true, false, not, ◌&&◌, ◌||◌, cond}
use lib.Dec.{eqb}
use borrow.Author.Tests.{ne_eqb, not-true, not-false}

-- in the arm of the variant v: a function of it, alone or with another argument after or before it
pub case : {A C : Type 0} (f : A → C) (a v : A) (r : C) → a ≡ v → r ≡ f v → r ≡ f a
case f a v r e p = p ∙ sym (ap f e)

pub arm : {A B C : Type 0} (f : A → B → C) (a v : A) (b : B) (r : C) → a ≡ v → r ≡ f v b → r ≡ f a b
arm f a v b r e p = p ∙ sym (ap (λ (x : _). f x b) e)

pub arm-last : {A B C : Type 0} (f : B → A → C) (b : B) (a v : A) (r : C) → a ≡ v → r ≡ f b v → r ≡ f b a
arm-last f b = case (f b)

pub yes : {A : Type 0} (b : Bool) (r x y : A) → b ≡ true → r ≡ x → r ≡ cond b x y
yes b r x y h e = rw h e

pub no : {A : Type 0} (b : Bool) (r x y : A) → b ≡ false → r ≡ y → r ≡ cond b x y
no b r x y h e = rw h e

-- what holds on both ways of a test holds of the one that it chooses
pub either : {A : Type 0} (P : A → Type 0) (b : Bool) (x y : A) → (b ≡ true → P x) → (b ≡ false → P y) → P (cond b x y)
either P true x y f g = f refl
either P false x y f g = g refl

-- a number that is known, or that a call has answered
pub known : (k n m : ℕ) (v : Bool) → k ≡ n → eqb n m ≡ v → eqb k m ≡ v
known k n m v e h = ap (λ (x : ℕ). eqb x m) e ∙ h

pub counted : (k r m : ℕ) (v : Bool) → r ≡ k → eqb r m ≡ v → eqb k m ≡ v
counted k r m v e h = known k r m v (sym e) h

-- a test that a call has answered, in `if !call(..)`
pub denied : (b r : Bool) → r ≡ b → r ≡ false → b ≡ false
denied b r e h = sym e ∙ h

pub granted : (b r : Bool) → r ≡ b → r ≡ true → b ≡ true
granted b r e h = sym e ∙ h

pub and_yes : (p q : Bool) → p ≡ true → q ≡ true → (p && q) ≡ true
and_yes p q h k = rw (h, k)

pub and_left : (p q : Bool) → p ≡ false → (p && q) ≡ false
and_left p q h = rw h

pub and_right : (p q : Bool) → p ≡ true → q ≡ false → (p && q) ≡ false
and_right p q h k = rw (h, k)

pub or_left : (p q : Bool) → p ≡ true → (p || q) ≡ true
or_left p q h = rw h

pub or_right : (p q : Bool) → p ≡ false → q ≡ true → (p || q) ≡ true
or_right p q h k = rw (h, k)

pub or_no : (p q : Bool) → p ≡ false → q ≡ false → (p || q) ≡ false
or_no p q h k = rw (h, k)

pub not_yes : (p : Bool) → p ≡ false → not p ≡ true
not_yes p h = rw h

pub not-no : (p : Bool) → p ≡ true → not p ≡ false
not-no p h = rw h

pub ruleset chain = (
  yes,
  no,
  known,
  counted,
  ne_eqb,
  denied,
  granted,
  and_yes,
  and_left,
  and_right,
  or_left,
  or_right,
  or_no,
  not_yes,
  not-no,
)

-- ---- a test of several parts, on numbers that calls have answered

pub told : (b r v : Bool) → r ≡ v → r ≡ b → b ≡ v
told b r v t e = sym e ∙ t

pub same-eqb : (k n m : ℕ) → k ≡ n → eqb k m ≡ eqb n m
same-eqb k n m e = ap (λ (x : ℕ). eqb x m) e

pub same-and : (p q r s : Bool) → p ≡ r → q ≡ s → (p && q) ≡ (r && s)
same-and p q r s e f = rw (e, f)

pub same_or : (p q r s : Bool) → p ≡ r → q ≡ s → (p || q) ≡ (r || s)
same_or p q r s e f = rw (e, f)

pub ruleset answered = (yes, no, told, same-eqb, same-and, same_or)
