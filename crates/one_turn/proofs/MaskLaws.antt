-- Bits of mask registers: where they lie, the population and the first as far as a loop has come, and the bits set in place.
use Prim.Native.Nat.{ℕ, zero, suc, ◌+◌, ◌-◌, ◌*◌, ◌≤◌, ◌<◌}
use mathlib.Core.Path.{◌≡◌, refl, ap, ◌∙◌}
use mathlib.Core.Logic.{inr, ⊎_elim}
use mathlib.Core.Bool.{Bool, true, false, not, ◌||◌, cond}
use mathlib.Core.List.{List}
use native.Mathlib.Numerals.{add-one}
use native.Mathlib.Nat.{mul-le-mul_right}
use native.Mathlib.Omega.{arith}
use lib.ListN.{length}
use lib.Dec.{T, eqb, ltb}
use borrow.Author.Tests.{lt-ltb, le-ltb}
use Rattle.std.proofs.lemmas.Bool.{cases_lt}
use Rattle.std.specs.Prelude.{Option, Some, None, unwrap_or}
use Rattle.width.specs.Width.{flag}
use Rattle.decode.specs.declared.MaskInstruction.{MaskInstruction}
use Rattle.layout.specs.Layout.{with_element}
use Rattle.layout.proofs.ElementLaws.{apart, length-with_element}
use Rattle.machine.specs.Effect.{active_of}
use Rattle.machine.proofs.Writing.{Written, written_none, written-more, written_all}
use Rattle.machine.specs.OneTurn.{set_at, population_of, first_of, first_bit, setting_first}
use Rattle.legality.specs.Legal.{keeps_v0}

-- ---- the population of the first i

pub flag-le : (t : Bool) (x : ℕ) → x ≡ flag t → x ≤ 1
flag-le true x e = omega arith
flag-le false x e = omega arith

pub population-none : (vlenb : ℕ) (file : List ℕ) (masked : Bool) (reg : ℕ) → 0 ≡ population_of vlenb file masked reg 0
unfolding population_of
population-none vlenb file masked reg = refl

pub population-more : (vlenb : ℕ) (file : List ℕ) (masked : Bool) (reg i n x : ℕ) (t : Bool) → n ≡ population_of vlenb file masked reg i
    → t ≡ set_at vlenb file masked reg i → x ≡ flag t → n + x ≡ population_of vlenb file masked reg (i + 1)
unfolding population_of
population-more vlenb file masked reg i n x t e h f = rw (add-one i, ← h, ← e, f)

-- ---- the first from i up

module _ (vlenb : ℕ) (file : List ℕ) (masked : Bool) (reg i vl r : ℕ) (e : first_of vlenb file masked reg i (vl - i) ≡ r) where
  first_next : i < vl → cond (set_at vlenb file masked reg i) i (first_of vlenb file masked reg (i + 1) (vl - (i + 1))) ≡ r
  unfolding first_of
  first_next l =
      let s : vl - i ≡ suc (vl - suc i) = omega arith in
      rw (add-one i) (rw s at e)

  pub first-here : i < vl → (t : Bool) → t ≡ set_at vlenb file masked reg i → t ≡ true → Some i ≡ cond (ltb r vl) (Some r) None
  first-here l t h k = let q : i ≡ r = rw (← h, k) at (first_next l) in rw (← q, lt-ltb i vl l)

  pub first_more : i < vl → (t : Bool) → t ≡ set_at vlenb file masked reg i → t ≡ false
      → first_of vlenb file masked reg (i + 1) (vl - (i + 1)) ≡ r
  first_more l t h k = rw (← h, k) at (first_next l)

  pub first-none : i ≤ vl → vl ≤ i → None ≡ cond (ltb r vl) (Some r) None
  unfolding first_of
  first-none p q =
      let s : vl - i ≡ 0 = omega arith in
      let u : i ≡ r = rw s at e in
      rw (← u, le-ltb i vl q)

-- where none of n is, i + n stands for it
first-most : (vlenb : ℕ) (file : List ℕ) (masked : Bool) (reg i n : ℕ) → first_of vlenb file masked reg i n ≤ i + n
unfolding first_of
first-most vlenb file masked reg i zero = omega arith
first-most vlenb file masked reg i (suc n) =
    at-first (set_at vlenb file masked reg i) (first_of vlenb file masked reg (suc i) n) (first-most vlenb file masked reg (suc i) n)
  where
    at-first : (t : Bool) (f : ℕ) → f ≤ suc i + n → cond t i f ≤ i + suc n
    at-first true f h = omega arith
    at-first false f h = omega arith

module _ (vlenb : ℕ) (file : List ℕ) (masked : Bool) (reg vl : ℕ) where
  abbrev r : ℕ
  r = first_of vlenb file masked reg 0 vl

  pub first-or-end : (f : ℕ) (found : Option ℕ) → found ≡ cond (ltb r vl) (Some r) None → f ≡ unwrap_or found vl → f ≡ r
  first-or-end f found p q =
      q ∙ rw p (⊎_elim (λ l. rw (lt-ltb r vl l) refl)
      (λ l. rw (le-ltb r vl l) (omega (arith, first-most vlenb file masked reg 0 vl))) (cases_lt r vl))

-- ---- bits set in place: the mask in v0 is read as it was

nonzero : (n : ℕ) → T (not (eqb n 0)) → 0 < n
nonzero zero h = absurd h
nonzero (suc n) h = omega arith

active-kept : (vlenb : ℕ) (file : List ℕ) (masked : Bool) (rd i x j : ℕ) → T (not masked || not (eqb rd 0)) → j < 8 * vlenb
    → active_of vlenb (with_element vlenb file rd 1 i x) masked j ≡ active_of vlenb file masked j
active-kept vlenb file false rd i x j h l = refl
active-kept vlenb file true rd i x j h l =
    let p : 1 * vlenb ≤ rd * vlenb = mul-le-mul_right vlenb (nonzero rd h) in
    ap (λ (y : ℕ). eqb y 1) (apart vlenb file rd 1 i x 0 1 j tt tt (inr (omega arith)))

-- as far as the bits are set: the file is as long as before, and its elements are active as before
pub record Going (vlenb : ℕ) (m : MaskInstruction) (first vl : ℕ) (before : List ℕ) (i : ℕ) (file : List ℕ) : Type 0 where
  pub written :
      Written vlenb m.rd 1 (active_of vlenb before m.masked) (λ j. j) (λ j. first_bit m.op j first) vl before i file
  pub size : length file ≡ length before
  pub active : (j : ℕ) → j < 8 * vlenb → active_of vlenb file m.masked j ≡ active_of vlenb before m.masked j

module _ (vlenb : ℕ) (m : MaskInstruction) (first vl : ℕ) (before : List ℕ) where
  pub going-none : Going vlenb m first vl before 0 before
  going-none = record { written = written_none vlenb _ _ _ _ _ vl before; size = refl; active = λ j l. refl }

  -- after a bit was set, or not
  length-put : (a : Bool) (file : List ℕ) (i x : ℕ) → length (cond a (with_element vlenb file m.rd 1 i x) file) ≡ length file
  length-put true file i x = length-with_element vlenb file m.rd 1 i x
  length-put false file i x = refl

  active-put : (a : Bool) (file : List ℕ) (i x j : ℕ) → T (keeps_v0 m) → j < 8 * vlenb
      → active_of vlenb (cond a (with_element vlenb file m.rd 1 i x) file) m.masked j ≡ active_of vlenb file m.masked j
  active-put true file i x j h l = active-kept vlenb file m.masked m.rd i x j h l
  active-put false file i x j h l = refl

  pub going_more : (i : ℕ) (file file' : List ℕ) → Going vlenb m first vl before i file → i < vl → vl ≤ 8 * vlenb → T (keeps_v0 m)
      → file' ≡ cond (active_of vlenb file m.masked i) (with_element vlenb file m.rd 1 i (first_bit m.op i first)) file
      → Going vlenb m first vl before (i + 1) file'
  going_more i file file' g l w h e =
      let a : Bool = active_of vlenb file m.masked i in
      let x : ℕ = first_bit m.op i first in
      record {
        written = written-more vlenb _ _ _ _ _ vl before i file file' g.written l (rw (← g.active i (omega arith)) e);
        size = rw e (length-put a file i x) ∙ g.size;
        active = λ j b. rw e (active-put a file i x j h b) ∙ g.active j b;
      }

  pub going-all : (f i : ℕ) (file : List ℕ) → Going vlenb m first vl before i file → vl ≤ i → first ≡ f
      → file ≡ setting_first vlenb vl before m f
  going-all f i file g q e = rw (← e) (written_all vlenb _ _ _ _ _ vl before i file g.written q)
