-- Elements written one after the other in place: what of them is still to be written, written now, gives the whole.
use Prim.Native.Nat.{ℕ, suc, ◌+◌, ◌-◌, ◌≤◌, ◌<◌}
use mathlib.Core.Path.{◌≡◌}
use mathlib.Core.Bool.{Bool, true, false, cond}
use mathlib.Core.List.{List}
use native.Mathlib.Numerals.{add-one}
use native.Mathlib.Nat.{sub-zero}
use native.Mathlib.Omega.{arith}
use Rattle.layout.specs.Layout.{with_element}
use Rattle.machine.specs.OneTurn.{writing_each}

-- ---- one element: written where the code's test finds that it is, and the file as it was where not

pub put_written : (t a : Bool) (file file' : List ℕ) (vlenb reg eew i x y : ℕ) → t ≡ a → t ≡ true → x ≡ y
    → file' ≡ with_element vlenb file reg eew i x
    → file' ≡ cond a (with_element vlenb file reg eew i y) file
put_written t a file file' vlenb reg eew i x y e h q p = rw (← e, h, ← q) p

pub put-nothing : (t a : Bool) (file x : List ℕ) → t ≡ a → t ≡ false → file ≡ cond a x file
put-nothing t a file x e h = rw (← e, h)

-- ---- one after the other

module _ (vlenb reg eew : ℕ) (writes : ℕ → Bool) (place value : ℕ → ℕ) (vl : ℕ) (before : List ℕ) where
  -- the file once the elements below i are written
  pub record Written (i : ℕ) (file : List ℕ) : Type 0 where
    pub passed : i ≤ vl
    pub rest : writing_each vlenb reg eew writes place value i (vl - i) file
        ≡ writing_each vlenb reg eew writes place value 0 vl before

  pub written_none : Written 0 before
  written_none = record { passed = omega arith; rest = rw (sub-zero vl) }

  pub written-more : (i : ℕ) (file file' : List ℕ) → Written i file → i < vl
      → file' ≡ cond (writes i) (with_element vlenb file reg eew (place i) (value i)) file → Written (i + 1) file'
  unfolding writing_each
  written-more i file file' w l e =
      let s : vl - i ≡ suc (vl - suc i) = omega arith in
      record { passed = omega arith; rest = rw (add-one i, e) (rw s at w.rest) }

  pub written_all : (i : ℕ) (file : List ℕ) → Written i file → vl ≤ i → file ≡ writing_each vlenb reg eew writes place value 0 vl before
  unfolding writing_each
  written_all i file w l = let s : vl - i ≡ 0 = omega arith in rw s at w.rest
