-- The fold over active elements, as far as a loop has come.
use Prim.Native.Nat.{ℕ, suc, ◌+◌, ◌-◌, ◌^◌, ◌≤◌, ◌<◌}
use mathlib.Core.Path.{◌≡◌, refl, sym, ◌∙◌}
use mathlib.Core.Bool.{Bool, true, false, cond}
use mathlib.Core.List.{List, ◌∷◌, foldl}
use native.Mathlib.Numerals.{add-one}
use native.Mathlib.Omega.{arith}
use borrow.Author.Tests.{ne_eqb}
use Rattle.decode.specs.declared.ReductionOp.{ReductionOp}
use Rattle.layout.specs.Layout.{element_at, with_element}
use Rattle.plan.specs.declared.Reduction.{Reduction}
use Rattle.plan.specs.Plan.{scalar_eew}
use Rattle.machine.specs.Effect.{active_of}
use Rattle.machine.specs.OneTurn.{joined_by, active_elements, elements_in, reduction_of, reduced_file}
use Rattle.reduction.specs.Fold.{FoldsUpward}
use Rattle.reduction.specs.Reducible.{Reachable}
use Rattle.reduction.proofs.Operators.{joined-lt}

pub folds-upward : FoldsUpward
unfolding active_elements
folds-upward f active element acc i n = go (active i)
  where
    go : (t : Bool)
        → foldl f acc (cond t (element i ∷ active_elements active element (suc i) n) (active_elements active element (suc i) n))
        ≡ foldl f (cond t (f acc (element i)) acc) (active_elements active element (suc i) n)
    go true = refl
    go false = refl

-- ---- one element

pub active-step : (t a : Bool) (op : ReductionOp) (sew acc x y z : ℕ) → t ≡ a → t ≡ true → x ≡ y → z ≡ joined_by op sew acc x
    → z ≡ cond a (joined_by op sew acc y) acc
active-step t a op sew acc x y z e h p q = rw (← e, h, ← p) q

pub active-fits : (size vlenb : ℕ) (r : Reduction) (i acc x z : ℕ) → Reachable size vlenb r i → acc < 2 ^ scalar_eew r.op r.sew
    → x < 2 ^ r.vs2.eew → z ≡ joined_by r.op r.sew acc x → z < 2 ^ scalar_eew r.op r.sew
active-fits size vlenb r i acc x z h a k e = rw e (joined-lt r.op r.sew acc x a (rw h.width at k))

-- ---- while elements are folded: those below i have been

module _ (vlenb : ℕ) (file : List ℕ) (r : Reduction) (vl : ℕ) where
  pub record Folding (i acc : ℕ) : Type 0 where
    pub fits : acc < 2 ^ scalar_eew r.op r.sew
    -- the others, from here, give what all give
    pub rest : foldl (joined_by r.op r.sew) acc (elements_in vlenb file r i (vl - i)) ≡ reduction_of vlenb file r vl

  pub folding-more : (i acc z : ℕ) → Folding i acc → i < vl
      → z ≡ cond (active_of vlenb file r.masked i)
      (joined_by r.op r.sew acc (element_at vlenb file r.vs2.reg r.vs2.eew i)) acc
      → z < 2 ^ scalar_eew r.op r.sew → Folding (i + 1) z
  folding-more i acc z g l e h =
      let s : vl - i ≡ suc (vl - suc i) = omega arith in
      record {
        fits = h;
        rest =
            rw (e, add-one i)
            (sym (folds-upward (joined_by r.op r.sew) (active_of vlenb file r.masked)
            (element_at vlenb file r.vs2.reg r.vs2.eew) acc i (vl - suc i))
            ∙ (rw s at g.rest));
      }

  pub folding-all : (i acc : ℕ) → Folding i acc → vl ≤ i → acc ≡ reduction_of vlenb file r vl
  unfolding active_elements
  folding-all i acc g l = let s : vl - i ≡ 0 = omega arith in rw s at g.rest

  -- ---- the one element that is written

  pub written : (z : ℕ) (file' : List ℕ) → (vl ≡ 0 → ⊥) → z ≡ reduction_of vlenb file r vl
      → file' ≡ with_element vlenb file r.vd.reg r.vd.eew 0 z → file' ≡ reduced_file vlenb file r vl
  unfolding reduced_file
  written z file' n e h = rw (ne_eqb vl 0 n, ← e) h

  pub kept : vl ≡ 0 → file ≡ reduced_file vlenb file r vl
  unfolding reduced_file
  kept e = rw e
