-- A reduction that is legal: its operator, its elements and its scalars are such as the fold relies on.
use Prim.Native.Nat.{ℕ, ◌*◌, ◌≤◌}
use mathlib.Core.Path.{◌≡◌, refl, subst}
use mathlib.Core.Bool.{true}
use mathlib.Core.List.{List}
use native.Mathlib.Omega.{arith}
use lib.Dec.{leb, eqb, lit<}
use borrow.Author.Tests.{leb-true}
use Rattle.laws.proofs.Apart.{both_left, both_right}
use Rattle.control.specs.declared.Board.{Board}
use Rattle.control.specs.declared.Control.{Control}
use Rattle.control.specs.Board.{Valid}
use Rattle.control.proofs.Laws.{Possible, sew-ge}
use Rattle.decode.specs.declared.ReductionInstruction.{ReductionInstruction}
use Rattle.decode.specs.declared.Instruction.{Instruction}
use Rattle.decode.specs.declared.Instruction.TheVariants as I
use Rattle.decode.specs.Fields.{ReductionFits, Fits}
use Rattle.group.specs.Group.{placed_of}
use Rattle.plan.specs.declared.Reduction.{Reduction}
use Rattle.plan.specs.declared.OneTurn.TheVariants as O
use Rattle.plan.specs.declared.Plan.{Plan}
use Rattle.plan.specs.declared.Plan.TheVariants as P
use Rattle.plan.specs.Plan.{reducing_of, plan_of}
use Rattle.legality.specs.Legal.{startable, reduction_placed, one_turn_legal}
use Rattle.machine.proofs.Geometry.{bit-inside, register-inside}
use Rattle.machine.proofs.PlanFacts.{scalar-wide, element-inside}
use Rattle.reduction.specs.Reducible.{Reducible}

-- ---- the elements

record Fitting (b : Board) (r : Reduction) : Type 0 where
  scalars-fit : r.vd.eew ≤ b.elen
  placed : placed_of b.elen r.vs2 ≡ true

legal-facts : (b : Board) (c : Control) (r : Reduction) → one_turn_legal b c (O.Reduction r) ≡ true → Fitting b r
unfolding one_turn_legal
legal-facts b c r h =
    let f : reduction_placed b.elen r ≡ true =
    both_right (eqb c.vstart 0) _ (both_right (startable b c) _ h) in
    record {
      scalars-fit = leb-true r.vd.eew b.elen (both_left (leb r.vd.eew b.elen) (placed_of b.elen r.vs2) f);
      placed = both_right (leb r.vd.eew b.elen) (placed_of b.elen r.vs2) f;
    }

module _ (b : Board) (c : Control) (w : Valid b) (t : Possible b c) where
  reducing-reducible : (a : ReductionInstruction) → ReductionFits a → one_turn_legal b c (O.Reduction (reducing_of c.vtype a)) ≡ true
      → Reducible (32 * b.vlenb) b.vlenb (reducing_of c.vtype a) c.vl
  unfolding reducing_of
  reducing-reducible a f h =
      let s = scalar-wide c.vtype a.op in
      let l = legal-facts b c (reducing_of c.vtype a) h in
      record {
        elements = λ i k. record {
          least = sew-ge c.vtype;
          most = omega (arith, l.scalars-fit, w.elen);
          width = refl;
          element = element-inside b c w t a.vs2 i l.placed f.vs2 k;
          mask = bit-inside b.vlenb 0 i (lit< tt) (omega (arith, t.vl));
        };
        accumulator = refl;
        scalar = register-inside b _ a.vs1 w s.power s.low l.scalars-fit f.vs1;
        result = register-inside b _ a.vd w s.power s.low l.scalars-fit f.vd;
      }

  -- ---- the plan of a decoded word

  abbrev PlanReducible : Plan → Type 0
  PlanReducible P.Illegal = Unit {0}
  PlanReducible (P.OneTurn (O.Setting s)) = Unit {0}
  PlanReducible (P.OneTurn (O.Mask m)) = Unit {0}
  PlanReducible (P.OneTurn (O.Reduction r)) =
      one_turn_legal b c (O.Reduction r) ≡ true → Reducible (32 * b.vlenb) b.vlenb r c.vl
  PlanReducible (P.OneTurn (O.Packing p)) = Unit {0}
  PlanReducible (P.OneTurn (O.ScalarMove m)) = Unit {0}
  PlanReducible (P.Elements e) = Unit {0}

  every-plan : (x : List ℕ) (i : Instruction) → Fits i → PlanReducible (plan_of b x c i)
  unfolding plan_of
  every-plan x I.Illegal f = tt
  every-plan x (I.Setting s) f = tt
  every-plan x (I.Mask m) f = tt
  every-plan x (I.Reduction a) f = reducing-reducible a f
  every-plan x (I.Pack a) f = tt
  every-plan x (I.ScalarMove a) f = tt
  every-plan x (I.Arithmetic a) f = tt
  every-plan x (I.Permutation a) f = tt
  every-plan x (I.Memory a) f = tt

  pub reducible : (x : List ℕ) (i : Instruction) (r : Reduction) → Fits i → plan_of b x c i ≡ P.OneTurn (O.Reduction r)
      → one_turn_legal b c (O.Reduction r) ≡ true → Reducible (32 * b.vlenb) b.vlenb r c.vl
  reducible x i r f e = subst PlanReducible e (every-plan x i f)
