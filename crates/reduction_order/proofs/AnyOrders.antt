-- The eight operators of one width are associative and commutative, so that their reductions go by no order.
use Prim.Native.Nat.{ℕ, zero, suc, ◌+◌, ◌%◌, ◌^◌, ◌<◌}
use mathlib.Core.Path.{◌≡◌, sym, ap, subst, ◌∙◌}
use mathlib.Core.Bool.{Bool}
use mathlib.Core.List.{List, ◌∷◌}
use native.Mathlib.Nat.{mod-add-mod, add-mod-mod}
use native.Mathlib.Omega.{arith}
use lib.Bits.{and_comm, or_comm, xor_comm}
use Rattle.laws.proofs.Chain.{either}
use Rattle.operation.specs.declared.Size.{Size}
use Rattle.operation.specs.Shape.{eew_of}
use Rattle.width.proofs.Bounds.{bounds}
use Rattle.control.specs.Vtype.{sew_of}
use Rattle.decode.specs.declared.ReductionOp.{ReductionOp}
use Rattle.decode.specs.declared.ReductionOp.TheVariants.{Vredsum, Vredand, Vredor, Vredxor, Vredminu, Vredmin, Vredmaxu, Vredmax}
use Rattle.decode.specs.declared.ReductionOp.TheVariants.{Vwredsumu, Vwredsum}
use Rattle.decode.specs.declared.ReductionInstruction.{ReductionInstruction}
use Rattle.layout.specs.Layout.{element_at}
use Rattle.layout.proofs.BytesLaws.{Bytes}
use Rattle.layout.proofs.ElementLaws.{element-lt}
use Rattle.plan.specs.Plan.{scalar_eew, reducing_of}
use Rattle.machine.specs.OneTurn.{joined_by, active_elements, scalar_in, elements_in}
use Rattle.reduction_order.specs.AnyOrder.{Orderless, Numbers, OneWidth, AnyOrder}
use Rattle.reduction_order.proofs.Bitwise.{and-associates, or-associates, xor-associates}
use Rattle.reduction_order.proofs.Lesser.{min-associates, min-commutes, max-associates, max-commutes}
use Rattle.reduction_order.proofs.Folds.{in-any-order}

-- ---- the operators

sum-associates : (x y z m : ℕ) → ((x + y) % m + z) % m ≡ (x + (y + z) % m) % m
sum-associates x y z m = mod-add-mod (x + y) m z ∙ ap (λ (n : ℕ). n % m) (omega arith) ∙ sym (add-mod-mod x (y + z) m)

operator : (op : ReductionOp) → OneWidth op → (w : ℕ) → Orderless w (joined_by op w)
operator Vredsum s w = record {
  closed = λ x y p q. search bounds;
  associative = λ x y z p q r. sum-associates x y z (2 ^ w);
  commutative = λ x y p q. ap (λ (n : ℕ). n % 2 ^ w) (omega arith);
}
operator Vredand s w = record {
  closed = λ x y p q. search bounds;
  associative = and-associates w;
  commutative = λ x y p q. and_comm x y;
}
operator Vredor s w = record {
  closed = λ x y p q. search bounds;
  associative = or-associates w;
  commutative = λ x y p q. or_comm x y;
}
operator Vredxor s w = record {
  closed = λ x y p q. search bounds;
  associative = xor-associates w;
  commutative = λ x y p q. xor_comm x y;
}
operator Vredminu s w = record {
  closed = λ x y p q. search bounds;
  associative = λ x y z p q r. omega arith;
  commutative = λ x y p q. omega arith;
}
operator Vredmin s w = record {
  closed = λ x y p q. search bounds;
  associative = λ x y z p q r. min-associates w x y z;
  commutative = min-commutes w;
}
operator Vredmaxu s w = record {
  closed = λ x y p q. search bounds;
  associative = λ x y z p q r. omega arith;
  commutative = λ x y p q. omega arith;
}
operator Vredmax s w = record {
  closed = λ x y p q. search bounds;
  associative = λ x y z p q r. max-associates w x y z;
  commutative = max-commutes w;
}
operator Vwredsumu s w = absurd (let z : ◌≡◌ {A = ℕ} 0 1 = cc in omega arith)
operator Vwredsum s w = absurd (let z : ◌≡◌ {A = ℕ} 0 1 = cc in omega arith)

-- ---- the elements that a reduction folds over are numbers of SEW bits

active-numbers : (w : ℕ) (active : ℕ → Bool) (element : ℕ → ℕ) → ((i : ℕ) → element i < 2 ^ w) → (i n : ℕ)
    → Numbers w (active_elements active element i n)
unfolding active_elements
active-numbers w active element h i zero = tt
active-numbers w active element h i (suc n) =
    let others = active-numbers w active element h (suc i) n in
    either (Numbers w) (active i) _ _ (λ t. (h i, others)) (λ t. others)

reduced-numbers : (v : ℕ) (a : ReductionInstruction) → OneWidth a.op → (vlenb vl : ℕ) (file : List ℕ) → Bytes file
    → Numbers (sew_of v) (scalar_in vlenb file (reducing_of v a) ∷ elements_in vlenb file (reducing_of v a) 0 vl)
unfolding reducing_of
reduced-numbers v a s vlenb vl file h =
    let w : ℕ = sew_of v in (
      subst (λ (z : Size). element_at vlenb file a.vs1 (scalar_eew a.op w) 0 < 2 ^ eew_of z w) s (element-lt vlenb file a.vs1 _ 0 h),
      active-numbers w _ _ (λ i. element-lt vlenb file a.vs2 w i h) 0 vl,
    )

pub any_order : AnyOrder
unfolding reducing_of
any_order = record {
  operators = operator;
  folds = in-any-order;
  reductions = λ v a s vlenb vl file h y ys.
      in-any-order (sew_of v) _ (operator a.op s (sew_of v)) _ y _ ys (reduced-numbers v a s vlenb vl file h);
}
