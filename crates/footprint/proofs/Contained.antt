-- The operands of a legal plan lie in their registers: VLMAX elements of a group, or as many as a register or whole registers hold.
use Prim.Native.Nat.{ℕ, ◌*◌, ◌≤◌, ◌<◌}
use mathlib.Core.Path.{◌≡◌, refl}
use mathlib.Core.Bool.{Bool, true, false, not}
use mathlib.Core.List.{List}
use native.Mathlib.Omega.{arith}
use native.Mathlib.Nat.{div-mul-le_self, mul-le-mul_right}
use lib.Dec.{T, leb, eqb}
use borrow.Author.Tests.{leb-true}
use Rattle.laws.proofs.Apart.{both_left, both_right, apart}
use Rattle.laws.proofs.Chain.{either}
use Rattle.control.specs.declared.Board.{Board}
use Rattle.control.specs.declared.Control.{Control}
use Rattle.control.specs.Board.{Valid}
use Rattle.control.specs.Vtype.{vill, sew_of, vlmax_of, supported_of}
use Rattle.control.proofs.Laws.{Possible, sew-ge, vlmax-le}
use Rattle.decode.specs.declared.Access.{Access}
use Rattle.decode.specs.declared.Mode.{Mode}
use Rattle.decode.specs.declared.Mode.TheVariants as M
use Rattle.decode.specs.declared.PackInstruction.{PackInstruction}
use Rattle.decode.specs.declared.ReductionInstruction.{ReductionInstruction}
use Rattle.decode.specs.declared.ScalarMoveInstruction.{ScalarMoveInstruction}
use Rattle.decode.specs.declared.Instruction.{Instruction}
use Rattle.decode.specs.declared.Instruction.TheVariants as I
use Rattle.decode.specs.Fields.{ModeFits, AccessFits, Fits}
use Rattle.layout.specs.Layout.{element_width}
use Rattle.group.specs.declared.Group.{Group}
use Rattle.group.specs.Group.{registers_of, placed_of}
use Rattle.plan.specs.declared.Read.{Read}
use Rattle.plan.specs.declared.Read.TheVariants as R
use Rattle.plan.specs.declared.Transfer.{Transfer}
use Rattle.plan.specs.declared.Elementwise.{Elementwise}
use Rattle.plan.specs.declared.Reduction.{Reduction}
use Rattle.plan.specs.declared.Packing.{Packing}
use Rattle.plan.specs.declared.OneTurn.{OneTurn}
use Rattle.plan.specs.declared.OneTurn.TheVariants as O
use Rattle.plan.specs.declared.Plan.{Plan}
use Rattle.plan.specs.declared.Plan.TheVariants as P
use Rattle.plan.specs.Plan.{group_at, groups_at, register_at, computing_of, permuting_of, moving_of, by_mode, reducing_of, packed_elements}
use Rattle.plan.specs.Plan.{scalar_eew, packing_of, scalar_moving_of, plan_of, shaped_of}
use Rattle.legality.specs.Legal.{read_fits, writes_registers, is_strict, operands_fit, startable, reduction_placed, packing_placed}
use Rattle.legality.specs.Legal.{one_turn_legal}
use Rattle.machine.proofs.Geometry.{Power, sew-power, power-width, Extent, placed-extent}
use Rattle.machine.proofs.PlanFacts.{Operand, constant, bit, element, OfV0, unused, Typed, typed-extent, legal-at}
use Rattle.machine.proofs.PlanFacts.{ReachFits, computing-typed, permuting-typed, mode-end, unit-typed, strided-typed, indexed-typed}
use Rattle.machine.proofs.PlanFacts.{eew-width, typed-supported, scalar-wide, packed-operand}
use Rattle.footprint.proofs.Spared.{Contained, ReadContained}

-- ---- groups at a supported vtype

extent-contained : (n vlenb : ℕ) (g : Group) → Extent n vlenb g → Contained vlenb n g
extent-contained n vlenb g x = record { width = x.width; within = x.within }

pub operand-contained : (b : Board) (v : ℕ) (writes strict : Bool) (d : Group) (r : Read) → Valid b → supported_of b v ≡ true → Operand v r
    → read_fits b.elen writes strict d r ≡ true → ReadContained b.vlenb (vlmax_of b v) r
unfolding read_fits
operand-contained b v writes strict d _ w s (constant n) t = tt
operand-contained b v writes strict d _ w s (bit reg) t = vlmax-le b v
operand-contained b v writes strict d _ w s (element eew reg nf p z) t =
    let g : Group = groups_at v eew reg nf in
    extent-contained (vlmax_of b v) b.vlenb g (placed-extent b v w s eew p reg nf (both_left (placed_of b.elen g) _ t))

-- ---- instructions of elements

-- so many elements of each operand lie in its registers: no fewer than the instruction has, and all that a permutation may read
pub record ElementsContained (b : Board) (e : Elementwise) : Type 0 where
  pub most : ℕ
  pub end : e.end ≤ most
  pub bits : most ≤ 8 * b.vlenb
  pub dest : Contained b.vlenb most e.dest
  pub vs2 : ReadContained b.vlenb most e.vs2
  pub vs1 : ReadContained b.vlenb most e.vs1
  pub vd : ReadContained b.vlenb most e.vd
  pub v0 : OfV0 e.v0
  pub reach : ReachFits most e.action

typed-contained : (b : Board) (v : ℕ) (e : Elementwise) → Valid b → Typed b v e → operands_fit b.elen e ≡ true → ElementsContained b e
typed-contained b v e w y h =
    let f = legal-at b.elen e h in
    let inside : (r : Read) → Operand v r → read_fits b.elen (writes_registers e.action) (is_strict e.action) e.dest r ≡ true
    → ReadContained b.vlenb (vlmax_of b v) r =
    λ r. operand-contained b v (writes_registers e.action) (is_strict e.action) e.dest r w y.supported in
    record {
      most = vlmax_of b v;
      end = y.end;
      bits = vlmax-le b v;
      dest = extent-contained (vlmax_of b v) b.vlenb e.dest (typed-extent b v e w y f.dest);
      vs2 = inside e.vs2 y.vs2 f.vs2;
      vs1 = inside e.vs1 y.vs1 f.vs1;
      vd = inside e.vd y.vd f.vd;
      v0 = y.v0;
      reach = y.reach;
    }

-- registers whatever the vtype
alone-contained : (b : Board) (a : Access) (typed : Bool) (g : Group) (z : Transfer) (end : ℕ) → T (element_width g.eew)
    → end ≤ 8 * b.vlenb → end * g.eew ≤ registers_of g * (8 * b.vlenb) → ElementsContained b (moving_of a typed g (R.Constant 0) z end)
unfolding moving_of
alone-contained b a typed g z end t m l = let inside : Contained b.vlenb end g = record { width = t; within = l } in record {
  most = end;
  end = omega arith;
  bits = m;
  dest = inside;
  vs2 = tt;
  vs1 = tt;
  vd = either (ReadContained b.vlenb end) z.store (R.Element g) (R.Constant 0) (λ h. inside) (λ h. tt);
  v0 = unused;
  reach = tt;
}

module _ (b : Board) (x : List ℕ) (c : Control) (a : Access) (w : Valid b) (t : Possible b c) (f : AccessFits a) where
  mode-contained : (m : Mode) → ModeFits m → operands_fit b.elen (by_mode b x c a m) ≡ true → 0 < (by_mode b x c a m).end
      → ElementsContained b (by_mode b x c a m)
  unfolding by_mode moving_of
  mode-contained M.UnitStride n h l = typed-contained b c.vtype _ w (unit-typed b x c a w t f l) h
  mode-contained (M.Strided r) n h l = typed-contained b c.vtype _ w (strided-typed b x c a w t f r l) h
  mode-contained (M.Indexed r) n h l = typed-contained b c.vtype _ w (indexed-typed b x c a w t f r l) h
  mode-contained M.MaskBytes n h l =
      alone-contained b a _ (register_at 8 a.vd) _ _ tt (mode-end b x c a w t f M.MaskBytes n) (omega (arith, t.vl))
  mode-contained (M.Whole k) n h l =
      let g : Group = record { reg = a.vd; eew = a.eew; emul8 = 8 * k; nf = 0 } in
      let all : k ≤ registers_of g = omega arith in
      alone-contained b a _ g _ _ (eew-width a f) (mode-end b x c a w t f (M.Whole k) n)
      (omega (arith, div-mul-le_self (k * (8 * b.vlenb)) a.eew, mul-le-mul_right (8 * b.vlenb) all))

-- ---- instructions that take one turn

-- a register alone has room for one element
register-contained : (b : Board) (eew reg : ℕ) → Valid b → Power eew → 8 ≤ eew → eew ≤ b.elen → Contained b.vlenb 1 (register_at eew reg)
register-contained b eew reg w p l m =
    record { width = power-width eew p l (omega (arith, w.elen)); within = omega (arith, w.within) }

fewer-contained : (vlenb n m : ℕ) (r : Read) → n ≤ m → ReadContained vlenb m r → ReadContained vlenb n r
fewer-contained vlenb n m (R.Constant x) l h = tt
fewer-contained vlenb n m (R.Element g) l h =
    record { width = h.width; within = omega (arith, h.within, mul-le-mul_right g.eew l) }
fewer-contained vlenb n m (R.Bit reg) l h = omega (arith, h)

pub record ReductionContained (vlenb vl : ℕ) (r : Reduction) : Type 0 where
  pub vs2 : Contained vlenb vl r.vs2
  pub vs1 : Contained vlenb 1 r.vs1
  pub vd : Contained vlenb 1 r.vd

pub record PackingContained (vlenb vl : ℕ) (p : Packing) : Type 0 where
  pub vd : Contained vlenb vl p.vd
  pub elements : ReadContained vlenb vl p.elements

abbrev pub OneTurnContained : ℕ → ℕ → OneTurn → Type 0
OneTurnContained vlenb vl (O.Setting t) = Unit {0}
OneTurnContained vlenb vl (O.Mask m) = vl ≤ 8 * vlenb
OneTurnContained vlenb vl (O.Reduction r) = (vl ≤ 8 * vlenb) × ReductionContained vlenb vl r
OneTurnContained vlenb vl (O.Packing p) = (vl ≤ 8 * vlenb) × PackingContained vlenb vl p
OneTurnContained vlenb vl (O.ScalarMove m) = Contained vlenb 1 m.vector

module _ (b : Board) (c : Control) (w : Valid b) (t : Possible b c) where
  abbrev v : ℕ
  v = c.vtype

  -- an operand at the vtype, where vill is clear
  vl-contained : (writes strict : Bool) (d : Group) (r : Read) → startable b c ≡ true → Operand v r
      → read_fits b.elen writes strict d r ≡ true → ReadContained b.vlenb c.vl r
  vl-contained writes strict d r h o f =
      let s = typed-supported b c t (both_left (not (eqb v vill)) _ h) in
      fewer-contained b.vlenb c.vl (vlmax_of b v) r s.1 (operand-contained b v writes strict d r w s.0 o f)

  -- a group that is placed is one that fits beside nothing
  placed-contained : (eew reg : ℕ) → Power eew → startable b c ≡ true → placed_of b.elen (group_at v eew reg) ≡ true
      → Contained b.vlenb c.vl (group_at v eew reg)
  unfolding read_fits
  placed-contained eew reg p h f =
      vl-contained false false (group_at v eew reg) (R.Element (group_at v eew reg)) h (element eew reg 0 p (λ e. refl)) (rw f)

  reducing-contained : (a : ReductionInstruction) → one_turn_legal b c (O.Reduction (reducing_of v a)) ≡ true
      → ReductionContained b.vlenb c.vl (reducing_of v a)
  unfolding one_turn_legal reducing_of
  reducing-contained a h =
      let s = scalar-wide v a.op in
      let f : reduction_placed b.elen (reducing_of v a) ≡ true = both_right (eqb c.vstart 0) _ (both_right (startable b c) _ h) in
      let m = leb-true (scalar_eew a.op (sew_of v)) b.elen (both_left _ (placed_of b.elen (group_at v (sew_of v) a.vs2)) f) in
      record {
        vs2 =
            placed-contained (sew_of v) a.vs2 (sew-power v) (both_left (startable b c) _ h)
            (both_right (leb (scalar_eew a.op (sew_of v)) b.elen) _ f);
        vs1 = register-contained b _ a.vs1 w s.power s.low m;
        vd = register-contained b _ a.vd w s.power s.low m;
      }

  packing-contained : (a : PackInstruction) → one_turn_legal b c (O.Packing (packing_of v a)) ≡ true
      → PackingContained b.vlenb c.vl (packing_of v a)
  unfolding one_turn_legal packing_of
  packing-contained a h =
      let f : packing_placed b.elen (packing_of v a) ≡ true = both_right (eqb c.vstart 0) _ (both_right (startable b c) _ h) in
      let start = both_left (startable b c) _ h in
      record {
        vd = placed-contained (sew_of v) a.vd (sew-power v) start (both_left (placed_of b.elen (group_at v (sew_of v) a.vd)) _ f);
        elements =
            vl-contained true true (group_at v (sew_of v) a.vd) (packed_elements v a.op a) start (packed-operand v a.op a)
            (both_left (read_fits b.elen true true (group_at v (sew_of v) a.vd) (packed_elements v a.op a)) _
            (both_right (placed_of b.elen (group_at v (sew_of v) a.vd)) _ f));
      }

  moving-contained : (a : ScalarMoveInstruction) → one_turn_legal b c (O.ScalarMove (scalar_moving_of v a)) ≡ true
      → Contained b.vlenb 1 (scalar_moving_of v a).vector
  unfolding one_turn_legal scalar_moving_of supported_of
  moving-contained a h =
      let s = (typed-supported b c t (both_left (not (eqb v vill)) _ h)).0 in
      register-contained b (sew_of v) a.vector w (sew-power v) (sew-ge v) (search apart)

-- ---- every plan

abbrev pub PlanContained : Board → Control → Plan → Type 0
PlanContained b c P.Illegal = Unit {0}
PlanContained b c (P.OneTurn t) = one_turn_legal b c t ≡ true → OneTurnContained b.vlenb c.vl t
PlanContained b c (P.Elements e) = operands_fit b.elen e ≡ true → 0 < e.end → ElementsContained b e

pub plan-contained : (b : Board) (x : List ℕ) (c : Control) (i : Instruction) → Valid b → Possible b c → Fits i
    → PlanContained b c (plan_of b x c i)
unfolding plan_of shaped_of permuting_of
plan-contained b x c I.Illegal w t f = tt
plan-contained b x c (I.Setting s) w t f = λ h. tt
plan-contained b x c (I.Mask m) w t f = λ h. t.vl
plan-contained b x c (I.Reduction a) w t f = λ h. (t.vl, reducing-contained b c w t a h)
plan-contained b x c (I.Pack a) w t f = λ h. (t.vl, packing-contained b c w t a h)
plan-contained b x c (I.ScalarMove a) w t f = moving-contained b c w t a
plan-contained b x c (I.Arithmetic a) w t f = λ h l. typed-contained b c.vtype (computing_of x c a) w (computing-typed b x c a t l) h
plan-contained b x c (I.Permutation a) w t f = λ h l. typed-contained b c.vtype (permuting_of b x c a) w (permuting-typed b x c a t l) h
plan-contained b x c (I.Memory a) w t f = mode-contained b x c a w t f a.mode f.mode
