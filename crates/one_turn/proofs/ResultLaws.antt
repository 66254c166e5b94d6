-- The results that the code leaves are those of the definition, arm by arm.
use Prim.Native.Nat.{ℕ, ◌*◌, ◌≤◌}
use mathlib.Core.Path.{◌≡◌, refl, sym, ap, ◌∙◌, subst}
use mathlib.Core.Bool.{true, not}
use mathlib.Core.List.{List}
use native.Mathlib.Omega.{arith}
use lib.Dec.{T, eqb}
use Rattle.std.specs.Prelude.{Option, Some, None}
use Rattle.laws.proofs.Apart.{both_left, both_right, apart}
use Rattle.control.specs.declared.Board.{Board}
use Rattle.control.specs.declared.Control.{Control}
use Rattle.control.specs.Vtype.{vill, sew_of, supported_of}
use Rattle.control.specs.Control.{with_vstart, set_of}
use Rattle.control.proofs.Laws.{Possible, possible-apart, sew-ge}
use Rattle.decode.specs.declared.Setting.{Setting}
use Rattle.decode.specs.declared.MaskOp.{MaskOp}
use Rattle.decode.specs.declared.MaskInstruction.{MaskInstruction}
use Rattle.decode.specs.declared.Instruction.{Instruction}
use Rattle.decode.specs.declared.Instruction.TheVariants as I
use Rattle.decode.specs.Fields.{SettingFits}
use Rattle.layout.specs.Layout.{Inside}
use Rattle.plan.specs.declared.Reduction.{Reduction}
use Rattle.plan.specs.declared.Packing.{Packing}
use Rattle.plan.specs.declared.ScalarMove.{ScalarMove}
use Rattle.plan.specs.declared.OneTurn.{OneTurn}
use Rattle.plan.specs.declared.OneTurn.TheVariants as O
use Rattle.plan.specs.declared.Plan.{Plan}
use Rattle.plan.specs.declared.Plan.TheVariants as P
use Rattle.plan.specs.Plan.{scalar_moving_of, plan_of}
use Rattle.plan.specs.Range.{OneTurnFits, PlanFits}
use Rattle.plan.proofs.RangeLaws.{plan-range}
use Rattle.legality.specs.Legal.{startable, mask_apart, one_turn_legal}
use Rattle.machine.specs.State.{Core}
use Rattle.machine.specs.OneTurn.{with_scalar, avl_from, type_from, setting_result, mask_result, reduced_file, packed_file}
use Rattle.machine.specs.OneTurn.{scalar_move_result}
use Rattle.machine.specs.OneTurn.{one_turn_result}
use Rattle.machine.proofs.Geometry.{sew-power, register-inside}
use Rattle.machine.proofs.PlanFacts.{typed-supported}
use Rattle.execute.specs.Step.{core_at}
use Rattle.reduction.specs.Reducible.{Reducible}
use Rattle.reduction.proofs.Reductions.{reducible}
use Rattle.packing.specs.Packable.{Packable}
use Rattle.packing.proofs.Packings.{packable}
use Rattle.one_turn.specs.Holds.{Holds, Movable}
use Rattle.one_turn.specs.Performable.{Performable}

-- ---- in the arm of the variant v of a mask instruction

pub result_by : (vlenb vl : ℕ) (m : MaskInstruction) (s r : Core) (op v : MaskOp) → op ≡ v → r ≡ mask_result vlenb vl m s v
    → r ≡ mask_result vlenb vl m s op
result_by vlenb vl m s r op v e p = rw e p

pub scalar-left : (file memory x x' : List ℕ) (c : Control) (rd z z' : ℕ) → x' ≡ with_scalar x rd z → z ≡ z'
    → core_at file memory x' c ≡ core_at file memory (with_scalar x rd z') c
scalar-left file memory x x' c rd z z' p e = rw (p, e)

pub registers-left : (file file' memory x : List ℕ) (c : Control) → file' ≡ file → core_at file' memory x c ≡ core_at file memory x c
registers-left file file' memory x c p = rw p

pub ruleset left = (result_by, scalar-left, registers-left)

-- ---- the vector register of a scalar move has elements of SEW bits

abbrev PlanMove : ℕ → Plan → Type 0
PlanMove v P.Illegal = Unit {0}
PlanMove v (P.OneTurn (O.Setting s)) = Unit {0}
PlanMove v (P.OneTurn (O.Mask m)) = Unit {0}
PlanMove v (P.OneTurn (O.Reduction r)) = Unit {0}
PlanMove v (P.OneTurn (O.Packing p)) = Unit {0}
PlanMove v (P.OneTurn (O.ScalarMove m)) = m.vector.eew ≡ sew_of v
PlanMove v (P.Elements e) = Unit {0}

every-move : (b : Board) (x : List ℕ) (c : Control) (i : Instruction) → PlanMove c.vtype (plan_of b x c i)
unfolding plan_of scalar_moving_of
every-move b x c I.Illegal = tt
every-move b x c (I.Setting s) = tt
every-move b x c (I.Mask m) = tt
every-move b x c (I.Reduction a) = tt
every-move b x c (I.Pack a) = tt
every-move b x c (I.ScalarMove a) = refl
every-move b x c (I.Arithmetic a) = tt
every-move b x c (I.Permutation a) = tt
every-move b x c (I.Memory a) = tt

-- where vill is clear, at most ELEN
typed-sew : (b : Board) (c : Control) → Possible b c → not (eqb c.vtype vill) ≡ true → sew_of c.vtype ≤ b.elen
unfolding supported_of
typed-sew b c t n = let s = (typed-supported b c t n).0 in search apart

-- ---- in the arm of an instruction that takes one turn

module _ (b : Board) (size : ℕ) (x : List ℕ) (c : Control) (t : OneTurn) (h : Performable b size x c t) where
  one-turn-in-range : OneTurnFits t
  one-turn-in-range = subst PlanFits h.plan (plan-range b x c h.word h.fits)

  can-be : Possible b c
  can-be = possible-apart b c h.possible

  is-legal : (u : OneTurn) → t ≡ u → one_turn_legal b c u ≡ true
  is-legal u e = subst (λ (u : OneTurn). one_turn_legal b c u ≡ true) e h.is-legal

  pub setting-fits : (s : Setting) → t ≡ O.Setting s → SettingFits s
  setting-fits s e = subst OneTurnFits e one-turn-in-range

  pub mask-holds : (m : MaskInstruction) → t ≡ O.Mask m → Holds size b.vlenb c.vl m
  mask-holds m e =
      record { whole = h.registers; most = h.valid.most; within = can-be.vl; fits = subst OneTurnFits e one-turn-in-range }

  pub mask-is-apart : (m : MaskInstruction) → t ≡ O.Mask m → T (mask_apart m)
  unfolding one_turn_legal
  mask-is-apart m e =
      rw (both_right (eqb c.vstart 0) (mask_apart m) (both_right (startable b c) _ (is-legal (O.Mask m) e))) tt

  pub reduction-holds : (r : Reduction) → t ≡ O.Reduction r → Reducible size b.vlenb r c.vl
  reduction-holds r e =
      rw h.registers (reducible b c h.valid can-be x h.word r h.fits (h.plan ∙ ap P.OneTurn e) (is-legal (O.Reduction r) e))

  pub packing-holds : (p : Packing) → t ≡ O.Packing p → Packable size b.vlenb p c.vl
  packing-holds p e =
      rw h.registers (packable b c h.valid can-be x h.word p h.fits (h.plan ∙ ap P.OneTurn e) (is-legal (O.Packing p) e))

  pub move-holds : (m : ScalarMove) → t ≡ O.ScalarMove m → Movable size b.vlenb m
  unfolding one_turn_legal
  move-holds m e =
      let f : OneTurnFits (O.ScalarMove m) = subst OneTurnFits e one-turn-in-range in
      let w : m.vector.eew ≡ sew_of c.vtype =
      subst (PlanMove c.vtype) (h.plan ∙ ap P.OneTurn e) (every-move b x c h.word) in
      let s : sew_of c.vtype ≤ b.elen = typed-sew b c can-be (both_left (not (eqb c.vtype vill)) _ (is-legal (O.ScalarMove m) e)) in
      record {
        scalar = f.scalar;
        width = record { some = omega (arith, w, sew-ge c.vtype); most = omega (arith, w, s, h.valid.elen) };
        element = rw h.registers (subst (λ n. Inside (32 * b.vlenb) b.vlenb m.vector.reg n 0) (sym w)
            (register-inside b (sew_of c.vtype) m.vector.reg h.valid (sew-power c.vtype) (sew-ge c.vtype) s f.vector));
      }

-- a setting instruction takes nothing from vstart
set-any-vstart : (b : Board) (c : Control) (v vtype : ℕ) (avl : Option ℕ) → set_of b (with_vstart c v) vtype avl ≡ set_of b c vtype avl
unfolding set_of
set-any-vstart b c v vtype (Some n) = refl
set-any-vstart b c v vtype None = refl

pub setting-left : (b : Board) (t : OneTurn) (s : Setting) (file x x' : List ℕ) (c r : Control) → t ≡ O.Setting s
    → r ≡ set_of b c (type_from x s.vtype) (avl_from x s.avl) → x' ≡ with_scalar x s.rd r.vl → (memory : List ℕ)
    → core_at file memory x' r ≡ one_turn_result b t c.vstart (core_at file memory x (with_vstart c 0))
unfolding one_turn_result setting_result
setting-left b t s file x x' c r e p q memory =
    let h : r ≡ set_of b (with_vstart c 0) (type_from x s.vtype) (avl_from x s.avl) =
    p ∙ sym (set-any-vstart b c 0 (type_from x s.vtype) (avl_from x s.avl)) in
    rw (e, q, h)

-- what is left where the arms meet: the file z and the scalars y
pub mask-left : (b : Board) (t : OneTurn) (m : MaskInstruction) (file file' x x' z y : List ℕ) (c r : Control) → t ≡ O.Mask m
    → r ≡ with_vstart c 0
    → ((memory : List ℕ) (d : Control) → core_at file' memory x' d ≡ mask_result b.vlenb c.vl m (core_at file memory x d) m.op)
    → z ≡ file' → y ≡ x'
    → (memory : List ℕ) → core_at z memory y r ≡ one_turn_result b t c.vstart (core_at file memory x (with_vstart c 0))
unfolding one_turn_result
mask-left b t m file file' x x' z y c r e p h q u memory = rw (e, p, q, u) (h memory (with_vstart c 0))

pub reduction-left : (b : Board) (t : OneTurn) (r : Reduction) (file file' x z y : List ℕ) (c d : Control) → t ≡ O.Reduction r
    → d ≡ with_vstart c 0 → file' ≡ reduced_file b.vlenb file r c.vl
    → z ≡ file' → y ≡ x
    → (memory : List ℕ) → core_at z memory y d ≡ one_turn_result b t c.vstart (core_at file memory x (with_vstart c 0))
unfolding one_turn_result
reduction-left b t r file file' x z y c d e p h q u memory = rw (e, p, q, u, h)

pub packing-left : (b : Board) (t : OneTurn) (p : Packing) (file file' x z y : List ℕ) (c d : Control) → t ≡ O.Packing p
    → d ≡ with_vstart c 0 → file' ≡ packed_file b.vlenb file p c.vl
    → z ≡ file' → y ≡ x
    → (memory : List ℕ) → core_at z memory y d ≡ one_turn_result b t c.vstart (core_at file memory x (with_vstart c 0))
unfolding one_turn_result
packing-left b t p file file' x z y c d e q h r u memory = rw (e, q, r, u, h)

pub move-left : (b : Board) (t : OneTurn) (m : ScalarMove) (file file' x x' z y : List ℕ) (c d : Control) → t ≡ O.ScalarMove m
    → d ≡ with_vstart c 0
    → ((memory : List ℕ) → core_at file' memory x' (with_vstart c 0)
    ≡ scalar_move_result b.vlenb m c.vstart (core_at file memory x (with_vstart c 0)) m.op)
    → z ≡ file' → y ≡ x'
    → (memory : List ℕ) → core_at z memory y d ≡ one_turn_result b t c.vstart (core_at file memory x (with_vstart c 0))
unfolding one_turn_result
move-left b t m file file' x x' z y c d e q h r u memory = rw (e, q, r, u) (h memory)
