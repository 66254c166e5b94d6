-- An element below the end of a legal instruction lies inside the register file, and its operands are such as its operation takes.
use Prim.Native.Nat.{ℕ, ◌+◌, ◌*◌, ◌/◌, ◌^◌, ◌≤◌, ◌<◌}
use mathlib.Core.Path.{◌≡◌, refl, sym, ap, subst}
use mathlib.Core.Logic.{⊎_elim}
use mathlib.Core.Bool.{Bool, true, not, ◌||◌, cond}
use mathlib.Core.List.{List}
use native.Mathlib.Omega.{arith}
use native.Mathlib.Nat.{div-mul-le_self}
use lib.Dec.{T, eqb, lit<}
use borrow.Author.Tests.{eqb-true, leb-true}
use Rattle.laws.proofs.Apart.{both_left, or_cases}
use Rattle.laws.proofs.Chain.{either}
use Rattle.operation.specs.declared.Size.{Size}
use Rattle.operation.specs.declared.Size.TheVariants.{Absent, Bit, Eighth, Quarter, Half, Single, Double}
use Rattle.operation.specs.Shape.{eew_of, shape_of, largest_sew}
use Rattle.control.specs.declared.Board.{Board}
use Rattle.control.specs.declared.Control.{Control}
use Rattle.control.specs.Board.{Valid}
use Rattle.control.specs.Vtype.{sew_of, vlmax_of}
use Rattle.control.proofs.Laws.{Possible, sew-ge, supported-sew-le, vlmax-le}
use Rattle.decode.specs.declared.Instruction.{Instruction}
use Rattle.decode.specs.declared.Instruction.TheVariants as I
use Rattle.decode.specs.declared.Arithmetic.{Arithmetic}
use Rattle.decode.specs.declared.PermutationInstruction.{PermutationInstruction}
use Rattle.decode.specs.declared.Access.{Access}
use Rattle.decode.specs.declared.Mode.{Mode}
use Rattle.decode.specs.declared.Mode.TheVariants as M
use Rattle.decode.specs.declared.Source.{Source}
use Rattle.decode.specs.declared.Source.TheVariants.{Vector, Scalar, Immediate}
use Rattle.decode.specs.Fields.{ArithmeticFits, AccessFits, ModeFits, SizeFits, Fits}
use Rattle.layout.specs.Layout.{element_width, Inside}
use Rattle.layout.proofs.WidthLaws.{bytes-size}
use Rattle.layout.proofs.BytesLaws.{Bytes}
use Rattle.layout.proofs.ElementLaws.{element-lt}
use Rattle.group.specs.declared.Group.{Group}
use Rattle.group.specs.Group.{registers_of, field_group, span_of, placed_of}
use Rattle.group.proofs.GroupLaws.{placed-facts, fields-before}
use Rattle.plan.specs.declared.Read.{Read}
use Rattle.plan.specs.declared.Read.TheVariants as R
use Rattle.plan.specs.declared.Transfer.{Transfer}
use Rattle.plan.specs.declared.Elementwise.{Elementwise}
use Rattle.plan.specs.declared.Plan.{Plan}
use Rattle.plan.specs.declared.Plan.TheVariants as P
use Rattle.plan.specs.Plan.{groups_at, register_at, read_at, second_of, shaped_of, computing_of, moving_of, by_mode, plan_of}
use Rattle.plan.specs.Plan.{permuting_of}
use Rattle.legality.specs.Legal.{overlap_fits, read_fits, writes_registers, is_strict, operands_fit, is_there}
use Rattle.plan.specs.Range.{ReadInRange, InRange, PlanFits}
use Rattle.plan.proofs.AccessLaws.{one_of, eew-low}
use Rattle.plan.proofs.RangeLaws.{plan-range, vs1-constant}
use Rattle.machine.specs.Effect.{value_of}
use Rattle.machine.proofs.Geometry.{placed-extent, inside, bit-inside}
use Rattle.machine.proofs.PlanFacts.{Operand, constant, bit, element, OfV0, unused, used, Typed, typed-extent, legal-at, computing-typed}
use Rattle.machine.proofs.PlanFacts.{permuting-typed}
use Rattle.machine.proofs.PlanFacts.{mode-end, unit-typed, strided-typed, indexed-typed, eew-width}
use Rattle.execute.specs.Step.{FieldsInside, Ready, ReadInside, ActionFits}
use Rattle.execute.proofs.StepLaws.{first-inside}

-- ---- where elements lie

-- of each field
each-inside : (vlenb end : ℕ) (g : Group) (k : ℕ) → T (element_width g.eew) → end * g.eew ≤ registers_of g * (8 * vlenb)
    → g.reg + span_of g ≤ 32
    → k < end → FieldsInside (32 * vlenb) vlenb g k
each-inside vlenb end g k t m u l f h = inside vlenb end (field_group g f) k t m (omega (arith, fields-before g f h)) l

v0-inside : (vlenb : ℕ) (r : Read) (k : ℕ) → OfV0 r → k < 8 * vlenb → ReadInside (32 * vlenb) vlenb r k
unfolding ReadInside
v0-inside vlenb _ k unused l = tt
v0-inside vlenb _ k used l = bit-inside vlenb 0 k (lit< tt) l

read-inside : (b : Board) (v : ℕ) (e : Elementwise) (writes strict : Bool) (r : Read) (k : ℕ) → Valid b → Typed b v e → k < vlmax_of b v
    → Operand v r → read_fits b.elen writes strict e.dest r ≡ true
    → ReadInRange r → ReadInside (32 * b.vlenb) b.vlenb r k
unfolding ReadInside read_fits
read-inside b v e writes strict _ k w y l (constant n) t u = tt
read-inside b v e writes strict _ k w y l (bit reg) t u = bit-inside b.vlenb reg k u (omega (arith, vlmax-le b v))
read-inside b v e writes strict _ k w y l (element eew reg nf p z) t u =
    let g : Group = groups_at v eew reg nf in
    let x = placed-extent b v w y.supported eew p reg nf
    (both_left (placed_of b.elen g) (not writes || overlap_fits strict e.dest g) t) in
    first-inside (32 * b.vlenb) b.vlenb g k (each-inside b.vlenb (vlmax_of b v) g k x.width x.within (x.ends u) l)

typed-ready : (b : Board) (v : ℕ) (e : Elementwise) (k : ℕ) → Valid b → Typed b v e → operands_fit b.elen e ≡ true → InRange e
    → k < e.end → Ready (32 * b.vlenb) b.vlenb e k
typed-ready b v e k w y h u l =
    let f = legal-at b.elen e h in
    let x = typed-extent b v e w y f.dest in
    let most : k < vlmax_of b v = omega (arith, y.end) in
    let bits : k < 8 * b.vlenb = omega (arith, vlmax-le b v) in
    let read : (r : Read) → Operand v r → read_fits b.elen (writes_registers e.action) (is_strict e.action) e.dest r ≡ true
    → ReadInRange r → ReadInside (32 * b.vlenb) b.vlenb r k =
    λ r. read-inside b v e (writes_registers e.action) (is_strict e.action) r k w y most in
    record {
      dest = each-inside b.vlenb (vlmax_of b v) e.dest k x.width x.within (x.ends u.dest) most;
      ends = x.ends u.dest;
      vs2 = read e.vs2 y.vs2 f.vs2 u.vs2;
      vs1 = read e.vs1 y.vs1 f.vs1 u.vs1;
      vd = read e.vd y.vd f.vd u.vd;
      v0 = v0-inside b.vlenb e.v0 k y.v0 bits;
      mask = bit-inside b.vlenb 0 k (lit< tt) bits;
    }

-- ---- loads and stores

-- of registers whatever the vtype
if-inside : (size vlenb : ℕ) (t : Bool) (g : Group) (k : ℕ) → Inside size vlenb g.reg g.eew k
    → ReadInside size vlenb (cond t (R.Element g) (R.Constant 0)) k
unfolding ReadInside
if-inside size vlenb t g k h = either (λ r. ReadInside size vlenb r k) t (R.Element g) (R.Constant 0) (λ e. h) (λ e. tt)

alone-ready : (b : Board) (a : Access) (typed : Bool) (g : Group) (z : Transfer) (end k : ℕ) → T (element_width g.eew)
    → end * g.eew ≤ registers_of g * (8 * b.vlenb) → g.reg + span_of g ≤ 32 → k < end → k < 8 * b.vlenb
    → Ready (32 * b.vlenb) b.vlenb (moving_of a typed g (R.Constant 0) z end) k
unfolding moving_of ReadInside
alone-ready b a typed g z end k t m u l o = let lies = each-inside b.vlenb end g k t m u l in record {
  dest = lies;
  ends = u;
  vs2 = tt;
  vs1 = tt;
  vd = if-inside _ _ z.store g k (first-inside _ _ g k lies);
  v0 = tt;
  mask = bit-inside b.vlenb 0 k (lit< tt) o;
}

module _ (b : Board) (x : List ℕ) (c : Control) (a : Access) (w : Valid b) (t : Possible b c) (f : AccessFits a) (k : ℕ) where
  whole_ready : (n : ℕ) → ModeFits (M.Whole n) → operands_fit b.elen (by_mode b x c a (M.Whole n)) ≡ true
      → k < (by_mode b x c a (M.Whole n)).end → k < 8 * b.vlenb → Ready (32 * b.vlenb) b.vlenb (by_mode b x c a (M.Whole n)) k
  unfolding by_mode moving_of
  whole_ready n m h l o =
      let g : Group = record { reg = a.vd; eew = a.eew; emul8 = 8 * n; nf = 0 } in
      let some : 1 ≤ n = one_of (λ i. 1 ≤ i) 1 2 4 8 (omega arith) (omega arith) (omega arith) (omega arith) n m in
      let all : registers_of g ≡ n = omega arith in
      let placed : placed_of b.elen g ≡ true =
      ⊎_elim (λ e. absurd (omega (arith, eqb-true a.eew 1 e, eew-low a f))) (λ q. q)
      (or_cases (eqb a.eew 1) _ (legal-at b.elen (by_mode b x c a (M.Whole n)) h).dest) in
      alone-ready b a _ g _ (n * (8 * b.vlenb) / a.eew) k (eew-width a f)
      (omega (arith, div-mul-le_self (n * (8 * b.vlenb)) a.eew, ap (λ (i : ℕ). i * (8 * b.vlenb)) all))
      (placed-facts b.elen g placed).ends l o

  mode-ready : (m : Mode) → ModeFits m → InRange (by_mode b x c a m) → operands_fit b.elen (by_mode b x c a m) ≡ true
      → k < (by_mode b x c a m).end → k < 8 * b.vlenb → Ready (32 * b.vlenb) b.vlenb (by_mode b x c a m) k
  unfolding by_mode moving_of
  mode-ready M.UnitStride n u h l o = typed-ready b c.vtype _ k w (unit-typed b x c a w t f (omega arith)) h u l
  mode-ready (M.Strided r) n u h l o = typed-ready b c.vtype _ k w (strided-typed b x c a w t f r (omega arith)) h u l
  mode-ready (M.Indexed r) n u h l o = typed-ready b c.vtype _ k w (indexed-typed b x c a w t f r (omega arith)) h u l
  mode-ready M.MaskBytes n u h l o =
      let g : Group = register_at 8 a.vd in
      alone-ready b a _ g _ _ k tt (omega (arith, t.vl)) (omega (arith, f.vd)) l o
  mode-ready (M.Whole r) n u h l o = whole_ready r n h l o

-- ---- what the operands of an operation hold

read-lt : (vlenb : ℕ) (file : List ℕ) (v : ℕ) (z : Size) (reg k : ℕ) → Bytes file
    → value_of vlenb file (read_at v z reg) k < 2 ^ eew_of z (sew_of v)
unfolding value_of read_at
read-lt vlenb file v Absent reg k y = lit< tt
read-lt vlenb file v Bit reg k y = element-lt vlenb file reg 1 k y
read-lt vlenb file v Eighth reg k y = element-lt vlenb file reg (sew_of v / 8) k y
read-lt vlenb file v Quarter reg k y = element-lt vlenb file reg (sew_of v / 4) k y
read-lt vlenb file v Half reg k y = element-lt vlenb file reg (sew_of v / 2) k y
read-lt vlenb file v Single reg k y = element-lt vlenb file reg (sew_of v) k y
read-lt vlenb file v Double reg k y = element-lt vlenb file reg (2 * sew_of v) k y

-- a number in place of a vector
number_lt : (v n : ℕ) (z : Size) → z ≡ Single → n < 2 ^ sew_of v → n < 2 ^ eew_of z (sew_of v)
number_lt v n z e = subst (λ (y : Size). n < 2 ^ sew_of v → n < 2 ^ eew_of y (sew_of v)) (sym e) (λ h. h)

second_lt : (vlenb : ℕ) (file x : List ℕ) (v : ℕ) (z : Size) (unsigned : Bool) (s : Source) (k : ℕ) → Bytes file → SizeFits z s
    → ((n : ℕ) → second_of x v z unsigned s ≡ R.Constant n → n < 2 ^ sew_of v)
    → value_of vlenb file (second_of x v z unsigned s) k < 2 ^ eew_of z (sew_of v)
unfolding value_of second_of
second_lt vlenb file x v z unsigned (Vector r) k y e h = read-lt vlenb file v z r k y
second_lt vlenb file x v z unsigned (Scalar r) k y e h = number_lt v _ z e (h _ refl)
second_lt vlenb file x v z unsigned (Immediate n) k y e h = number_lt v _ z e (h _ refl)

v0-lt : (vlenb : ℕ) (file : List ℕ) (r : Read) (k : ℕ) → Bytes file → OfV0 r → value_of vlenb file r k < 2
unfolding value_of
v0-lt vlenb file _ k y unused = lit< tt
v0-lt vlenb file _ k y used = element-lt vlenb file 0 1 k y

computing-fits : (b : Board) (x : List ℕ) (c : Control) (a : Arithmetic) → Typed b c.vtype (computing_of x c a) → ArithmeticFits a
    → is_there (computing_of x c a).action ≡ true → (file : List ℕ) → Bytes file → (k : ℕ)
    → ActionFits b.vlenb file (computing_of x c a) k (computing_of x c a).action
unfolding shaped_of ActionFits
computing-fits b x c a y f t file u k =
    let s = shape_of a.op in
    record {
      least = sew-ge c.vtype;
      most = leb-true (sew_of c.vtype) (largest_sew a.op) t;
      vs2-fits = read-lt b.vlenb file c.vtype s.vs2 a.vs2 k u;
      vs1-fits = second_lt b.vlenb file x c.vtype s.vs1 s.unsigned a.source k u f.size (λ n e. vs1-constant x c a n f e);
      v0-fits = v0-lt b.vlenb file (computing_of x c a).v0 k u y.v0;
    }

-- ---- what a permutation reads

permuting-fits : (b : Board) (x : List ℕ) (c : Control) (a : PermutationInstruction) (k : ℕ) → Valid b
    → Typed b c.vtype (permuting_of b x c a) → operands_fit b.elen (permuting_of b x c a) ≡ true → InRange (permuting_of b x c a)
    → k < c.vl → (file : List ℕ) → ActionFits b.vlenb file (permuting_of b x c a) k (permuting_of b x c a).action
unfolding permuting_of ActionFits
permuting-fits b x c a k w y h u l file =
    let e : Elementwise = permuting_of b x c a in
    let v : ℕ = c.vtype in
    let f = legal-at b.elen e h in
    record {
      width = record { some = omega (arith, sew-ge v); most = supported-sew-le b v w y.supported };
      here = omega (arith, y.end);
      most = omega (arith, vlmax-le b v, w.most);
      elements = λ j m. read-inside b v e true (is_strict e.action) e.vs2 j w y m y.vs2 f.vs2 u.vs2;
    }

-- ---- the size of an element that is moved

mode-fits : (b : Board) (x : List ℕ) (c : Control) (a : Access) (m : Mode) (file : List ℕ) (k : ℕ) → AccessFits a
    → T (element_width (by_mode b x c a m).dest.eew) → ActionFits b.vlenb file (by_mode b x c a m) k (by_mode b x c a m).action
unfolding by_mode moving_of ActionFits
mode-fits b x c a M.UnitStride file k f t = bytes-size a.eew t (omega (arith, eew-low a f))
mode-fits b x c a (M.Strided r) file k f t = bytes-size a.eew t (omega (arith, eew-low a f))
mode-fits b x c a (M.Indexed r) file k f t = bytes-size (sew_of c.vtype) t (omega (arith, sew-ge c.vtype))
mode-fits b x c a M.MaskBytes file k f t = tt
mode-fits b x c a (M.Whole n) file k f t = bytes-size a.eew t (omega (arith, eew-low a f))

-- ---- the plan of a decoded word

-- an element below the end of a plan whose operands fit
pub record Prepared (b : Board) (e : Elementwise) (k : ℕ) : Type 0 where
  pub ready : Ready (32 * b.vlenb) b.vlenb e k
  pub action : (file : List ℕ) → Bytes file → ActionFits b.vlenb file e k e.action

abbrev PlanPrepared : Board → ℕ → Plan → Type 0
PlanPrepared b k P.Illegal = Unit {0}
PlanPrepared b k (P.OneTurn t) = Unit {0}
PlanPrepared b k (P.Elements e) = is_there e.action ≡ true → operands_fit b.elen e ≡ true → k < e.end → Prepared b e k

module _ (b : Board) (x : List ℕ) (c : Control) (w : Valid b) (t : Possible b c) (k : ℕ) where
  computing-prepared : (a : Arithmetic) → ArithmeticFits a → InRange (computing_of x c a)
      → PlanPrepared b k (P.Elements (computing_of x c a))
  computing-prepared a f u q h l =
      let y = computing-typed b x c a t (omega arith) in
      record { ready = typed-ready b c.vtype (computing_of x c a) k w y h u l; action = λ file z. computing-fits b x c a y f q file z k }

  permuting-prepared : (a : PermutationInstruction) → InRange (permuting_of b x c a) → PlanPrepared b k (P.Elements (permuting_of b x c a))
  unfolding permuting_of
  permuting-prepared a u q h l =
      let y = permuting-typed b x c a t (omega arith) in
      record {
        ready = typed-ready b c.vtype (permuting_of b x c a) k w y h u l;
        action = λ file z. permuting-fits b x c a k w y h u l file;
      }

  moving-prepared : (a : Access) → AccessFits a → InRange (by_mode b x c a a.mode)
      → PlanPrepared b k (P.Elements (by_mode b x c a a.mode))
  moving-prepared a f u q h l =
      let r = mode-ready b x c a w t f k a.mode f.mode u h l (omega (arith, mode-end b x c a w t f a.mode f.mode)) in
      record { ready = r; action = λ file z. mode-fits b x c a a.mode file k f (r.dest 0 (omega arith)).width }

  every-plan : (i : Instruction) → Fits i → PlanFits (plan_of b x c i) → PlanPrepared b k (plan_of b x c i)
  unfolding plan_of
  every-plan I.Illegal f u = tt
  every-plan (I.Setting s) f u = tt
  every-plan (I.Mask m) f u = tt
  every-plan (I.Reduction a) f u = tt
  every-plan (I.Pack a) f u = tt
  every-plan (I.ScalarMove a) f u = tt
  every-plan (I.Arithmetic a) f u = computing-prepared a f u
  every-plan (I.Permutation a) f u = permuting-prepared a u
  every-plan (I.Memory a) f u = moving-prepared a f u

  pub prepared : (i : Instruction) (e : Elementwise) → Fits i → plan_of b x c i ≡ P.Elements e → is_there e.action ≡ true
      → operands_fit b.elen e ≡ true → k < e.end → Prepared b e k
  prepared i e f q = subst (PlanPrepared b k) q (every-plan i f (plan-range b x c i f))
