-- The check of a word by the tests of the code: refused, another word, illegal, or the elements of a unit-stride access.
use Rattle.std.specs.Prelude.{Result, Ok, Err, ⊤}
use Prim.Native.Nat.{ℕ, ◌+◌, ◌-◌, ◌*◌, ◌/◌, ◌≤◌, ◌<◌}
use mathlib.Core.Path.{◌≡◌, refl, sym, ap, subst, ◌∙◌}
use mathlib.Core.Bool.{Bool, true, false, ◌||◌}
use mathlib.Core.List.{List}
use mathlib.Core.Logic.{⊎_elim}
use native.Mathlib.Omega.{arith}
use native.Mathlib.Nat.{mul-le-mul_left, mul-le-mul_right, div-mul-le_self}
use native.Mathlib.Decide.{dec_lt}
use lib.ListN.{length}
use lib.Dec.{T, eqb}
use borrow.Author.Tests.{eqb-true}
use Rattle.answer.specs.declared.Answer.{Answer}
use Rattle.answer.specs.declared.Answer.TheVariants.{Illegal}
use Rattle.control.specs.declared.Board.{Board}
use Rattle.control.specs.declared.Control.{Control}
use Rattle.control.specs.Board.{Valid}
use Rattle.control.specs.Vtype.{vlmax_of}
use Rattle.control.proofs.Laws.{Possible, possible-apart}
use Rattle.decode.specs.declared.Access.{Access}
use Rattle.decode.specs.declared.Mode.{Mode}
use Rattle.decode.specs.declared.Mode.TheVariants as M
use Rattle.decode.specs.declared.Instruction.{Instruction}
use Rattle.decode.specs.declared.Instruction.TheVariants as I
use Rattle.decode.specs.Word.{decode_of}
use Rattle.decode.specs.Fields.{ModeFits, AccessFits, Fits}
use Rattle.group.specs.Group.{registers_of, placed_of}
use Rattle.group.proofs.GroupLaws.{placed-facts}
use Rattle.laws.proofs.Apart.{or_cases}
use Rattle.layout.specs.Layout.{byte_size, Inside}
use Rattle.layout.proofs.WidthLaws.{bytes-size}
use Rattle.refusal.specs.Refusal.{refusal_of}
use Rattle.plan.specs.declared.Action.{Action}
use Rattle.plan.specs.declared.Action.TheVariants as A
use Rattle.plan.specs.declared.Transfer.{Transfer}
use Rattle.plan.specs.declared.Elementwise.{Elementwise}
use Rattle.plan.specs.declared.OneTurn.{OneTurn}
use Rattle.plan.specs.declared.Plan.{Plan}
use Rattle.plan.specs.declared.Plan.TheVariants as P
use Rattle.plan.specs.Plan.{moving_of, by_mode, plan_of}
use Rattle.plan.proofs.AccessLaws.{eew-low, whole_le}
use Rattle.legality.specs.Legal.{legal_of, checked_of, operands_fit}
use Rattle.legality.proofs.LegalLaws.{elements-of-legal}
use Rattle.machine.specs.State.{State}
use Rattle.machine.specs.Call.{given}
use Rattle.machine.specs.Effect.{active_of}
use Rattle.machine.proofs.PlanFacts.{legal-at, typed-extent, unit-typed, eew-width}
use Rattle.machine.proofs.Lawful.{elements-fit}
use Rattle.element_loop.specs.Runnable.{Runnable}
use Rattle.element_loop.proofs.LoopLaws.{the_facts, the-sound, next-prepared}
use Rattle.turn.proofs.Turns.{accepted-possible, decoded-fits, illegal-checked, one-turn-planned, elements-planned, elements-runnable}
use Rattle.unit_stride.specs.declared.Checked.{Checked}
use Rattle.access_check.specs.AccessCheck.{is_unit_stride, unit_stride_mode, nothing_tested, access_check_of}
use Rattle.unit_stride.specs.Tested.{Packed, MaskInside, Tested}
use Rattle.access_check.proofs.CheckLaws.{Stepping, refused-check, illegal-check, other-check, tested-check}

-- ---- the action of a plan

pub one-transfer : (a : Action) (t u : Transfer) → a ≡ A.Transfer t → a ≡ A.Transfer u → t ≡ u
one-transfer a t u e f = cc

-- ---- the plan of a unit-stride access

pub record UnitPlan (b : Board) (e : Elementwise) : Type 0 where
  pub transfer : Transfer
  pub stepping : Stepping e transfer
  size : T (byte_size transfer.bytes)
  stride : transfer.stride ≡ transfer.bytes
  -- no more bytes than eight registers have
  short : operands_fit b.elen e ≡ true → e.end * transfer.bytes ≤ 8 * b.vlenb

abbrev pub PlanUnit : Board → Plan → Type 0
PlanUnit b P.Illegal = ⊥
PlanUnit b (P.OneTurn t) = ⊥
PlanUnit b (P.Elements e) = UnitPlan b e

-- elements of so many bits, in bytes
in_bytes : (n eew vlenb : ℕ) → n * eew ≤ 8 * (8 * vlenb) → n * (eew / 8) ≤ 8 * vlenb
in_bytes n eew vlenb l =
    let m : n * (8 * (eew / 8)) ≤ n * eew = mul-le-mul_left n (omega arith) in
    omega arith

module _ (b : Board) (x : List ℕ) (c : Control) (w : Valid b) (t : Possible b c) where
  unit-short : (a : Access) → AccessFits a → operands_fit b.elen (by_mode b x c a M.UnitStride) ≡ true
      → c.vl * (a.eew / 8) ≤ 8 * b.vlenb
  unfolding by_mode moving_of
  unit-short a f h = go (dec_lt 0 c.vl)
    where
      e : Elementwise
      e = by_mode b x c a M.UnitStride

      dest-fits : (eqb e.dest.eew 1 || placed_of b.elen e.dest) ≡ true
      dest-fits = (legal-at b.elen e h).dest

      placed : placed_of b.elen e.dest ≡ true
      placed = ⊎_elim (λ q. absurd (omega (arith, eqb-true a.eew 1 q, eew-low a f))) (λ q. q) (or_cases (eqb a.eew 1) _ dest-fits)

      go : Dec (0 < c.vl) → c.vl * (a.eew / 8) ≤ 8 * b.vlenb
      go (yes l) =
          let y = unit-typed b x c a w t f l in
          let within : vlmax_of b c.vtype * a.eew ≤ registers_of e.dest * (8 * b.vlenb) =
          (typed-extent b c.vtype e w y dest-fits).within in
          let eight : registers_of e.dest ≤ 8 = omega (arith, (placed-facts b.elen e.dest placed).emul-high) in
          in_bytes c.vl a.eew b.vlenb (omega (
            arith,
            mul-le-mul_right a.eew y.end,
            mul-le-mul_right (8 * b.vlenb) eight,
          ))
      go (no l) = let z : c.vl ≡ 0 = omega arith in omega (arith, ap (λ (n : ℕ). n * (a.eew / 8)) z)

  mode-unit : (a : Access) → AccessFits a → (m : Mode) → ModeFits m → unit_stride_mode m a.nf ≡ true → UnitPlan b (by_mode b x c a m)
  unfolding by_mode moving_of
  mode-unit a f M.UnitStride k h =
      let z : a.nf ≡ 0 = eqb-true a.nf 0 h in
      record {
        transfer = _;
        stepping = record { offset = refl; single = z; action = refl };
        size = bytes-size a.eew (eew-width a f) (omega (arith, eew-low a f));
        stride = rw z (omega arith);
        short = unit-short a f;
      }
  mode-unit a f (M.Strided r) k h = absurd (subst T (sym h) tt)
  mode-unit a f (M.Indexed r) k h = absurd (subst T (sym h) tt)
  mode-unit a f M.MaskBytes k h = record {
    transfer = _;
    stepping = record { offset = refl; single = refl; action = refl };
    size = tt;
    stride = refl;
    short = λ q. omega (arith, t.vl, w.some);
  }
  mode-unit a f (M.Whole n) k h = record {
    transfer = _;
    stepping = record { offset = refl; single = refl; action = refl };
    size = bytes-size a.eew (eew-width a f) (omega (arith, eew-low a f));
    stride = refl;
    short = λ q. in_bytes (n * (8 * b.vlenb) / a.eew) a.eew b.vlenb (omega (
      arith,
      div-mul-le_self (n * (8 * b.vlenb)) a.eew,
      mul-le-mul_right (8 * b.vlenb) (whole_le n k),
    ));
  }

  pub plan-unit : (i : Instruction) → Fits i → is_unit_stride i ≡ true → PlanUnit b (plan_of b x c i)
  unfolding plan_of
  plan-unit I.Illegal f h = absurd (subst T (sym h) tt)
  plan-unit (I.Setting s) f h = absurd (subst T (sym h) tt)
  plan-unit (I.Mask m) f h = absurd (subst T (sym h) tt)
  plan-unit (I.Reduction a) f h = absurd (subst T (sym h) tt)
  plan-unit (I.Permutation a) f h = absurd (subst T (sym h) tt)
  plan-unit (I.Pack a) f h = absurd (subst T (sym h) tt)
  plan-unit (I.ScalarMove a) f h = absurd (subst T (sym h) tt)
  plan-unit (I.Arithmetic a) f h = absurd (subst T (sym h) tt)
  plan-unit (I.Memory a) f h = mode-unit a f a.mode f.mode h

-- ---- what the elements rely on

module _ (b : Board) (file x memory rights : List ℕ) (c : Control) (e : Elementwise) (l : Runnable b (given file x memory rights c) e)
    (d : Instruction) (f : Fits d) (p : plan_of b x c d ≡ P.Elements e) (u : is_unit_stride d ≡ true) where
  possible : Possible b c
  possible = possible-apart b c (the_facts b e file x memory rights c 0 l).acceptable.possible

  unit-plan : UnitPlan b e
  unit-plan = subst (PlanUnit b) p (plan-unit b x c l.valid possible d f u)

  few-elements : e.end ≤ 128
  few-elements = omega (arith, (the-sound b e file x memory rights c 0 l).end, l.valid.most)

  early : c.vstart < 128
  early = omega (arith, possible.vstart, l.valid.most)

  few_bytes : (e.end - c.vstart) * unit-plan.transfer.bytes ≤ 128
  few_bytes =
      let n : ℕ = unit-plan.transfer.bytes in
      let rest : (e.end - c.vstart) * n ≤ e.end * n = mul-le-mul_right n (omega arith) in
      let fit = elements-fit b c e (elements-of-legal b c e (the_facts b e file x memory rights c 0 l).legal) in
      omega (arith, rest, unit-plan.short fit, l.valid.most)

  pub is-packed : (t : Transfer) → e.action ≡ A.Transfer t → Packed (length memory) t c.vstart (e.end - c.vstart)
  is-packed t q =
      let a = (the_facts b e file x memory rights c 0 l).acceptable in
      subst (λ (y : Transfer). Packed (length memory) y c.vstart (e.end - c.vstart))
      (one-transfer e.action unit-plan.transfer t unit-plan.stepping.action q)
      (record {
        memory-length = a.memory-length;
        size = unit-plan.size;
        stride = unit-plan.stride;
        few = omega (arith, few-elements, early);
        short = few_bytes;
      })

  mask-inside : MaskInside (length file) b.vlenb c.vstart (e.end - c.vstart)
  mask-inside k m =
      subst (λ (n : ℕ). Inside n b.vlenb 0 1 (c.vstart + k))
      (sym (the_facts b e file x memory rights c 0 l).acceptable.registers-length)
      (next-prepared b e file x memory rights c 0 l (c.vstart + k) (omega arith)).ready.mask

  elements-check : (word : ℕ) (r : Checked) → d ≡ decode_of word
      → ((t : Transfer) → e.action ≡ A.Transfer t
      → Tested (active_of b.vlenb file e.masked) rights (length memory) t c.vstart (e.end - c.vstart) r)
      → r ≡ access_check_of b word (given file x memory rights c)
  elements-check word r k h =
      tested-check b (given file x memory rights c) e unit-plan.transfer unit-plan.stepping l.is-legal
      (omega (arith, few-elements)) word r (ap (plan_of b x c) (sym k) ∙ p) (ap is_unit_stride (sym k) ∙ u)
      (h unit-plan.transfer unit-plan.stepping.action)

-- ---- a word by what the state comes to

module _ (b : Board) (word : ℕ) (file x memory rights : List ℕ) (c : Control) where
  abbrev before : State
  before = given file x memory rights c

  pub refused-word : (v : Result ⊤ Answer) (a : Answer) (r : Checked) → v ≡ refusal_of b (length file) (length x) (length memory) rights c
      → v ≡ Err a → r ≡ nothing_tested a → r ≡ access_check_of b word before
  refused-word v a r q h e = e ∙ refused-check b word before a (sym q ∙ h)

  module _ (v : Result ⊤ Answer) (d : Instruction) (u : Bool)
      (q : v ≡ refusal_of b (length file) (length x) (length memory) rights c) (h : v ≡ Ok tt) (k : d ≡ decode_of word)
      (i : u ≡ is_unit_stride d) where
    pub other_word : (r : Checked) → u ≡ false → r ≡ nothing_tested Illegal → r ≡ access_check_of b word before
    other_word r n e = e ∙ other-check b word before (sym q ∙ h) (ap is_unit_stride (sym k) ∙ sym i ∙ n)

    module _ (n : u ≡ true) (p : Plan) (w : p ≡ checked_of b c (plan_of b x c d)) where
      is-unit : is_unit_stride d ≡ true
      is-unit = sym i ∙ n

      pub illegal-word : (r : Checked) → p ≡ P.Illegal → r ≡ nothing_tested Illegal → r ≡ access_check_of b word before
      illegal-word r f e =
          e ∙ illegal-check b word before (sym q ∙ h)
          (subst (λ (y : Instruction). legal_of b c (plan_of b x c y) ≡ false) k (illegal-checked b c (plan_of b x c d) (sym w ∙ f)))

      -- a unit-stride access does not take one turn
      pub no-one-turn : (r : Checked) (t : OneTurn) → Valid b → Fits d → p ≡ P.OneTurn t → r ≡ access_check_of b word before
      no-one-turn r t g f e =
          let possible = accepted-possible b (length file) (length x) (length memory) rights c v q h in
          absurd (subst (PlanUnit b) (one-turn-planned b x c d p w t e).0 (plan-unit b x c g possible d f is-unit))

      module _ (e : Elementwise) (g : Valid b) (f : p ≡ P.Elements e) where
        runs : Runnable b before e
        runs = elements-runnable b word file x memory rights c v d p q h k w e g f

        planned : plan_of b x c d ≡ P.Elements e
        planned = (elements-planned b x c d p w e f).0

        pub elements-ready :
            ((t : Transfer) → e.action ≡ A.Transfer t → Packed (length memory) t c.vstart (e.end - c.vstart))
            × MaskInside (length file) b.vlenb c.vstart (e.end - c.vstart)
        elements-ready =
            let fits = decoded-fits word d k in (
              is-packed b file x memory rights c e runs d fits planned is-unit,
              mask-inside b file x memory rights c e runs d fits planned is-unit,
            )

        pub elements-word : (r : Checked)
            → ((t : Transfer) → e.action ≡ A.Transfer t
            → Tested (active_of b.vlenb file e.masked) rights (length memory) t c.vstart (e.end - c.vstart) r)
            → r ≡ access_check_of b word before
        elements-word r = elements-check b file x memory rights c e runs d (decoded-fits word d k) planned is-unit word r k
