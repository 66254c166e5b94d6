-- From a plan to the stretch by which a kernel runs it.
use Prim.Native.Nat.{ℕ, ◌+◌, ◌-◌, ◌*◌, ◌/◌, ◌≤◌, ◌<◌}
use mathlib.Core.Path.{◌≡◌, sym, refl, ap, subst, ◌∙◌}
use mathlib.Core.Bool.{true, false}
use mathlib.Core.List.{List}
use native.Mathlib.Omega.{arith}
use lib.Dec.{T}
use Rattle.fixed.specs.declared.Vxrm.TheVariants.{Rnu}
use Rattle.operation.specs.declared.Op.{Op}
use Rattle.alu.specs.Element.{element_of}
use Rattle.control.specs.declared.Board.{Board}
use Rattle.control.specs.declared.Control.{Control}
use Rattle.layout.specs.Layout.{bytes_at, element_width, Inside}
use Rattle.layout.proofs.WidthLaws.{whole-bytes, bytes-size}
use Rattle.layout.proofs.ElementLaws.{bytes-room, at-several}
use Rattle.plan.specs.declared.Read.{Read}
use Rattle.plan.specs.declared.Read.TheVariants as R
use Rattle.plan.specs.declared.Compute.{Compute}
use Rattle.plan.specs.declared.Elementwise.{Elementwise}
use Rattle.machine.specs.Effect.{value_of}
use Rattle.execute.specs.Step.{ReadInside, Ready, core_at, Attempted, done}
use Rattle.execute.proofs.StepLaws.{first-inside}
use Rattle.kernel.specs.declared.Stretch.{Stretch}
use Rattle.kernel.specs.declared.Kernelled.{Kernelled}
use Rattle.kernel.specs.Kernel.{operation_at, start_of, source_of, second_at, SourceInside, lane_of, Swept, Placed}
use Rattle.kernel.specs.Kernel.{Elements, elements, ElementsOrScalar, vector, scalar, SingleWidth, Computable}
use Rattle.kernel.proofs.KernelLaws.{Plain, plain}

-- ---- an operand

module _ (size vlenb : ℕ) where
  -- where it begins
  read-start : (i : ℕ) (r : Read) → ReadInside size vlenb r i → start_of vlenb r ≤ size
  unfolding ReadInside
  read-start i (R.Constant x) h = omega arith
  read-start i (R.Element g) h = omega (arith, h.within)
  read-start i (R.Bit reg) h = omega (arith, h.within)

  module _ (n i : ℕ) (many : 8 * n ≡ 1 → ⊥) where
    room : (reg : ℕ) → Inside size vlenb reg (8 * n) i → vlenb * reg + i * n + n ≤ size
    room reg h = let q : 8 * n / 8 ≡ n = omega arith in rw q at (bytes-room h many)

    elements-room : (r : Read) → Elements (8 * n) r → ReadInside size vlenb r i → start_of vlenb r + i * n + n ≤ size
    unfolding ReadInside
    elements-room _ (elements g p) h = room g.reg (subst (λ (w : ℕ). Inside size vlenb g.reg w i) p h)

    source-inside : (r : Read) → ElementsOrScalar (8 * n) r → ReadInside size vlenb r i
        → SourceInside size (source_of vlenb r) n (i * n)
    source-inside _ (vector _ (elements g p)) h = elements-room (R.Element g) (elements g p) h
    source-inside _ (scalar x) h = tt

  elements-value : (n i : ℕ) (file : List ℕ) (r : Read) → Elements (8 * n) r
      → value_of vlenb file r i ≡ bytes_at file (start_of vlenb r + i * n) n
  unfolding value_of
  elements-value n i file _ (elements g p) = rw p (at-several vlenb file g.reg n i)

  source-value : (n i : ℕ) (file : List ℕ) (r : Read) → ElementsOrScalar (8 * n) r
      → value_of vlenb file r i ≡ second_at file (source_of vlenb r) n (i * n)
  unfolding value_of
  source-value n i file _ (vector _ (elements g p)) = elements-value n i file (R.Element g) (elements g p)
  source-value n i file _ (scalar x) = refl

-- ---- a plan

same-lane : (w w' a a' b b' d : ℕ) (o o' : Op) → w ≡ w' → a ≡ a' → b ≡ b' → o ≡ o'
    → element_of w Rnu a b d 0 o ≡ element_of w' Rnu a' b' d 0 o'
same-lane w w' a a' b b' d o o' e f g h = rw (e, f, g, h)

module _ (size vlenb : ℕ) (e : Elementwise) (k : Compute) (from end : ℕ) (h : Computable size vlenb e k from end)
    (unmasked : e.masked ≡ false) (some : from < end) where
  abbrev n : ℕ
  n = k.sew / 8

  first-ready : Ready size vlenb e from
  first-ready = h.ready from (omega arith) some

  pub vd-start : vlenb * e.dest.reg ≤ size
  vd-start = omega (arith, (first-inside size vlenb e.dest from first-ready.dest).within)

  pub vs2-start : start_of vlenb e.vs2 ≤ size
  vs2-start = read-start size vlenb from e.vs2 first-ready.vs2

  pub vs1-start : start_of vlenb e.vs1 ≤ size
  vs1-start = read-start size vlenb from e.vs1 first-ready.vs1

  abbrev s : Stretch
  s =
      record {
        vd = vlenb * e.dest.reg;
        vs2 = start_of vlenb e.vs2;
        vs1 = source_of vlenb e.vs1;
        from = from;
        end = end;
      }

  module _ (o : Kernelled) (is-operation : k.op ≡ operation_at o) where
    single : SingleWidth e k
    single = h.single o some is-operation

    dest-inside : (i : ℕ) → from ≤ i → i < end → Inside size vlenb e.dest.reg k.sew i
    dest-inside i l m =
        subst (λ (w : ℕ). Inside size vlenb e.dest.reg w i) single.dest (first-inside size vlenb e.dest i (h.ready i l m).dest)

    width : T (element_width k.sew)
    width = (dest-inside from (omega arith) some).width

    wide : k.sew ≡ 1 → ⊥
    wide z = omega (arith, single.least)

    in_bytes : k.sew ≡ 8 * n
    in_bytes = whole-bytes k.sew width wide

    many : 8 * n ≡ 1 → ⊥
    many z = wide (in_bytes ∙ z)

    vs2-single : Elements (8 * n) e.vs2
    vs2-single = subst (λ (w : ℕ). Elements w e.vs2) in_bytes single.vs2

    vs1-single : ElementsOrScalar (8 * n) e.vs1
    vs1-single = subst (λ (w : ℕ). ElementsOrScalar w e.vs1) in_bytes single.vs1

    pub placed : Placed size s n
    placed = record {
      bytes = bytes-size k.sew width wide;
      ordered = omega (arith, some);
      vd = λ i l m.
          room size vlenb n i many e.dest.reg (subst (λ (w : ℕ). Inside size vlenb e.dest.reg w i) in_bytes (dest-inside i l m));
      vs2 = λ i l m. elements-room size vlenb n i many e.vs2 vs2-single (h.ready i l m).vs2;
      vs1 = λ i l m. source-inside size vlenb n i many e.vs1 vs1-single (h.ready i l m).vs1;
    }

    lane : (file : List ℕ) (i : ℕ)
        → element_of k.sew k.vxrm (value_of vlenb file e.vs2 i) (value_of vlenb file e.vs1 i) (value_of vlenb file e.vd i)
        (value_of vlenb file e.v0 i) k.op
        ≡ lane_of s (operation_at o) n file i
    unfolding value_of
    lane file i =
        (subst Plain (sym is-operation) (plain o)).same k.sew _ _ _ _ _ _
        (λ z. ap (λ (r : Read). value_of vlenb file r i) (single.vd z)
        ∙ elements-value size vlenb n i file (R.Element e.dest) (elements e.dest (single.dest ∙ in_bytes)))
        ∙ same-lane _ _ _ _ _ _ _ _ _ in_bytes (elements-value size vlenb n i file e.vs2 vs2-single)
        (source-value size vlenb n i file e.vs1 vs1-single) is-operation

    pub is-attempted : (b : Board) (file file' : List ℕ) → b.vlenb ≡ vlenb → Swept s (operation_at o) n (end - from) file file'
        → (rights memory x : List ℕ) (c : Control)
        → Attempted b rights e from (end - from) (core_at file memory x c) true (core_at file' memory x c)
    is-attempted b file file' z w rights memory x c =
        done _ (w.ran b e (rw z (record {
          compute = k;
          action = h.action;
          unmasked = unmasked;
          dest = refl;
          eew = single.dest ∙ in_bytes;
          element = lane;
        })) rights memory x c)
