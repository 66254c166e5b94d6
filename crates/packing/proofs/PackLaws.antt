-- The walk of viota.m and vcompress.vm: as far as it has come, the set bits are counted and the sources are as before.
use Prim.Native.Nat.{ℕ, ◌+◌, ◌≤◌, ◌<◌}
use mathlib.Core.Path.{◌≡◌, refl, sym, ap, ap₂, ◌∙◌}
use mathlib.Core.Bool.{Bool, true, false, ◌&&◌, cond}
use mathlib.Core.List.{List}
use native.Mathlib.Numerals.{add-one}
use native.Mathlib.Omega.{arith}
use lib.ListN.{length}
use lib.Dec.{eqb}
use Rattle.width.specs.Width.{flag}
use Rattle.decode.specs.declared.PackOp.{PackOp}
use Rattle.decode.specs.declared.PackOp.TheVariants.{Viota, Vcompress}
use Rattle.layout.specs.Layout.{element_at, with_element}
use Rattle.layout.proofs.ElementLaws.{length-with_element}
use Rattle.plan.specs.declared.Read.{Read}
use Rattle.plan.specs.declared.Read.TheVariants as R
use Rattle.plan.specs.declared.Packing.{Packing}
use Rattle.machine.specs.Effect.{value_of, active_of}
use Rattle.machine.specs.OneTurn.{set_at, population_of, set_below, packs, packed_place, packed_value, packed_file}
use Rattle.machine.proofs.Writing.{Written, written_none, written-more, written_all}
use Rattle.packing.specs.Packable.{Reachable, packed_at, KeepsRead, Packable}

-- ---- the population of the first i

flag-le : (t : Bool) → flag t ≤ 1
flag-le true = omega arith
flag-le false = omega arith

module _ (vlenb : ℕ) (file : List ℕ) (masked : Bool) (reg : ℕ) where
  population-more : (i : ℕ) → population_of vlenb file masked reg (i + 1)
      ≡ population_of vlenb file masked reg i + flag (set_at vlenb file masked reg i)
  unfolding population_of
  population-more i = rw (add-one i)

-- ---- as far as the walk has come

module _ (vlenb : ℕ) (p : Packing) (vl : ℕ) (before : List ℕ) where
  -- a source reads as before, below vl
  abbrev Same : List ℕ → Read → Type 0
  Same file r = (j : ℕ) → j < vl → value_of vlenb file r j ≡ value_of vlenb before r j

  pub record Walked (i n : ℕ) (file : List ℕ) : Type 0 where
    pub written :
        Written vlenb p.vd.reg p.vd.eew (packs vlenb before p p.op) (packed_place vlenb before p p.op)
        (packed_value vlenb before p p.op) vl before i file
    pub count : n ≡ set_below vlenb before p i
    pub few : n ≤ i
    pub size : length file ≡ length before
    pub elements : Same file p.elements
    pub mask : Same file (R.Bit p.mask)
    pub v0 : p.masked ≡ true → Same file (R.Bit 0)

  pub walked_none : Walked 0 0 before
  unfolding population_of
  walked_none = record {
    written = written_none vlenb _ _ _ _ _ vl before;
    count = refl;
    few = omega arith;
    size = refl;
    elements = λ j l. refl;
    mask = λ j l. refl;
    v0 = λ h j l. refl;
  }

  module _ (i n : ℕ) (file : List ℕ) (w : Walked i n file) (l : i < vl) where
    active-same : active_of vlenb file p.masked i ≡ active_of vlenb before p.masked i
    active-same = go p.masked (λ h. w.v0 h i l)
      where
        go : (t : Bool) → (t ≡ true → value_of vlenb file (R.Bit 0) i ≡ value_of vlenb before (R.Bit 0) i)
            → active_of vlenb file t i ≡ active_of vlenb before t i
        go false f = refl
        go true f = unfold value_of in ap (λ (y : ℕ). eqb y 1) (f refl)

    set_same : set_at vlenb file p.masked p.mask i ≡ set_at vlenb before p.masked p.mask i
    unfolding value_of
    set_same =
        let m : element_at vlenb file p.mask 1 i ≡ element_at vlenb before p.mask 1 i = w.mask i l in
        ap₂ (λ (a : Bool) (y : ℕ). a && eqb y 1) active-same m

    -- what the code does from the file as it is, is what the file before decides
    step_is : (o : PackOp) → packed_at vlenb file p i n o
        ≡ cond (packs vlenb before p o i)
        (with_element vlenb file p.vd.reg p.vd.eew (packed_place vlenb before p o i) (packed_value vlenb before p o i)) file
    step_is Viota = rw (active-same, w.count)
    step_is Vcompress = rw (set_same, w.elements i l, w.count)

    place-lt : (o : PackOp) → packed_place vlenb before p o i < vl
    place-lt Viota = l
    place-lt Vcompress = omega (arith, w.count, w.few)

    -- a source after an element is written, or not
    kept : (r : Read) (t : Bool) (m x : ℕ) → m < vl → KeepsRead vlenb p vl r → Same file r
        → Same (cond t (with_element vlenb file p.vd.reg p.vd.eew m x) file) r
    kept r true m x h k s j b = k file m x j h b ∙ s j b
    kept r false m x h k s j b = s j b

    length-kept : (t : Bool) (m x : ℕ) → length (cond t (with_element vlenb file p.vd.reg p.vd.eew m x) file) ≡ length file
    length-kept true m x = length-with_element vlenb file p.vd.reg p.vd.eew m x
    length-kept false m x = refl

    pub walked_more : (n' : ℕ) (file' : List ℕ) → Packable (length before) vlenb p vl
        → n' ≡ n + flag (set_at vlenb file p.masked p.mask i) → file' ≡ packed_at vlenb file p i n p.op → Walked (i + 1) n' file'
    walked_more n' file' k e h =
        let q = h ∙ step_is p.op in
        let t : Bool = packs vlenb before p p.op i in
        let after : (r : Read) → KeepsRead vlenb p vl r → Same file r → Same file' r =
        λ r f s. rw q (kept r t _ _ (place-lt p.op) f s) in
        record {
          written = written-more vlenb _ _ _ _ _ vl before i file file' w.written l q;
          count = rw (e, set_same, w.count) (sym (population-more vlenb before p.masked p.mask i));
          few = omega (arith, w.few, flag-le (set_at vlenb file p.masked p.mask i));
          size = rw q (length-kept t _ _) ∙ w.size;
          elements = after p.elements k.elements w.elements;
          mask = after (R.Bit p.mask) k.mask w.mask;
          v0 = λ z. after (R.Bit 0) (k.v0 z) (w.v0 z);
        }

    pub reachable-here : Packable (length before) vlenb p vl → Reachable (length file) vlenb p i n
    reachable-here k = rw w.size (k.reachable i n l w.few)

  pub walked_all : (i n : ℕ) (file : List ℕ) → Walked i n file → vl ≤ i → file ≡ packed_file vlenb before p vl
  walked_all i n file w l = written_all vlenb _ _ _ _ _ vl before i file w.written l
