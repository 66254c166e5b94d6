-- Register groups: what placement and the overlap rule come to, and where aligned groups lie.
use Prim.Native.Nat.{ℕ, suc, ◌+◌, ◌-◌, ◌*◌, ◌/◌, ◌%◌, ◌^◌, ◌≤◌, ◌<◌, max}
use mathlib.Core.Path.{◌≡◌, ap}
use mathlib.Core.Logic.{◌⊎◌, inl, inr, ⊎_elim}
use mathlib.Core.Bool.{Bool, true, ◌&&◌, ◌||◌, and_assoc, or_assoc}
use native.Mathlib.Numerals.{add-one}
use native.Mathlib.Omega.{arith}
use native.Mathlib.Nat.{div-add-mod', div-le_self, mul-le-mul, mul-le-mul_right, lt_of_mul-lt-mul_right}
use native.Mathlib.Decide.{dec_lt}
use lib.Dec.{ltb, leb, eqb}
use mir.Syntax.{w32, w64}
use mir.Val.{Fits}
use borrow.Author.Tests.{eqb-true}
use Rattle.laws.proofs.Apart.{both_left, both_right, or_cases, apart}
use Rattle.group.specs.declared.Group.{Group}
use Rattle.group.specs.Group.{registers_of, nfields, field_group, span_of, placed_of, apart_of, lowest_of, highest_of, may_overlap_of}
use Rattle.group.specs.Group.{may_share_of}

pub record Placed (elen : ℕ) (g : Group) : Type 0 where
  pub eew-low : 8 ≤ g.eew
  pub eew-high : g.eew ≤ elen
  pub emul-low : 1 ≤ g.emul8
  pub emul-high : nfields g * g.emul8 ≤ 64
  pub aligned : g.reg % registers_of g ≡ 0
  pub ends : g.reg + span_of g ≤ 32

pub placed-facts : (elen : ℕ) (g : Group) → placed_of elen g ≡ true → Placed elen g
unfolding placed_of
placed-facts elen g h = search apart

-- ---- the overlap rule

-- how field k of a destination d may lie to a source s, or its first field: below or above it, or, where d has no other field, over it at
-- an equal, a smaller or a larger EEW
pub data MayOverlap (d s : Group) (k : ℕ) : Type 0 where
  below : (field_group d k).reg + registers_of d ≤ s.reg → MayOverlap d s k
  above : s.reg + registers_of s ≤ (field_group d k).reg → MayOverlap d s k
  equal : (field_group d k).reg ≡ d.reg → d.eew ≡ s.eew → MayOverlap d s k
  lowest : (field_group d k).reg ≡ d.reg → d.eew < s.eew → d.reg ≡ s.reg → MayOverlap d s k
  highest : (field_group d k).reg ≡ d.reg → s.eew < d.eew → s.reg + registers_of s ≡ d.reg + registers_of d → 8 ≤ s.emul8
      → MayOverlap d s k

-- the fields before and with field k
pub fields-before : (g : Group) (k : ℕ) → k ≤ g.nf → k * registers_of g + registers_of g ≤ span_of g
fields-before g k h = omega (arith, mul-le-mul_right (registers_of g) h)

module _ (d s : Group) (k : ℕ) (m : k ≤ d.nf) where
  pub field_apart : apart_of d s ≡ true → ((field_group d k).reg + registers_of d ≤ s.reg) ⊎ (s.reg + registers_of s ≤ (field_group d k).reg)
  field_apart h =
      ⊎_elim
      (λ t. let l : d.reg + span_of d ≤ s.reg = search apart in inl (omega (arith, fields-before d k m)))
      (λ t. let l : s.reg + span_of s ≤ d.reg = search apart in inr (omega (arith, fields-before s 0 (omega arith))))
      (or_cases (leb (d.reg + span_of d) s.reg) _ h)

  -- the one field of a destination
  over-cases : d.nf ≡ 0 → (eqb d.eew s.eew || ((ltb d.eew s.eew && lowest_of d s)
      || (ltb s.eew d.eew && (highest_of d s && leb 8 s.emul8)))) ≡ true
      → MayOverlap d s k
  over-cases z h =
      ⊎_elim (λ t. equal first (search apart))
      (λ h. ⊎_elim (λ t. lowest first (search apart) (search apart)) (λ t. highest first (search apart) (search apart) (search apart))
      (or_cases (ltb d.eew s.eew && lowest_of d s) _ h))
      (or_cases (eqb d.eew s.eew) _ h)
    where
      none : k ≡ 0
      none = omega arith

      first : (field_group d k).reg ≡ d.reg
      first = omega (arith, ap (λ (n : ℕ). n * registers_of d) none)

  pub overlap-cases : may_overlap_of d s ≡ true → MayOverlap d s k
  unfolding may_overlap_of
  overlap-cases h =
      ⊎_elim (λ t. ⊎_elim below above (field_apart t))
      (λ t. over-cases (eqb-true d.nf 0 (both_left (eqb d.nf 0) _ t)) (both_right (eqb d.nf 0) _ t))
      (or_cases (apart_of d s) _ h)

-- ---- where aligned groups lie

-- of two multiples of n the larger is larger by n at least
next_multiple : (n a b : ℕ) → a % n ≡ 0 → b % n ≡ 0 → a < b → a + n ≤ b
next_multiple n a b p q h =
    let less : a / n < b / n = lt_of_mul-lt-mul_right n (omega (arith, div-add-mod' a n, div-add-mod' b n)) in
    let most : (a / n + 1) * n ≤ b / n * n = mul-le-mul_right n (omega arith) in
    omega (arith, div-add-mod' a n, div-add-mod' b n)

abbrev pub SameOrApart : Group → Group → Type 0
SameOrApart d s = (d.reg ≡ s.reg) ⊎ ((d.reg + registers_of d ≤ s.reg) ⊎ (s.reg + registers_of s ≤ d.reg))

-- aligned groups of as many registers
pub same-or-apart : (d s : Group) → registers_of d ≡ registers_of s → d.reg % registers_of d ≡ 0 → s.reg % registers_of s ≡ 0
    → SameOrApart d s
same-or-apart d s e p q = by_order (dec_lt d.reg s.reg) (dec_lt s.reg d.reg) where
  by_order : Dec (d.reg < s.reg) → Dec (s.reg < d.reg) → SameOrApart d s
  by_order (yes l) g = inr (inl (next_multiple (registers_of d) d.reg s.reg p (rw e q) l))
  by_order (no l) (yes g) = inr (inr (next_multiple (registers_of s) s.reg d.reg q (rw e at p) g))
  by_order (no l) (no g) = inl (omega arith)

-- ---- what fits

-- 8 * EMUL and nf are numbers of 32 bits
span-most : (nf emul8 : ℕ) → nf < 2 ^ 32 → emul8 < 2 ^ 32 → suc nf * max 1 (emul8 / 8) ≤ 2 ^ 61
span-most nf emul8 h k =
    let l : suc nf ≤ 2 ^ 32 = omega arith in
    let m : max 1 (emul8 / 8) ≤ 2 ^ 29 = omega arith in
    omega (arith, mul-le-mul l m)

pub span_fits : (g : Group) (r : ℕ) → Fits w32 g.nf → Fits w32 g.emul8 → r ≡ registers_of g → Fits w64 ((g.nf + 1) * r)
span_fits g r h k e = record { fits = rw e (omega (arith, span-most g.nf g.emul8 h.fits k.fits)) }

pub end_fits : (g : Group) (r : ℕ) → Fits w32 g.nf → Fits w32 g.emul8 → g.reg < 32 → r ≡ span_of g → Fits w64 (g.reg + r)
end_fits g r h k l e = record { fits = rw e (omega (arith, span-most g.nf g.emul8 h.fits k.fits)) }

pub product-fits : (g : Group) → Fits w32 g.nf → Fits w32 g.emul8 → Fits w64 ((g.nf + 1) * g.emul8)
product-fits g h k =
    let l : g.nf + 1 ≤ 2 ^ 32 = omega (arith, h.fits) in
    let m : g.emul8 ≤ 2 ^ 32 - 1 = omega (arith, k.fits) in
    record { fits = omega (arith, mul-le-mul l m) }

pub emul8-fits : (sew lmul8 eew : ℕ) → lmul8 ≤ 64 → eew ≤ 2048 → Fits w32 (eew * lmul8 / sew)
emul8-fits sew lmul8 eew h k = record { fits = omega (arith, mul-le-mul k h, div-le_self (eew * lmul8) sew) }

-- ---- the tests, as the code has them

pub apart-is : (d s : Group) (m n : ℕ) → m ≡ d.reg + span_of d → n ≡ s.reg + span_of s → (leb m s.reg || leb n d.reg) ≡ apart_of d s
apart-is d s m n p q = rw (p, q)

pub placed-is : (elen : ℕ) (g : Group) (registers end : ℕ) → registers ≡ registers_of g → end ≡ g.reg + span_of g
    → (((((leb 8 g.eew && leb g.eew elen) && leb 1 g.emul8) && leb ((g.nf + 1) * g.emul8) 64) && eqb (g.reg % registers) 0)
    && leb end 32) ≡ placed_of elen g
unfolding placed_of
placed-is elen g registers end p q = simp (p, q, add-one, and_assoc)

pub overlap-is : (d s : Group) (separate part : Bool) → separate ≡ apart_of d s → part ≡ highest_of d s
    → (separate || (eqb d.nf 0
    && ((eqb d.eew s.eew || (ltb d.eew s.eew && eqb d.reg s.reg))
    || ((ltb s.eew d.eew && part) && leb 8 s.emul8)))) ≡ may_overlap_of d s
unfolding may_overlap_of
overlap-is d s separate part p h = simp (p, h, and_assoc, or_assoc)

pub share-is : (r s : Group) (separate : Bool) → separate ≡ apart_of r s → (separate || eqb r.eew s.eew) ≡ may_share_of r s
unfolding may_share_of
share-is r s separate p = rw p
