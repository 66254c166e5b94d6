-- Where the elements of register groups lie: VLMAX of them fill a group, and the overlap rule keeps an element of a destination off every
-- later element of a source.
use Prim.Native.Nat.{ℕ, zero, suc, ◌+◌, ◌-◌, ◌*◌, ◌/◌, ◌%◌, ◌^◌, ◌≤◌, ◌<◌, max}
use mathlib.Core.Path.{◌≡◌, refl, sym, ap, ◌∙◌, subst}
use mathlib.Core.Logic.{◌⊎◌, inl, inr, ⊎_elim}
use mathlib.Core.List.{List, [], ◌∷◌}
use mathlib.Core.Bool.{true, not, ◌||◌}
use native.Mathlib.Omega.{arith}
use native.Mathlib.Decide.{dec_lt}
use native.Mathlib.Nat.{mul-le-mul_left, mul-le-mul_right, eq_of_mul-eq-mul_right, le_of_mul-le-mul_right, div-eq_of_lt, div-add-mod'}
use native.Mathlib.Nat.{div-le_of_le-mul, mod-lt, le_of_suc-le-suc, not-suc-le-zero}
use lib.ListN.{length, get_or}
use lib.Dec.{T, leb, eqb, lit<}
use lib.Pow.{pow-lt, pow-add, pow_mono, shl-shr}
use borrow.Author.Tests.{leb-true, eqb-true}
use Rattle.laws.proofs.Apart.{or_cases, apart}
use Rattle.control.specs.declared.Board.{Board}
use Rattle.control.specs.Board.{Valid}
use Rattle.control.specs.Vtype.{lmul8_of, sew_of, vlmax_of, supported_of}
use Rattle.control.proofs.Laws.{lmul8-le, sew-ge, vlmax-le}
use Rattle.layout.specs.Layout.{element_width, Inside}
use Rattle.layout.proofs.ElementLaws.{Apart}
use Rattle.group.specs.declared.Group.{Group}
use Rattle.group.specs.Group.{emul8_of, mask_group, registers_of, field_group, span_of, placed_of, apart_of, may_overlap_of}
use Rattle.group.proofs.GroupLaws.{Placed, placed-facts, MayOverlap, below, above, equal, lowest, highest, overlap-cases, same-or-apart}
use Rattle.group.proofs.GroupLaws.{field_apart}
use Rattle.plan.specs.Plan.{groups_at, register_at}

-- ---- powers of 2

pub record Power (n : ℕ) : Type 0 where
  pub exponent : ℕ
  pub is : n ≡ 2 ^ exponent

pub power-of : (e : ℕ) → Power (2 ^ e)
power-of e = record { exponent = e; is = refl }

pub product-power : (n m : ℕ) → Power n → Power m → Power (n * m)
product-power n m p q = record { exponent = p.exponent + q.exponent; is = rw (p.is, q.is, pow-add) }

-- a quotient that is not 0 is exact
record Quotient (n m : ℕ) : Type 0 where
  power : Power (n / m)
  exact : n / m * m ≡ n

quotient-of : (a b : ℕ) → 1 ≤ 2 ^ a / 2 ^ b → Quotient (2 ^ a) (2 ^ b)
quotient-of a b h = by_order (dec_lt a b) where
  by_order : Dec (a < b) → Quotient (2 ^ a) (2 ^ b)
  by_order (yes l) = absurd (omega (arith, div-eq_of_lt (pow-lt l)))
  by_order (no l) =
      let e : 2 ^ a ≡ 2 ^ (a - b) * 2 ^ b = ap (λ (n : ℕ). 2 ^ n) (omega arith) ∙ pow-add 2 (a - b) b in
      let q : 2 ^ a / 2 ^ b ≡ 2 ^ (a - b) = ap (λ (n : ℕ). n / 2 ^ b) e ∙ shl-shr (2 ^ (a - b)) b in
      record { power = record { exponent = a - b; is = q }; exact = ap (λ (n : ℕ). n * 2 ^ b) q ∙ sym e }

quotient : (n m : ℕ) → Power n → Power m → 1 ≤ n / m → Quotient n m
quotient n m p q h = rw (p.is, q.is) (quotient-of p.exponent q.exponent (rw (p.is, q.is) at h))

pub quotient_power : (n m : ℕ) → Power n → Power m → 1 ≤ n / m → Power (n / m)
quotient_power n m p q h = (quotient n m p q h).power

pub quotient-exact : (n m : ℕ) → Power n → Power m → 1 ≤ n / m → n / m * m ≡ n
quotient-exact n m p q h = (quotient n m p q h).exact

-- EEWs are powers of 2 from 8 to 64
width-at : (e : ℕ) → 8 ≤ 2 ^ e → 2 ^ e ≤ 64 → T (element_width (2 ^ e))
width-at zero h k = omega arith
width-at (suc zero) h k = omega arith
width-at (suc (suc zero)) h k = omega arith
width-at (suc (suc (suc zero))) h k = tt
width-at (suc (suc (suc (suc zero)))) h k = tt
width-at (suc (suc (suc (suc (suc zero))))) h k = tt
width-at (suc (suc (suc (suc (suc (suc zero)))))) h k = tt
width-at (suc (suc (suc (suc (suc (suc (suc e))))))) h k =
    let l : 2 ^ 7 ≤ 2 ^ suc (suc (suc (suc (suc (suc (suc e)))))) = pow_mono {i = 7} (omega arith) in absurd (omega arith)

pub power-width : (n : ℕ) → Power n → 8 ≤ n → n ≤ 64 → T (element_width n)
power-width n p h k = subst (λ m. T (element_width m)) (sym p.is) (width-at p.exponent (rw p.is at h) (rw p.is at k))

-- ---- SEW and LMUL are powers of 2

abbrev All : (ℕ → Type 0) → List ℕ → Type 0
All P [] = Unit {0}
All P (x ∷ xs) = P x × All P xs

entry : (P : ℕ → Type 0) (xs : List ℕ) (k : ℕ) → All P xs → k < length xs → P (get_or xs k 0)
entry P [] k a h = absurd (not-suc-le-zero h)
entry P (x ∷ xs) zero a h = a.0
entry P (x ∷ xs) (suc k) a h = entry P xs k a.1 (le_of_suc-le-suc h)

pub sew-power : (v : ℕ) → Power (sew_of v)
sew-power v =
    entry Power (8 ∷ 16 ∷ 32 ∷ 64 ∷ 128 ∷ 256 ∷ 512 ∷ 1024 ∷ []) (v / 8 % 8)
    (power-of 3, (power-of 4, (power-of 5, (power-of 6, (power-of 7, (power-of 8, (power-of 9, (power-of 10, tt))))))))
    (mod-lt (v / 8) (lit< tt))

-- 0 stands for the reserved vlmul
lmul8-power : (v : ℕ) → 1 ≤ lmul8_of v → Power (lmul8_of v)
lmul8-power v =
    entry (λ n. 1 ≤ n → Power n) (8 ∷ 16 ∷ 32 ∷ 64 ∷ 0 ∷ 1 ∷ 2 ∷ 4 ∷ []) (v % 8) (
      (λ h. power-of 3),
      (
        (λ h. power-of 4),
        (
          (λ h. power-of 5),
          (
            (λ h. power-of 6),
            (
              (λ h. absurd (omega arith)),
              (
                (λ h. power-of 0),
                ((λ h. power-of 1), ((λ h. power-of 2), tt)),
              ),
            ),
          ),
        ),
      ),
    )
    (mod-lt v (lit< tt))

-- ---- VLMAX elements fill a group

sew-le-all : (b : Board) (v : ℕ) → Valid b → supported_of b v ≡ true → sew_of v ≤ lmul8_of v * b.vlenb
unfolding supported_of
sew-le-all b v w h =
    let l : sew_of v ≤ b.elen = search apart in
    let f : (leb 8 (lmul8_of v) || leb (8 * sew_of v) (b.elen * lmul8_of v)) ≡ true = search apart in
    ⊎_elim
    (λ t. omega (arith, w.within, mul-le-mul_right b.vlenb (leb-true 8 (lmul8_of v) t)))
    (λ t. omega (arith, leb-true (8 * sew_of v) (b.elen * lmul8_of v) t, mul-le-mul_right (lmul8_of v) w.within))
    (or_cases (leb 8 (lmul8_of v)) _ f)

lmul8-pos : (b : Board) (v : ℕ) → Valid b → supported_of b v ≡ true → 1 ≤ lmul8_of v
lmul8-pos b v w h = by_order (dec_lt 0 (lmul8_of v)) where
  by_order : Dec (0 < lmul8_of v) → 1 ≤ lmul8_of v
  by_order (yes l) = l
  by_order (no l) =
      let e : lmul8_of v * b.vlenb ≡ 0 * b.vlenb = ap (λ (n : ℕ). n * b.vlenb) (omega arith) in
      absurd (omega (arith, sew-le-all b v w h, sew-ge v))

pub quotient-low : (n m : ℕ) → 1 ≤ m → m ≤ n → 1 ≤ n / m
quotient-low n m p h = by_order (dec_lt 0 (n / m)) where
  by_order : Dec (0 < n / m) → 1 ≤ n / m
  by_order (yes l) = l
  by_order (no l) = let e : n / m * m ≡ 0 * m = ap (λ (k : ℕ). k * m) (omega arith) in absurd (omega (arith, div-add-mod' n m, mod-lt n p))

vlmax-exact : (b : Board) (v : ℕ) → Valid b → supported_of b v ≡ true → vlmax_of b v * sew_of v ≡ lmul8_of v * b.vlenb
unfolding vlmax_of
vlmax-exact b v w h =
    quotient-exact (lmul8_of v * b.vlenb) (sew_of v)
    (product-power (lmul8_of v) b.vlenb (lmul8-power v (lmul8-pos b v w h)) (record { exponent = w.lenb; is = w.power }))
    (sew-power v) (quotient-low _ _ (omega (arith, sew-ge v)) (sew-le-all b v w h))

-- ---- the extent of a group, or of each of its fields

pub record Extent (vlmax vlenb : ℕ) (g : Group) : Type 0 where
  pub width : T (element_width g.eew)
  pub aligned : g.reg % registers_of g ≡ 0
  pub within : vlmax * g.eew ≤ registers_of g * (8 * vlenb)
  pub full : 8 ≤ g.emul8 → vlmax * g.eew ≡ registers_of g * (8 * vlenb)
  pub ends : g.reg < 32 → g.reg + span_of g ≤ 32

pub mask-extent : (b : Board) (v reg : ℕ) → Extent (vlmax_of b v) b.vlenb (mask_group reg)
mask-extent b v reg =
    record { width = tt; aligned = omega arith; within = omega (arith, vlmax-le b v); full = λ l. omega arith; ends = λ l. omega arith }

-- of a group at a supported vtype
module _ (b : Board) (v : ℕ) (w : Valid b) (h : supported_of b v ≡ true) (eew : ℕ) (p : Power eew) where
  abbrev emul8 : ℕ
  emul8 = emul8_of (sew_of v) (lmul8_of v) eew

  emul8-quotient : 1 ≤ emul8 → Quotient (eew * lmul8_of v) (sew_of v)
  unfolding emul8_of
  emul8-quotient l =
      quotient (eew * lmul8_of v) (sew_of v) (product-power eew (lmul8_of v) p (lmul8-power v (lmul8-pos b v w h))) (sew-power v) l

  filled : 1 ≤ emul8 → vlmax_of b v * eew ≡ emul8 * b.vlenb
  unfolding emul8_of
  filled l =
      eq_of_mul-eq-mul_right (sew_of v) (omega (arith, sew-ge v)) (vlmax_of b v * eew) (emul8 * b.vlenb)
      (omega (arith, ap (λ (n : ℕ). n * eew) (vlmax-exact b v w h), ap (λ (n : ℕ). n * b.vlenb) (emul8-quotient l).exact))

  registers-whole : 8 ≤ emul8 → max 1 (emul8 / 8) * 8 ≡ emul8
  unfolding emul8_of
  registers-whole l = omega (arith, quotient-exact emul8 8 (emul8-quotient (omega arith)).power (power-of 3) (omega arith))

  module _ (reg nf : ℕ) where
    abbrev g : Group
    g = groups_at v eew reg nf

    -- a group of one register may have room to spare
    extent-if : T (element_width eew) → g.reg % registers_of g ≡ 0 → (emul8 < 8 → vlmax_of b v * eew ≤ 8 * b.vlenb)
        → (reg < 32 → reg + span_of g ≤ 32)
        → Extent (vlmax_of b v) b.vlenb g
    extent-if t a small ends = record { width = t; aligned = a; within = by_size (dec_lt emul8 8); full = full; ends = ends } where
      full : 8 ≤ emul8 → vlmax_of b v * eew ≡ registers_of g * (8 * b.vlenb)
      full l = omega (arith, filled (omega arith), ap (λ (n : ℕ). n * b.vlenb) (registers-whole l))

      by_size : Dec (emul8 < 8) → vlmax_of b v * eew ≤ registers_of g * (8 * b.vlenb)
      by_size (yes l) =
          let one : registers_of g ≡ 1 = omega arith in
          omega (arith, small l, ap (λ (n : ℕ). n * (8 * b.vlenb)) one)
      by_size (no l) = omega (arith, full (omega arith))

    pub placed-extent : placed_of b.elen g ≡ true → Extent (vlmax_of b v) b.vlenb g
    unfolding emul8_of
    placed-extent t =
        let f : Placed b.elen g = placed-facts b.elen g t in
        extent-if (power-width eew p f.eew-low (omega (arith, f.eew-high, w.elen))) f.aligned
        (λ l. omega (arith, filled f.emul-low, mul-le-mul_right b.vlenb l))
        (λ l. f.ends)

    -- elements of one bit, in one field
    bit-extent : eew ≡ 1 → nf ≡ 0 → Extent (vlmax_of b v) b.vlenb g
    unfolding emul8_of
    bit-extent e z =
        extent-if (subst (λ n. T (element_width n)) (sym e) tt) (ap (λ (n : ℕ). reg % n) one ∙ mod-one) (λ l. omega (
          arith,
          vlmax-le b v,
          ap
              (λ (n : ℕ). vlmax_of b v * n) e,
        )) (λ l. omega (arith, one, ap (λ (n : ℕ). n * registers_of g) z))
      where
        most : emul8 ≤ 8
        most = div-le_of_le-mul (sew_of v) (omega (arith, ap (λ (n : ℕ). n * lmul8_of v) e, lmul8-le v, sew-ge v))

        one : registers_of g ≡ 1
        one = omega (arith, most)

        mod-one : reg % 1 ≡ 0
        mod-one = omega arith

    pub extent : (eew ≡ 1 → nf ≡ 0) → (eqb eew 1 || placed_of b.elen g) ≡ true → Extent (vlmax_of b v) b.vlenb g
    extent z t =
        ⊎_elim (λ e. let one : eew ≡ 1 = eqb-true eew 1 e in bit-extent one (z one)) placed-extent (or_cases (eqb eew 1) _ t)

-- ---- where elements lie

-- in a group that ends at or below v31, and whose registers hold all elements below `end`
pub inside : (vlenb end : ℕ) (g : Group) (k : ℕ) → T (element_width g.eew) → end * g.eew ≤ registers_of g * (8 * vlenb)
    → g.reg + registers_of g ≤ 32
    → k < end → Inside (32 * vlenb) vlenb g.reg g.eew k
inside vlenb end g k t m u l =
    let here : (k + 1) * g.eew ≤ end * g.eew = mul-le-mul_right g.eew (omega arith) in
    record { width = t; within = omega (arith, here, m, mul-le-mul_right (8 * vlenb) u) }

pub bit-inside : (vlenb reg k : ℕ) → reg < 32 → k < 8 * vlenb → Inside (32 * vlenb) vlenb reg 1 k
bit-inside vlenb reg k u l = inside vlenb (8 * vlenb) (mask_group reg) k tt (omega arith) (omega arith) l

-- element 0 of a register alone
pub register-inside : (b : Board) (eew reg : ℕ) → Valid b → Power eew → 8 ≤ eew → eew ≤ b.elen → reg < 32
    → Inside (32 * b.vlenb) b.vlenb reg eew 0
register-inside b eew reg w p l m u =
    inside b.vlenb 1 (register_at eew reg) 0 (power-width eew p l (omega (arith, w.elen))) (omega (arith, w.within)) (omega arith)
    (lit< tt)

-- ---- the overlap rule

-- groups of equal EEW have as many registers
same-registers : (vlmax vlenb : ℕ) (d g : Group) → 1 ≤ vlenb → Extent vlmax vlenb d → Extent vlmax vlenb g → d.eew ≡ g.eew
    → registers_of d ≡ registers_of g
same-registers vlmax vlenb d g u x y e =
    by_size (dec_lt d.emul8 8) (dec_lt g.emul8 8)
  where
    room : vlmax * d.eew ≡ vlmax * g.eew
    room = ap (λ (n : ℕ). vlmax * n) e

    fewer : (n m : ℕ) → n * (8 * vlenb) ≤ m * (8 * vlenb) → n ≤ m
    fewer n m l = le_of_mul-le-mul_right l (omega arith)

    by_size : Dec (d.emul8 < 8) → Dec (g.emul8 < 8) → registers_of d ≡ registers_of g
    by_size (yes k) (yes l) = omega arith
    by_size (yes k) (no l) = omega (arith, fewer (registers_of g) (registers_of d) (omega (arith, room, x.within, y.full (omega arith))))
    by_size (no k) (yes l) = omega (arith, fewer (registers_of d) (registers_of g) (omega (arith, room, y.within, x.full (omega arith))))
    by_size (no k) (no l) =
        omega (
          arith,
          fewer (registers_of d) (registers_of g) (omega (arith, room, x.full (omega arith), y.full (omega arith))),
          fewer (registers_of g) (registers_of d) (omega (arith, room, x.full (omega arith), y.full (omega arith))),
        )

-- elements below VLMAX of a group d that is moved to another register, where no register is the other's: any two
sides_apart : (vlmax vlenb : ℕ) (d g : Group) (reg j i : ℕ) → Extent vlmax vlenb d → Extent vlmax vlenb g → j < vlmax → i < vlmax
    → (reg + registers_of d ≤ g.reg) ⊎ (g.reg + registers_of g ≤ reg) → Apart vlenb reg d.eew j g.reg g.eew i
sides_apart vlmax vlenb d g reg j i x y l m h =
    let p : (j + 1) * d.eew ≤ vlmax * d.eew = mul-le-mul_right d.eew (omega arith) in
    let q : (i + 1) * g.eew ≤ vlmax * g.eew = mul-le-mul_right g.eew (omega arith) in
    ⊎_elim
    (λ t. inl (omega (arith, p, x.within, mul-le-mul_right (8 * vlenb) t)))
    (λ t. inr (omega (arith, q, y.within, mul-le-mul_right (8 * vlenb) t)))
    h

-- of a destination and a source that have no register in common
pub groups-apart : (vlmax vlenb : ℕ) (d g : Group) (k j i : ℕ) → Extent vlmax vlenb d → Extent vlmax vlenb g → k ≤ d.nf
    → j < vlmax → i < vlmax → apart_of d g ≡ true → Apart vlenb (field_group d k).reg d.eew j g.reg g.eew i
groups-apart vlmax vlenb d g k j i x y n l m h =
    sides_apart vlmax vlenb d g (field_group d k).reg j i x y l m (field_apart d g k n h)

-- THE OVERLAP RULE SUFFICES, at every pair of EEWs: element j of any field of the destination has no bit of a later element i of the source
pub overlap-apart : (vlmax vlenb : ℕ) (d g : Group) (k j i : ℕ) → 1 ≤ vlenb → Extent vlmax vlenb d → Extent vlmax vlenb g → k ≤ d.nf
    → j < i → i < vlmax → may_overlap_of d g ≡ true → Apart vlenb (field_group d k).reg d.eew j g.reg g.eew i
overlap-apart vlmax vlenb d g k j i u x y n l m h = by-case (overlap-cases d g k n h)
  where
    -- an element of the destination from a register on
    From : ℕ → Type 0
    From reg = Apart vlenb reg d.eew j g.reg g.eew i

    -- j is before i
    before : (e : ℕ) → (j + 1) * e ≤ i * e
    before e = mul-le-mul_right e (omega arith)

    beside : (reg : ℕ) → (reg + registers_of d ≤ g.reg) ⊎ (g.reg + registers_of g ≤ reg) → From reg
    beside reg t = sides_apart vlmax vlenb d g reg j i x y (omega arith) m t

    -- from the same register on, at no larger EEW
    lowest-apart : d.eew ≤ g.eew → d.reg ≡ g.reg → From d.reg
    lowest-apart t e = inl (omega (arith, before d.eew, mul-le-mul_left i t, ap (λ (n : ℕ). vlenb * n) e))

    -- counted from the end of both, at a smaller EEW
    highest-apart : g.eew < d.eew → g.reg + registers_of g ≡ d.reg + registers_of d → 8 ≤ g.emul8 → From d.reg
    highest-apart t e k =
        let z : ℕ = d.eew - g.eew in
        let q : d.eew ≡ g.eew + z = omega arith in
        let less : i * z ≤ vlmax * z = mul-le-mul_right z (omega arith) in
        inl (omega (
          arith,
          before d.eew,
          x.within,
          y.full k,
          ap (λ (n : ℕ). n * (8 * vlenb)) e,
          ap (λ (n : ℕ). i * n) q,
          ap (λ
              (n : ℕ). vlmax * n) q,
        ))

    by-case : MayOverlap d g k → From (field_group d k).reg
    by-case (below t) = beside (field_group d k).reg (inl t)
    by-case (above t) = beside (field_group d k).reg (inr t)
    by-case (equal z e) =
        subst From (sym z)
        (⊎_elim (lowest-apart (omega arith)) (beside d.reg)
        (same-or-apart d g (same-registers vlmax vlenb d g u x y e) x.aligned y.aligned))
    by-case (lowest z t e) = subst From (sym z) (lowest-apart (omega arith) e)
    by-case (highest z t e k) = subst From (sym z) (highest-apart t e k)

-- a destination that spares v0: element j of any field has no later bit i of v0
pub v0-apart : (vlenb : ℕ) (d : Group) (k j i : ℕ) → j < i → i < 8 * vlenb → (not (eqb d.reg 0) || eqb d.eew 1) ≡ true
    → Apart vlenb (field_group d k).reg d.eew j 0 1 i
v0-apart vlenb d k j i l u h = by_register (dec_lt 0 (field_group d k).reg) where
  by_register : Dec (0 < (field_group d k).reg) → Apart vlenb (field_group d k).reg d.eew j 0 1 i
  by_register (yes n) = inr (omega (arith, mul-le-mul_left vlenb n))
  by_register (no n) =
      let zero-reg : d.reg ≡ 0 = omega arith in
      let first : (field_group d k).reg ≡ 0 = omega arith in
      let one : d.eew ≡ 1 = eqb-true d.eew 1 (subst (λ n. (not (eqb n 0) || eqb d.eew 1) ≡ true) zero-reg h) in
      inl (omega (arith, ap (λ (n : ℕ). j * n) one, ap (λ (n : ℕ). vlenb * n) first))
