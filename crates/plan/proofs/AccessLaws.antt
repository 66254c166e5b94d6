-- Loads and stores, from what the code has computed: one law for each addressing mode, over plain variables; and the bounds that they need.
use Prim.Native.Nat.{ℕ, ◌+◌, ◌*◌, ◌/◌, ◌^◌, ◌≤◌, ◌<◌}
use mathlib.Core.Path.{◌≡◌, sym, ap, subst, ◌∙◌}
use mathlib.Core.Bool.{true, false}
use mathlib.Core.Logic.{⊎_elim}
use mathlib.Core.List.{List, [], ◌∷◌}
use native.Mathlib.Nat.{mul-le-mul}
use native.Mathlib.Numerals.{add-one}
use native.Mathlib.Omega.{arith}
use lib.Dec.{lit≤}
use types.Run.{OneOf}
use mir.Syntax.{w32, w64}
use mir.Val.{Fits}
use Rattle.control.specs.declared.Board.{Board}
use Rattle.control.specs.declared.Control.{Control}
use Rattle.control.specs.Board.{Valid}
use Rattle.control.specs.Vtype.{sew_of}
use Rattle.decode.specs.declared.Mode.{Mode}
use Rattle.decode.specs.declared.Mode.TheVariants as M
use Rattle.decode.specs.declared.Access.{Access}
use Rattle.decode.specs.Fields.{ModeFits, AccessFits}
use Rattle.group.specs.declared.Group.{Group}
use Rattle.plan.specs.declared.Read.TheVariants as R
use Rattle.plan.specs.declared.Transfer.{Transfer}
use Rattle.plan.specs.declared.Elementwise.{Elementwise}
use Rattle.plan.specs.Plan.{scalar_of, group_at, groups_at, register_at, moving_of, by_mode, transferring_of}

-- ---- bounds

-- what holds of four numbers holds of one of them
pub one_of : (P : ℕ → Type 0) (i j k l : ℕ) → P i → P j → P k → P l → (n : ℕ) → OneOf (i ∷ j ∷ k ∷ l ∷ []) n → P n
one_of P i j k l p q r s n h =
    ⊎_elim (λ e. subst P (sym e) p) (⊎_elim (λ e. subst P (sym e) q) (⊎_elim (λ e. subst P (sym e) r) (λ e. subst P (sym e) s))) h

pub eew-low : (a : Access) → AccessFits a → 8 ≤ a.eew
eew-low a f = one_of (λ n. 8 ≤ n) 8 16 32 64 (lit≤ tt) (lit≤ tt) (lit≤ tt) (lit≤ tt) a.eew f.eew

pub access-some : (a : Access) → AccessFits a → 0 < a.eew
access-some a f = omega (arith, eew-low a f)

pub access-most : (a : Access) → AccessFits a → a.eew ≤ 2048
access-most a f = one_of (λ n. n ≤ 2048) 8 16 32 64 (lit≤ tt) (lit≤ tt) (lit≤ tt) (lit≤ tt) a.eew f.eew

pub whole_le : (n : ℕ) → ModeFits (M.Whole n) → n ≤ 8
whole_le = one_of (λ n. n ≤ 8) 1 2 4 8 (lit≤ tt) (lit≤ tt) (lit≤ tt) (lit≤ tt)

whole-most : (a : Access) (n : ℕ) → a.mode ≡ M.Whole n → AccessFits a → n ≤ 8
whole-most a n e f = whole_le n (subst ModeFits e f.mode)

pub whole-emul : (a : Access) (n : ℕ) → a.mode ≡ M.Whole n → AccessFits a → Fits w64 (8 * n)
whole-emul a n e f = omega (arith, whole-most a n e f)

pub whole-emul32 : (a : Access) (n : ℕ) → a.mode ≡ M.Whole n → AccessFits a → Fits w32 (8 * n)
whole-emul32 a n e f = omega (arith, whole-most a n e f)

-- the bytes of a segment
pub segment-fits : (a : Access) → AccessFits a → Fits w32 a.nf → Fits w64 ((a.nf + 1) * (a.eew / 8))
segment-fits a f h =
    let l : a.nf + 1 ≤ 2 ^ 32 = omega (arith, h.fits) in
    let m : a.eew / 8 ≤ 256 = omega (arith, access-most a f) in
    record { fits = omega (arith, mul-le-mul l m) }

pub whole-bits : (b : Board) (a : Access) (n : ℕ) → a.mode ≡ M.Whole n → AccessFits a → Valid b → Fits w64 (n * (8 * b.vlenb))
whole-bits b a n e f v =
    let h : 8 * b.vlenb ≤ 128 = omega (arith, v.most) in
    omega (arith, mul-le-mul (whole-most a n e f) h)

-- ---- modes

in-mode : (b : Board) (x : List ℕ) (c : Control) (a : Access) (m : Mode) (r : Elementwise) → a.mode ≡ m → r ≡ by_mode b x c a m
    → r ≡ transferring_of b x c a
in-mode b x c a m r e h = h ∙ ap (by_mode b x c a) (sym e)

-- what the code has worked out before it looks at the mode, and the group g that it makes by it
module _ (b : Board) (x : List ℕ) (c : Control) (a : Access) (base : ℕ) (g : Group) (r : Elementwise) (p : base ≡ scalar_of x a.rs1) where
  abbrev by : ℕ → ℕ → Transfer
  by stride bytes = record { store = a.store; base = base; stride = stride; bytes = bytes }

  pub unit-is : a.mode ≡ M.UnitStride → g ≡ groups_at c.vtype a.eew a.vd a.nf
      → r ≡ moving_of a true g (R.Constant 0) (by ((a.nf + 1) * (a.eew / 8)) (a.eew / 8)) c.vl → r ≡ transferring_of b x c a
  unfolding by_mode
  unit-is e h k = in-mode b x c a M.UnitStride r e (rw (k, h, p, add-one))

  pub strided-is : (n stride : ℕ) → a.mode ≡ M.Strided n → stride ≡ scalar_of x n → g ≡ groups_at c.vtype a.eew a.vd a.nf
      → r ≡ moving_of a true g (R.Constant 0) (by stride (a.eew / 8)) c.vl → r ≡ transferring_of b x c a
  unfolding by_mode
  strided-is n stride e q h k = in-mode b x c a (M.Strided n) r e (rw (k, h, p, q))

  pub indexed-is : (n sew : ℕ) (o : Group) → a.mode ≡ M.Indexed n → sew ≡ sew_of c.vtype
      → g ≡ groups_at c.vtype sew a.vd a.nf → o ≡ group_at c.vtype a.eew n
      → r ≡ moving_of a true g (R.Element o) (by 0 (sew / 8)) c.vl → r ≡ transferring_of b x c a
  unfolding by_mode
  indexed-is n sew o e q h i k = in-mode b x c a (M.Indexed n) r e (rw (k, h, i, p, q))

  pub mask_is : a.mode ≡ M.MaskBytes → g ≡ register_at 8 a.vd
      → r ≡ moving_of a true g (R.Constant 0) (by 1 1) ((c.vl + 7) / 8) → r ≡ transferring_of b x c a
  unfolding by_mode
  mask_is e h k = in-mode b x c a M.MaskBytes r e (rw (k, h, p))

pub whole_is : (b : Board) (x : List ℕ) (c : Control) (a : Access) (base n : ℕ) (r : Elementwise) → base ≡ scalar_of x a.rs1
    → a.mode ≡ M.Whole n
    → r ≡ moving_of a false (record { reg = a.vd; eew = a.eew; emul8 = 8 * n; nf = 0 }) (R.Constant 0)
    (record { store = a.store; base = base; stride = a.eew / 8; bytes = a.eew / 8 }) (n * (8 * b.vlenb) / a.eew)
    → r ≡ transferring_of b x c a
unfolding by_mode
whole_is b x c a base n r p e k = in-mode b x c a (M.Whole n) r e (rw (k, p))
