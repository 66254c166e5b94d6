-- The operations that have a kernel; one element of a stretch, by the plan that it says; so many of them.
use Rattle.std.specs.Prelude.{Ok}
use Prim.Native.Nat.{ℕ, suc, ◌+◌, ◌-◌, ◌*◌, ◌≤◌, ◌<◌}
use mathlib.Core.Path.{◌≡◌, refl, ap, subst, ◌∙◌}
use mathlib.Core.Bool.{true}
use mathlib.Core.List.{List}
use native.Mathlib.Omega.{arith}
use lib.ListN.{length}
use Rattle.fixed.specs.declared.Vxrm.{Vxrm}
use Rattle.fixed.specs.declared.Vxrm.TheVariants.{Rnu}
use Rattle.fixed.specs.Round.{exact}
use Rattle.operation.specs.declared.Op.{Op}
use Rattle.operation.specs.declared.Op.TheVariants.{Vadd, Vsub, Vand, Vor, Vxor, Vmul, Vmacc}
use Rattle.operation.specs.declared.Size.TheVariants.{Single}
use Rattle.operation.specs.declared.Shape.{Shape}
use Rattle.operation.specs.Shape.{shape_of, maskable_of}
use Rattle.alu.specs.Element.{element_of}
use Rattle.control.specs.declared.Board.{Board}
use Rattle.control.specs.declared.Control.{Control}
use Rattle.layout.specs.Layout.{bytes_at, with_bytes}
use Rattle.layout.proofs.BytesLaws.{length-with_bytes}
use Rattle.layout.proofs.ElementLaws.{with-several}
use Rattle.plan.specs.declared.Elementwise.{Elementwise}
use Rattle.machine.specs.Effect.{put_of, put_all, acting_of, effect_of}
use Rattle.execute.specs.Step.{core_at, Did, none, more}
use Rattle.execute.proofs.StepLaws.{acted}
use Rattle.kernel.specs.declared.Stretch.{Stretch}
use Rattle.kernel.specs.declared.Kernelled.{Kernelled}
use Rattle.kernel.specs.declared.Kernelled.TheVariants as K
use Rattle.kernel.specs.Kernel.{operation_at, second_at, lane_of, Described, Swept, Placed}

-- ---- the operations

-- all operands have SEW bits; no rounding mode and no bit of v0 matters, and vd only where it is a source
pub record Plain (op : Op) : Type 0 where
  pub vd : (shape_of op).vd ≡ Single
  pub vs2 : (shape_of op).vs2 ≡ Single
  pub vs1 : (shape_of op).vs1 ≡ Single
  pub same : (w a b d d' c : ℕ) (rm : Vxrm) → ((shape_of op).accumulates ≡ true → d ≡ d')
      → element_of w rm a b d c op ≡ element_of w Rnu a b d' 0 op

two-sources : (op : Op) → shape_of op ≡ maskable_of Single Single Single
    → ((w a b d d' c : ℕ) (rm : Vxrm) → element_of w rm a b d c op ≡ element_of w Rnu a b d' 0 op) → Plain op
two-sources op e f = record {
  vd = ap (λ (s : Shape). s.vd) e;
  vs2 = ap (λ (s : Shape). s.vs2) e;
  vs1 = ap (λ (s : Shape). s.vs1) e;
  same = λ w a b d d' c rm h. f w a b d d' c rm;
}

three-sources : Plain Vmacc
three-sources = record { vd = refl; vs2 = refl; vs1 = refl; same = λ w a b d d' c rm h. rw (h refl) }

pub plain : (o : Kernelled) → Plain (operation_at o)
plain K.Add = two-sources Vadd refl (λ w a b d d' c rm. refl)
plain K.Sub = two-sources Vsub refl (λ w a b d d' c rm. refl)
plain K.And = two-sources Vand refl (λ w a b d d' c rm. refl)
plain K.Or = two-sources Vor refl (λ w a b d d' c rm. refl)
plain K.Xor = two-sources Vxor refl (λ w a b d d' c rm. refl)
plain K.Mul = two-sources Vmul refl (λ w a b d d' c rm. refl)
plain K.Macc = three-sources

-- ---- a stretch, while so much of it is done

module _ (s : Stretch) (op : Op) (n : ℕ) where
  -- element i, from what the code has worked out
  lane_did : (file file' : List ℕ) (i r : ℕ) → exact r ≡ lane_of s op n file i → file' ≡ with_bytes file (s.vd + i * n) n r
      → (b : Board) (e : Elementwise) → Described s op n b.vlenb e → (rights memory scalars : List ℕ) (c : Control)
      → Did b.vlenb (effect_of b rights (core_at file memory scalars c) e i) (core_at file memory scalars c) (Ok tt)
      (core_at file' memory scalars c)
  unfolding acting_of put_all put_of
  lane_did file file' i r p q b e m rights memory scalars c =
      acted b rights (core_at file memory scalars c) e i true (rw m.unmasked) refl m.action (record {
        check = refl;
        state = rw (m.element file i, ← p, m.eew, with-several b.vlenb file e.dest.reg n i r, m.dest, q);
      })

  pub record Sweeping (file₀ file : List ℕ) (i : ℕ) : Type 0 where
    pub least : s.from ≤ i
    pub most : i ≤ s.end
    pub same_length : length file ≡ length file₀
    pub swept : Swept s op n (i - s.from) file₀ file

  pub sweeping-none : (file : List ℕ) → Placed (length file) s n → Sweeping file file s.from
  sweeping-none file p = record {
    least = omega arith;
    most = p.ordered;
    same_length = refl;
    swept = record { ran = λ b e m rights memory scalars c. let z : s.from - s.from ≡ 0 = omega arith in rw z none };
  }

  module _ (file₀ file : List ℕ) (i : ℕ) (g : Sweeping file₀ file i) where
    pub sweeping-more : (file' : List ℕ) (a b d r : ℕ) → i < s.end → a ≡ bytes_at file (s.vs2 + i * n) n
        → b ≡ second_at file s.vs1 n (i * n) → d ≡ bytes_at file (s.vd + i * n) n → exact r ≡ element_of (8 * n) Rnu a b d 0 op
        → file' ≡ with_bytes file (s.vd + i * n) n r → Sweeping file₀ file' (i + 1)
    sweeping-more file' a b d r l p q u h w = record {
      least = omega (arith, g.least);
      most = omega arith;
      same_length = rw w (length-with_bytes file (s.vd + i * n) n r) ∙ g.same_length;
      swept = record {
        ran = λ b e m rights memory scalars c.
            let here : s.from + (i - s.from) ≡ i = omega (arith, g.least) in
            let next : i + 1 - s.from ≡ suc (i - s.from) = omega (arith, g.least) in
            rw next (more (i - s.from) (core_at file memory scalars c) (core_at file' memory scalars c)
            (g.swept.ran b e m rights memory scalars c)
            (rw here (lane_did file file' i r (rw (p, q, u) at h) w b e m rights memory scalars c)));
      };
    }

    pub sweeping-done : s.end ≤ i → Swept s op n (s.end - s.from) file₀ file
    sweeping-done l =
        let z : i - s.from ≡ s.end - s.from = omega (arith, g.most) in
        subst (λ (k : ℕ). Swept s op n k file₀ file) z g.swept
