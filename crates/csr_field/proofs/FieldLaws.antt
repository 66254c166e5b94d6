-- A write that is let through changes the field that its number names, and VS: the record after it, field by field.
use Prim.Native.Nat.{ℕ, ◌*◌, ◌/◌, ◌%◌}
use mathlib.Core.Path.{◌≡◌, refl}
use mathlib.Core.Bool.{Bool, true, false}
use native.Mathlib.Omega.{arith}
use borrow.Author.Tests.{eqb-true}
use lib.Dec.{eqb}
use Rattle.std.specs.Prelude.{Result, Ok, Err}
use Rattle.answer.specs.declared.Answer.{Answer}
use Rattle.answer.specs.declared.Answer.TheVariants.{Illegal, BadControl}
use Rattle.control.specs.declared.Board.{Board}
use Rattle.control.specs.declared.Control.{Control}
use Rattle.control.specs.Control.{with_vstart, with_vxrm, with_vxsat, with_vs, dirtied, is_off, possible_of}
use Rattle.csr.specs.Csr.{written_of, record_after}

either : {P : Type 0} (t : Bool) → (t ≡ true → P) → (t ≡ false → P) → P
either true f g = f refl
either false f g = g refl

module _ (b : Board) (c : Control) (csr x : ℕ) where
  -- by the outcome of a write
  outcomes : (P : Result Control Answer → Type 0) → ((a : Answer) → P (Err a))
      → ((i : ℕ) → csr ≡ 0x008 → P (Ok (dirtied (with_vstart c i)))) → ((i : ℕ) → csr ≡ 0x009 → P (Ok (dirtied (with_vxsat c i))))
      → ((i : ℕ) → csr ≡ 0x00A → P (Ok (dirtied (with_vxrm c i))))
      → ((i j : ℕ) → csr ≡ 0x00F → P (Ok (dirtied (with_vxsat (with_vxrm c i) j)))) → P (written_of b c csr x)
  unfolding written_of
  outcomes P bad vstart vxsat vxrm vcsr =
      either (possible_of b c)
      (λ p. either (is_off c) (λ s. rw (p, s) (bad Illegal))
      (λ s. either (eqb csr 0x008) (λ e. rw (p, s, e) (vstart (x % (8 * b.vlenb)) (eqb-true _ _ e)))
      (λ e₁. either (eqb csr 0x009) (λ e. rw (p, s, e₁, e) (vxsat (x % 2) (eqb-true _ _ e)))
      (λ e₂. either (eqb csr 0x00A) (λ e. rw (p, s, e₁, e₂, e) (vxrm (x % 4) (eqb-true _ _ e)))
      (λ e₃. either (eqb csr 0x00F) (λ e. rw (p, s, e₁, e₂, e₃, e) (vcsr (x / 2 % 4) (x % 2) (eqb-true _ _ e)))
      (λ e. rw (p, s, e₁, e₂, e₃, e) (bad Illegal)))))))
      (λ p. rw p (bad BadControl))

  abbrev Stored : Control → Control → Type 0
  Stored kept d = Ok d ≡ written_of b c csr x → kept ≡ record_after c (written_of b c csr x)

  pub vstart-stored : (d : Control) → csr ≡ 0x008 → Stored (with_vs (with_vstart c d.vstart) d.vs) d
  vstart-stored d e = outcomes (λ r. Ok d ≡ r → with_vs (with_vstart c d.vstart) d.vs ≡ record_after c r)
      (λ a h. cc) (λ i k h. let l : d ≡ dirtied (with_vstart c i) = cc in rw l) (λ i k h. absurd (omega arith)) (λ i k h. absurd (omega arith))
      (λ i j k h. absurd (omega arith))

  pub vxsat-stored : (d : Control) → csr ≡ 0x009 → Stored (with_vs (with_vxsat c d.vxsat) d.vs) d
  vxsat-stored d e = outcomes (λ r. Ok d ≡ r → with_vs (with_vxsat c d.vxsat) d.vs ≡ record_after c r)
      (λ a h. cc) (λ i k h. absurd (omega arith)) (λ i k h. let l : d ≡ dirtied (with_vxsat c i) = cc in rw l) (λ i k h. absurd (omega arith))
      (λ i j k h. absurd (omega arith))

  pub vxrm-stored : (d : Control) → csr ≡ 0x00A → Stored (with_vs (with_vxrm c d.vxrm) d.vs) d
  vxrm-stored d e = outcomes (λ r. Ok d ≡ r → with_vs (with_vxrm c d.vxrm) d.vs ≡ record_after c r)
      (λ a h. cc) (λ i k h. absurd (omega arith)) (λ i k h. absurd (omega arith)) (λ i k h. let l : d ≡ dirtied (with_vxrm c i) = cc in rw l)
      (λ i j k h. absurd (omega arith))

  pub vcsr-stored : (d : Control) → (csr ≡ 0x008 → ⊥) → (csr ≡ 0x009 → ⊥) → (csr ≡ 0x00A → ⊥)
      → Stored (with_vs (with_vxsat (with_vxrm c d.vxrm) d.vxsat) d.vs) d
  vcsr-stored d n₁ n₂ n₃ = outcomes (λ r. Ok d ≡ r → with_vs (with_vxsat (with_vxrm c d.vxrm) d.vxsat) d.vs ≡ record_after c r)
      (λ a h. cc) (λ i k h. absurd (n₁ k)) (λ i k h. absurd (n₂ k)) (λ i k h. absurd (n₃ k))
      (λ i j k h. let l : d ≡ dirtied (with_vxsat (with_vxrm c i) j) = cc in rw l)
