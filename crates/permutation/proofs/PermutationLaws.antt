-- Element i of a permutation, from what the code has worked out.
use Rattle.std.specs.Prelude.{Ok}
use Prim.Native.Nat.{ℕ}
use mathlib.Core.Path.{◌≡◌, sym, ◌∙◌}
use mathlib.Core.Bool.{Bool, true, false}
use mathlib.Core.List.{List}
use Rattle.control.specs.declared.Control.{Control}
use Rattle.layout.specs.Layout.{with_element}
use Rattle.plan.specs.declared.Permute.{Permute}
use Rattle.plan.specs.declared.Elementwise.{Elementwise}
use Rattle.machine.specs.Effect.{put_of, put_all, value_of, vs2_at, stays_at, permuted_of, permuting}
use Rattle.execute.specs.Step.{core_at, Did}

module _ (vlenb : ℕ) (file memory scalars : List ℕ) (c : Control) (e : Elementwise) (p : Permute) (i x : ℕ) (t : Bool)
    (q : x ≡ value_of vlenb file e.vs1 i) (s : t ≡ stays_at p.op x i) where
  stays-is : stays_at p.op (value_of vlenb file e.vs1 i) i ≡ t
  stays-is = rw (← q) (sym s)

  pub stayed : t ≡ true
      → Did vlenb (permuting vlenb file e p i) (core_at file memory scalars c) (Ok tt) (core_at file memory scalars c)
  stayed h = let g = stays-is ∙ h in record { check = rw g; state = rw g }

  pub moved : (z : ℕ) (file' : List ℕ) → t ≡ false
      → z ≡ permuted_of p.op p.sew e.end (vs2_at vlenb file e.vs2 p.vlmax) x i
      → file' ≡ with_element vlenb file e.dest.reg e.dest.eew i z
      → Did vlenb (permuting vlenb file e p i) (core_at file memory scalars c) (Ok tt) (core_at file' memory scalars c)
  unfolding put_all put_of
  moved z file' h k r = let g = stays-is ∙ h in record { check = rw g; state = rw (g, ← q, r, k) }
