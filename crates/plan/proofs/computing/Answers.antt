use Prim.Native.Nat.{ℕ}
use mathlib.Core.Path.{◌≡◌}
use mathlib.Core.Bool.{Bool, true, cond}
use mathlib.Core.List.{List}
use Rattle.fixed.specs.declared.Vxrm.{Vxrm}
use Rattle.fixed.specs.Round.{vxrm_of}
use Rattle.operation.specs.declared.Shape.{Shape}
use Rattle.operation.specs.Shape.{shape_of}
use Rattle.control.specs.declared.Control.{Control}
use Rattle.control.specs.Vtype.{sew_of}
use Rattle.decode.specs.declared.Arithmetic.{Arithmetic}
use Rattle.group.specs.declared.Group.{Group}
use Rattle.plan.specs.declared.Read.{Read}
use Rattle.plan.specs.declared.Read.TheVariants as R
use Rattle.plan.specs.declared.Action.TheVariants as A
use Rattle.plan.specs.Plan.{read_at, group_of, second_of, v0_read, v0_masks, shaped_of, computing_of}
use Rattle.plan.proofs.computing.Goals as goal

is-computing : (x : List ℕ) (c : Control) (a : Arithmetic) (s : Shape) (result vs2 vs1 vd v0 : Read) (dest : Group) (masked : Bool)
    (sew : ℕ) (vxrm : Vxrm)
    → s ≡ shape_of a.op
    → result ≡ read_at c.vtype s.vd a.vd
    → vs2 ≡ read_at c.vtype s.vs2 a.vs2
    → vs1 ≡ second_of x c.vtype s.vs1 s.unsigned a.source
    → vd ≡ cond s.accumulates result (R.Constant 0)
    → dest ≡ group_of result
    → v0 ≡ v0_read s.v0 a.masked
    → sew ≡ sew_of c.vtype
    → vxrm ≡ vxrm_of c.vxrm
    → masked ≡ v0_masks s.v0 a.masked
    → record {
      dest = dest;
      vs2 = vs2;
      vs1 = vs1;
      vd = vd;
      v0 = v0;
      masked = masked;
      typed = true;
      end = c.vl;
      action = A.Compute (record { op = a.op; sew = sew; vxrm = vxrm });
    } ≡ computing_of x c a
unfolding shaped_of
is-computing x c a s result vs2 vs1 vd v0 dest masked sew vxrm e1 e2 e3 e4 e5 e6 e7 e8 e9 e10 = rw (e10, e9, e8, e7, e6, e5, e4, e3, e2, e1)

pub returns : goal.returns
returns c = search is-computing
