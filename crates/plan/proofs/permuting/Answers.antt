use Prim.Native.Nat.{ℕ}
use mathlib.Core.Path.{◌≡◌}
use mathlib.Core.Bool.{true}
use mathlib.Core.List.{List}
use Rattle.control.specs.declared.Board.{Board}
use Rattle.control.specs.declared.Control.{Control}
use Rattle.control.specs.Vtype.{sew_of, vlmax_of}
use Rattle.decode.specs.declared.PermutationInstruction.{PermutationInstruction}
use Rattle.group.specs.declared.Group.{Group}
use Rattle.plan.specs.declared.Read.{Read}
use Rattle.plan.specs.declared.Read.TheVariants as R
use Rattle.plan.specs.declared.Action.TheVariants as A
use Rattle.plan.specs.Plan.{group_at, moved_elements, moved_by, permuting_of}
use Rattle.plan.proofs.permuting.Goals as goal

is-permuting : (b : Board) (x : List ℕ) (c : Control) (a : PermutationInstruction) (sew vlmax : ℕ) (dest : Group) (vs2 vs1 : Read)
    → sew ≡ sew_of c.vtype
    → vlmax ≡ vlmax_of b c.vtype
    → dest ≡ group_at c.vtype sew a.vd
    → vs2 ≡ moved_elements c.vtype a.op a.vs2
    → vs1 ≡ moved_by x c.vtype a.op a.source
    → record {
      dest = dest;
      vs2 = vs2;
      vs1 = vs1;
      vd = R.Constant 0;
      v0 = R.Constant 0;
      masked = a.masked;
      typed = true;
      end = c.vl;
      action = A.Permute (record { op = a.op; sew = sew; vlmax = vlmax });
    } ≡ permuting_of b x c a
unfolding permuting_of
is-permuting b x c a sew vlmax dest vs2 vs1 e1 e2 e3 e4 e5 = rw (e5, e4, e3, e2, e1)

pub returns : goal.returns
returns c = search is-permuting
