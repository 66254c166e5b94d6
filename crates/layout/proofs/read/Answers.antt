use Prim.Native.Nat.{◌+◌, ◌-◌, ◌<◌}
use mathlib.Core.Path.{◌≡◌}
use native.Mathlib.Omega.{arith}
use Rattle.layout.specs.Layout.{bytes_at}
use Rattle.layout.proofs.BytesLaws.{read-none, read-more, read-all, bytes-room, slice-bytes, bytes_lt}
use Rattle.layout.proofs.read.Goals as goal

pub loop-k-init : goal.loop-k-init
loop-k-init g c = read-none _ _ _

pub overflow_mul-x : goal.overflow_mul-x
overflow_mul-x g c = omega (arith, bytes-room _ _ _ c.loop-k.x 0 (slice-bytes _ c.type_inv.l) (omega arith) c.loop-k.invariant (omega arith))

pub overflow_add-x : goal.overflow_add-x
overflow_add-x g c =
    let y : c.from.result < 256 = rw c.from.ensures (c.type_inv.l (c.args.a + (c.loop-k.k - 1))).fits in
    bytes-room _ _ _ c.loop-k.x c.from.result (slice-bytes _ c.type_inv.l) (omega arith) c.loop-k.invariant y

pub loop-k-preserved : goal.loop-k-preserved
loop-k-preserved g c = read-more _ _ _ _ _ _ (omega arith) (omega arith) c.loop-k.invariant c.from.ensures

pub returns : goal.returns
returns g c =
    let e : c.loop-k.x ≡ bytes_at c.args.l.now c.args.a g.row.N = read-all _ _ _ _ _ (omega arith) c.loop-k.invariant in
    (e, rw e (bytes_lt _ _ _ (slice-bytes _ c.type_inv.l)))
