use Prim.Native.Nat.{ℕ}
use mathlib.Core.Path.{◌≡◌}
use mathlib.Core.Bool.{Bool, not, ◌&&◌, ◌||◌, and_assoc}
use lib.Dec.{eqb}
use Rattle.group.specs.Group.{placed_of, spares_v0}
use Rattle.plan.specs.declared.Elementwise.{Elementwise}
use Rattle.legality.specs.Legal.{read_fits, writes_registers, is_strict, is_bit, operands_fit}
use Rattle.legality.proofs.operands_fit.Goals as goal

operands-are : (elen : ℕ) (e : Elementwise) (w s placed vs2 vs1 vd bit spared : Bool)
    → w ≡ writes_registers e.action
    → s ≡ is_strict e.action
    → placed ≡ placed_of elen e.dest
    → vs2 ≡ read_fits elen w s e.dest e.vs2
    → vs1 ≡ read_fits elen w s e.dest e.vs1
    → vd ≡ read_fits elen w s e.dest e.vd
    → bit ≡ is_bit e.v0
    → spared ≡ spares_v0 (e.masked || bit) e.dest
    → ((eqb e.dest.eew 1 || placed) && vs2 && vs1 && vd && (not w || spared)) ≡ operands_fit elen e
unfolding operands_fit
operands-are elen e w s placed vs2 vs1 vd bit spared e1 e2 e3 e4 e5 e6 e7 e8 =
    rw (e8, e7, e6, e5, e4, e3, e2, e1, and_assoc, and_assoc, and_assoc)

pub returns : goal.returns
returns c = search operands-are
