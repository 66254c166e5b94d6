-- The ten operators: a result fits the accumulator, which is no narrower than SEW.
use Prim.Native.Nat.{ℕ, ◌^◌, ◌<◌, ◌≤◌}
use native.Mathlib.Omega.{arith}
use Rattle.width.proofs.Bounds.{bounds}
use Rattle.decode.specs.declared.ReductionOp.{ReductionOp}
use Rattle.decode.specs.declared.ReductionOp.TheVariants.{Vredsum, Vredand, Vredor, Vredxor, Vredminu, Vredmin, Vredmaxu, Vredmax}
use Rattle.decode.specs.declared.ReductionOp.TheVariants.{Vwredsumu, Vwredsum}
use Rattle.plan.specs.Plan.{scalar_eew}
use Rattle.machine.specs.OneTurn.{joined_by}

pub joined-lt : (op : ReductionOp) (sew acc x : ℕ) → acc < 2 ^ scalar_eew op sew → x < 2 ^ sew → joined_by op sew acc x < 2 ^ scalar_eew op sew
joined-lt Vredsum sew acc x h k = search bounds
joined-lt Vredand sew acc x h k = search bounds
joined-lt Vredor sew acc x h k = search bounds
joined-lt Vredxor sew acc x h k = search bounds
joined-lt Vredminu sew acc x h k = search bounds
joined-lt Vredmin sew acc x h k = search bounds
joined-lt Vredmaxu sew acc x h k = search bounds
joined-lt Vredmax sew acc x h k = search bounds
joined-lt Vwredsumu sew acc x h k = search bounds
joined-lt Vwredsum sew acc x h k = search bounds

pub within : (op : ReductionOp) (sew : ℕ) → scalar_eew op sew ≤ 64 → sew ≤ 64
within Vredsum sew h = h
within Vredand sew h = h
within Vredor sew h = h
within Vredxor sew h = h
within Vredminu sew h = h
within Vredmin sew h = h
within Vredmaxu sew h = h
within Vredmax sew h = h
within Vwredsumu sew h = omega arith
within Vwredsum sew h = omega arith
