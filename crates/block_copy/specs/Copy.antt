-- For contracts of inner functions, not to be believed: bytes copied one after the other, and what moving elements so relies on.
use Rattle.std.specs.Prelude.{ℕ, zero, suc, ◌+◌, ◌*◌, ◌≤◌, ◌<◌, ◌≡◌, Bool, true, false, not, ◌&&◌, List, get_or, set, T, eqb, Ok}
use Rattle.control.specs.declared.Board.{Board}
use Rattle.layout.specs.Layout.{byte_size}
use Rattle.plan.specs.declared.Read.{Read}
use Rattle.plan.specs.declared.Read.TheVariants as R
use Rattle.plan.specs.declared.Action.TheVariants as A
use Rattle.plan.specs.declared.Transfer.{Transfer}
use Rattle.plan.specs.declared.Elementwise.{Elementwise}
use Rattle.execute.specs.Step.{Ready}
use Rattle.unit_stride.specs.Tested.{all, test_of}

-- the list `to` with n bytes of `from`, from index a on, at the index at
unfoldable pub copied : List ℕ → ℕ → List ℕ → ℕ → ℕ → List ℕ
copied to at from a zero = to
copied to at from a (suc n) = set (copied to at from a n) (at + n) (get_or from (a + n) 0)

-- each element, of one field, lies after the one before it in memory, and all are active
abbrev pub starts_at : Read → Bool
starts_at (R.Constant x) = eqb x 0
starts_at (R.Element g) = false
starts_at (R.Bit reg) = false

abbrev pub in_order_of : Elementwise → Transfer → Bool
in_order_of e t = starts_at e.vs2 && (not e.masked && (eqb t.stride t.bytes && eqb e.dest.nf 0))

-- where r is true, none of the n elements from element v up faults
pub record AllGranted (rights : List ℕ) (memory : ℕ) (t : Transfer) (v n : ℕ) (r : Bool) : Type 0 where
  pub each : r ≡ true → (j : ℕ) → j < n → test_of all rights memory t (v + j) ≡ Ok tt

-- the n elements from element v up of a plan that loads or stores
pub record Copyable (b : Board) (size memory : ℕ) (e : Elementwise) (t : Transfer) (v n : ℕ) : Type 0 where
  pub action : e.action ≡ A.Transfer t
  pub memory-length : memory ≤ 65536
  pub few : v + n ≤ 256
  pub ready : (j : ℕ) → j < n → Ready size b.vlenb e (v + j)
  -- where there are any
  pub bytes : 1 ≤ n → T (byte_size t.bytes)
  pub eew : 1 ≤ n → e.dest.eew ≡ 8 * t.bytes
  pub short : 1 ≤ n → n * t.bytes ≤ 128
