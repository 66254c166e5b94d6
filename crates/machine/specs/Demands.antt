-- What is demanded of the definition of a turn: demands 1 and 3 of the customer and the law of the number passed, as statements on
-- `turn_of`, on a board b.
use Rattle.std.specs.Prelude.{ℕ, ◌+◌, ◌-◌, ◌^◌, ◌≤◌, ◌<◌, ◌≡◌, ◌⊎◌, Bool, true, false, List, [], ◌∷◌, length, Err}
use Rattle.answer.specs.declared.Answer.{Answer}
use Rattle.answer.specs.declared.Answer.TheVariants.{Finished, Paused, Illegal}
use Rattle.answer.specs.declared.Answer.TheVariants.{LoadMisaligned, LoadAccess, StoreMisaligned, StoreAccess}
use Rattle.answer.specs.declared.Answer.TheVariants.{BadRegisters, BadScalars, BadMemory, BadRights, BadControl, NoGroup}
use Rattle.control.specs.declared.Board.{Board}
use Rattle.access.specs.Access.{nowhere}
use Rattle.refusal.specs.Refusal.{refusal_of}
use Rattle.machine.specs.State.{State, Outcome, with_rights}
use Rattle.machine.specs.Machine.{end_of, Opened, plan_at, turn_of}

-- "A trap is 4 to 7"; document 01 has one answer more here, which no call gives (document 02, A7)
abbrev pub is_trap : Answer → Bool
is_trap Finished = false
is_trap Paused = false
is_trap Illegal = false
is_trap LoadMisaligned = true
is_trap LoadAccess = true
is_trap StoreMisaligned = true
is_trap StoreAccess = true
is_trap BadRegisters = false
is_trap BadScalars = false
is_trap BadMemory = false
is_trap BadRights = false
is_trap BadControl = false
is_trap NoGroup = false

-- 2, and the refusals 32 to 36. "A word is legal where the definition's answer is neither"
abbrev pub changes_nothing : Answer → Bool
changes_nothing Finished = false
changes_nothing Paused = false
changes_nothing Illegal = true
changes_nothing LoadMisaligned = false
changes_nothing LoadAccess = false
changes_nothing StoreMisaligned = false
changes_nothing StoreAccess = false
changes_nothing BadRegisters = true
changes_nothing BadScalars = true
changes_nothing BadMemory = true
changes_nothing BadRights = true
changes_nothing BadControl = true
changes_nothing NoGroup = false

-- a turn that gives this answer and nothing else: no element passed, no fault, the state as it was
abbrev pub untouched : Answer → State → Outcome
untouched a s = record { answer = a; passed = 0; place = nowhere; after = s }

-- ---- DEMAND 1: every word on every state handed in gets one named answer; an illegal word or a refusal changes nothing
pub record Demand1 (b : Board) : Type 0 where
  -- 38 belongs to the register view alone
  pub named : (word allowance : ℕ) (s : State) → (turn_of b word allowance s).answer ≡ NoGroup → ⊥
  -- "A state that can't be is refused": 32 to 36, whatever the word is
  pub refuses : (word allowance : ℕ) (s : State) (a : Answer)
      → refusal_of b (length s.registers) (length s.scalars) (length s.memory) s.rights s.control ≡ Err a
      → turn_of b word allowance s ≡ untouched a s
  pub unchanged : (word allowance : ℕ) (s : State) → changes_nothing (turn_of b word allowance s).answer ≡ true
      → turn_of b word allowance s ≡ untouched (turn_of b word allowance s).answer s

-- ---- DEMAND 3: one instruction run in turns

-- a turn after the first: its allowance, and the rights that it gets
pub record Next : Type 0 where
  pub allowance : ℕ
  pub rights : List ℕ

-- a first turn of n, then the turns us, each from where the one before it stopped: the last one's answer, with the passed counts added up
unfoldable pub turns_of : Board → ℕ → State → ℕ → List Next → Outcome
turns_of b word s n [] = turn_of b word n s
turns_of b word s n (u ∷ us) =
    let o : Outcome = turn_of b word n s in
    let q : Outcome = turns_of b word (with_rights u.rights o.after) u.allowance us in
    record { answer = q.answer; passed = o.passed + q.passed; place = q.place; after = q.after }

-- the rights that the last turn gets
abbrev pub last_rights : List ℕ → List Next → List ℕ
last_rights r [] = r
last_rights r (u ∷ us) = last_rights u.rights us

-- nothing changes between turns but that after a trap pages may be opened
abbrev pub Between : Outcome → Next → Type 0
Between o u = (u.rights ≡ o.after.rights) ⊎ ((is_trap o.answer ≡ true) × Opened o.after.rights u.rights)

-- allowances are below 2^32, and no turn before the last answers 0
abbrev pub Proceeds : Board → ℕ → State → ℕ → List Next → Type 0
Proceeds b word s n [] = n < 2 ^ 32
Proceeds b word s n (u ∷ us) =
    (n < 2 ^ 32)
    × (((turn_of b word n s).answer ≡ Finished → ⊥)
    × (Between (turn_of b word n s) u
    × Proceeds b word (with_rights u.rights (turn_of b word n s).after) u.allowance us))

pub record Demand3 (b : Board) : Type 0 where
  -- "One instruction run in turns, with any allowances, through pauses and traps (after which pages may be opened), ends where one uncut
  -- run would, and the passed counts add up": answer, passed count, place of a fault and all five parts
  pub uncut : (word n : ℕ) (s : State) (us : List Next) → Proceeds b word s n us → (turns_of b word s n us).answer ≡ Finished
      → turn_of b word (2 ^ 32 - 1) (with_rights (last_rights s.rights us) s) ≡ turns_of b word s n us
  -- "each turn makes progress"
  pub progress : (word n : ℕ) (s : State) → changes_nothing (turn_of b word n s).answer ≡ false → 1 ≤ n
      → (1 ≤ (turn_of b word n s).passed) ⊎ ((is_trap (turn_of b word n s).answer ≡ true) ⊎ ((turn_of b word n s).answer ≡ Finished))
  -- "a larger allowance or wider rights change nothing else"
  pub monotone : (word n m : ℕ) (s : State) (r : List ℕ) → n ≤ m → Opened s.rights r → (turn_of b word n s).answer ≡ Finished
      → turn_of b word m (with_rights r s)
      ≡ record { answer = Finished; passed = (turn_of b word n s).passed; place = nowhere; after = with_rights r (turn_of b word n s).after }

-- ---- the number of elements passed: "on 1 and 4 to 7 it is vstart's own advance; on 0, what remained"
pub record Counts (b : Board) : Type 0 where
  pub advance : (word n : ℕ) (s : State) → changes_nothing (turn_of b word n s).answer ≡ false → ((turn_of b word n s).answer ≡ Finished → ⊥)
      → (turn_of b word n s).after.control.vstart ≡ s.control.vstart + (turn_of b word n s).passed
  pub remained : (word n : ℕ) (s : State) → (turn_of b word n s).answer ≡ Finished
      → ((turn_of b word n s).passed ≡ end_of (plan_at b word s) - s.control.vstart) × ((turn_of b word n s).after.control.vstart ≡ 0)

-- ---- all of it
pub record Demands (b : Board) : Type 0 where
  pub total : Demand1 b
  pub resumable : Demand3 b
  pub counts : Counts b
