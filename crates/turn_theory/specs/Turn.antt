-- One instruction run in turns: what a turn does, worked out from the state before it, and what a list of turns does.
-- Turn, allowance, passed and stretch are terms of document 01, 'One turn and its answer'. Everything here is over any instruction, so
-- it says nothing of registers or memory.
use Rattle.std.specs.Prelude.{◌≡◌, Bool, true, false, List, [], ◌∷◌, ℕ, zero, suc, ◌+◌, ◌-◌, ◌^◌, min, ltb}
use Rattle.std.proofs.Math.Option.{Option, none, some}

-- What one element does, by the state before: nothing (masked off), a fault, or a write.
pub data Effect (F W : Type 0) : Type 0 where
  inactive : Effect F W
  fault : F → Effect F W
  write : W → Effect F W

abbrev pub faults : {F W : Type 0} → Effect F W → Bool
faults inactive = false
faults (fault x) = true
faults (write w) = false

-- how a turn ends: nothing remains, the allowance is used up, an element faulted, or the word is illegal or the state refused
pub data Ending (F R : Type 0) : Type 0 where
  finished : Ending F R
  paused : Ending F R
  trapped : F → Ending F R
  rejected : R → Ending F R

-- The ending of a turn that an element with this effect stops: its fault. Nothing else stops a turn (`clean`), so that the first and the
-- last clause are never used
abbrev pub trap : {F W R : Type 0} → Effect F W → Ending F R
trap inactive = paused
trap (fault x) = trapped x
trap (write w) = paused

-- one more than k, or none where the test says that the first faults
abbrev pub until : Bool → ℕ → ℕ
until true k = zero
until false k = suc k

-- An instruction, worked out. `State` is all but vstart and the rights.
pub record Semantics : Type 1 where
  pub State : Type 0
  pub Rights : Type 0
  pub Write : Type 0
  -- what a fault tells, and what a rejection tells
  pub Fault : Type 0
  pub Rejection : Type 0
  -- the rejection of a turn, by rights, state and vstart; none where the word is legal
  pub rejection : Rights → State → ℕ → Option Rejection
  -- the number of elements
  pub count : State → ℕ
  -- what the element at an index does
  pub effect : Rights → State → ℕ → Effect Fault Write
  -- a write is carried out
  pub put : Write → State → State
  -- what is done once no element remains, by the vstart of the turn: nothing for an instruction of elements, all for one that has none
  pub finish : ℕ → State → State
  -- the second rights are the first, or raised: for proofs, a turn does not ask it
  pub Opens : Rights → Rights → Type 0

-- a state between turns
pub record Point (I : Semantics) : Type 0 where
  pub state : I.State
  pub vstart : ℕ

-- what a turn gives: how it ended, the number of elements passed, and the state and vstart that it leaves
pub record TurnEnd (I : Semantics) : Type 0 where
  pub ending : Ending I.Fault I.Rejection
  pub passed : ℕ
  pub after : Point I

-- what a turn is given besides the state
pub record Turn (I : Semantics) : Type 0 where
  pub rights : I.Rights
  pub allowance : ℕ

-- for proofs, not to be believed (machine/specs/Demands writes the number): the allowance of an uncut run
abbrev pub uncut_allowance : ℕ
uncut_allowance = 2 ^ 32 - 1

module _ (I : Semantics) where
  -- an effect is carried out; only a write changes the state
  abbrev pub apply : Effect I.Fault I.Write → I.State → I.State
  apply inactive s = s
  apply (fault x) s = s
  apply (write w) s = I.put w s

  -- s₀ decides what the n elements from i up write; s is the state that they are written into, the lowest first
  unfoldable pub written : I.Rights → I.State → ℕ → ℕ → I.State → I.State
  written r s₀ i zero s = s
  written r s₀ i (suc n) s = written r s₀ (suc i) n (apply (I.effect r s₀ i) s)

  -- for proofs, not to be believed: the loop in place, where each of the n elements from i up is worked out from the state as it is then
  unfoldable pub carried_in_place : I.Rights → ℕ → ℕ → I.State → I.State
  carried_in_place r i zero s = s
  carried_in_place r i (suc n) s = carried_in_place r (suc i) n (apply (I.effect r s i) s)

  -- of the n elements from i up, how many come before the first that faults: n where none does
  unfoldable pub clean : I.Rights → I.State → ℕ → ℕ → ℕ
  clean r s i zero = zero
  clean r s i (suc n) = until (faults (I.effect r s i)) (clean r s (suc i) n)

  -- how many elements remain from vstart up
  abbrev pub remaining : Point I → ℕ
  remaining p = I.count p.state - p.vstart

  -- the state once the k elements from vstart up have written
  abbrev pub passing : I.Rights → Point I → ℕ → I.State
  passing r p k = written r p.state p.vstart k p.state

  -- a legal turn that may pass n elements and passes k. The two tests: a fault stopped it; more remains than it may pass
  abbrev pub ended : Bool → Bool → I.Rights → Point I → ℕ → ℕ → TurnEnd I
  ended true more r p n k = record {
    ending = trap (I.effect r p.state (p.vstart + k));
    passed = k;
    after = record { state = passing r p k; vstart = p.vstart + k };
  }
  ended false true r p n k = record {
    ending = paused;
    passed = n;
    after = record { state = passing r p n; vstart = p.vstart + n };
  }
  ended false false r p n k = record {
    ending = finished;
    passed = n;
    after = record { state = I.finish p.vstart (passing r p n); vstart = zero };
  }

  -- a legal turn, by the number of elements that it may pass
  abbrev pub legal : I.Rights → Point I → ℕ → TurnEnd I
  legal r p n =
      let k : ℕ = clean r p.state p.vstart n in
      ended (ltb k n) (ltb n (remaining p)) r p n k

  abbrev pub answered : Option I.Rejection → Point I → TurnEnd I → TurnEnd I
  answered (some x) p o = record { ending = rejected x; passed = zero; after = p }
  answered none p o = o

  -- THE DEFINITION of a turn
  unfoldable pub turn : Turn I → Point I → TurnEnd I
  turn t p =
      answered (I.rejection t.rights p.state p.vstart) p
      (legal t.rights p (min t.allowance (remaining p)))

  -- ---- for proofs, not to be believed: lists of turns over any instruction. Those of the machine are in machine/specs/Demands

  -- a list of turns t ∷ us, each from where the one before it stopped: the last one's ending, and the passed counts added up
  unfoldable pub turns : Turn I → List (Turn I) → Point I → TurnEnd I
  turns t [] p = turn t p
  turns t (u ∷ us) p =
      let o : TurnEnd I = turn t p in
      let q : TurnEnd I = turns u us o.after in
      record { ending = q.ending; passed = o.passed + q.passed; after = q.after }

  -- none but the last of the turns finishes
  abbrev pub NoneFinishes : Turn I → List (Turn I) → Point I → Type 0
  NoneFinishes t [] p = Unit {0}
  NoneFinishes t (u ∷ us) p = ((turn t p).ending ≡ finished → ⊥) × NoneFinishes u us (turn t p).after

  -- from one turn to the next, rights are at most raised
  abbrev pub Opening : Turn I → List (Turn I) → Type 0
  Opening t [] = Unit {0}
  Opening t (u ∷ us) = I.Opens t.rights u.rights × Opening u us

  -- the rights that the last turn gets
  abbrev pub final_rights : Turn I → List (Turn I) → I.Rights
  final_rights t [] = t.rights
  final_rights t (u ∷ us) = final_rights u us

  -- the outcome of one uncut run from p under r
  abbrev pub uncut_run : I.Rights → Point I → TurnEnd I
  uncut_run r p = turn (record { rights = r; allowance = uncut_allowance }) p
