-- For proofs, not to be believed: what is claimed of every lawful instruction run in turns; `Laws` of proofs/ proves each claim. What is
-- demanded of the machine is said on `turn_of`, in machine/specs/Demands, and does not cite this file.
use Rattle.std.specs.Prelude.{◌≡◌, false, List, ℕ, zero, ◌+◌, ◌-◌, ◌≤◌, ◌<◌}
use Rattle.std.proofs.Math.Option.{none}
use Rattle.turn_theory.specs.Turn.{write, faults, Semantics, finished, trapped, Point, TurnEnd, Turn, written, carried_in_place, turn}
use Rattle.turn_theory.specs.Turn.{turns}
use Rattle.turn_theory.specs.Turn.{NoneFinishes, Opening, final_rights, uncut_allowance, uncut_run}

-- An instruction is lawful if no element changes what a later one does, and raised rights change only elements that fault.
pub record Lawful (I : Semantics) : Type 0 where
  -- STABLE: a legal instruction's element j leaves what a later element i does as it was
  pub stable : (r : I.Rights) (s : I.State) (v j i : ℕ) (w : I.Write) → I.rejection r s v ≡ none → j < i → i < I.count s
      → I.effect r s j ≡ write w → I.effect r (I.put w s) i ≡ I.effect r s i
  pub put_count : (w : I.Write) (s : I.State) → I.count (I.put w s) ≡ I.count s
  pub put-legal : (r : I.Rights) (w : I.Write) (s : I.State) (v : ℕ) → I.rejection r s v ≡ none → I.rejection r (I.put w s) v ≡ none
  pub raised : (r r' : I.Rights) (s : I.State) (i : ℕ) → I.Opens r r' → faults (I.effect r s i) ≡ false
      → I.effect r' s i ≡ I.effect r s i
  pub raised-legal : (r r' : I.Rights) (s : I.State) (v : ℕ) → I.Opens r r' → I.rejection r s v ≡ none → I.rejection r' s v ≡ none
  pub bounded : (r : I.Rights) (s : I.State) (v : ℕ) → I.rejection r s v ≡ none → I.count s ≤ uncut_allowance
  -- where there are elements, the finish does not go by vstart
  pub finish-any : (s : I.State) (v w : ℕ) → 0 < I.count s → I.finish v s ≡ I.finish w s
  pub opens-trans : (r r' r'' : I.Rights) → I.Opens r r' → I.Opens r' r'' → I.Opens r r''
  pub opens-refl : (r : I.Rights) → I.Opens r r

-- ---- a change of the state between turns

module _ (I : Semantics) (c : I.State → I.State) where
  abbrev pub changed_point : Point I → Point I
  changed_point p = record { state = c p.state; vstart = p.vstart }

  abbrev pub changed_end : TurnEnd I → TurnEnd I
  changed_end o = record { ending = o.ending; passed = o.passed; after = changed_point o.after }

  -- UNSEEN: what is left of the instruction at s, from element v up, neither reads what the change changes nor writes it
  pub record Unseen (s : I.State) (v : ℕ) : Type 0 where
    pub rejection : (r : I.Rights) → I.rejection r (c s) v ≡ I.rejection r s v
    pub count : I.count (c s) ≡ I.count s
    pub effect : (r : I.Rights) (k : ℕ) → v ≤ k → k < I.count s → I.effect r (c s) k ≡ I.effect r s k
    pub put : (r : I.Rights) (k : ℕ) (w : I.Write) → v ≤ k → k < I.count s → I.effect r s k ≡ write w
        → (x : I.State) → I.put w (c x) ≡ c (I.put w x)
    pub finish : (x : I.State) → I.finish v (c x) ≡ c (I.finish v x)

  -- a turn from a state with a change that it does not see is the turn from that state, and then the change
  abbrev pub PassesBy : Type 0
  PassesBy = (t : Turn I) (p : Point I) → Unseen p.state p.vstart → turn I t (changed_point p) ≡ changed_end (turn I t p)

module _ (I : Semantics) where
  -- PROGRESS: a turn of a legal word with an allowance of at least 1 passes an element, traps or finishes
  pub data Progress (o : TurnEnd I) : Type 0 where
    passes : zero < o.passed → Progress o
    traps : (x : I.Fault) → o.ending ≡ trapped x → Progress o
    finishes : o.ending ≡ finished → Progress o

  -- SPLITTING: a stretch of a + b elements is a stretch of a, and then, from the state that it leaves, a stretch of b
  abbrev pub Splits : Type 0
  Splits = (r : I.Rights) (s : I.State) (v i a b : ℕ) → I.rejection r s v ≡ none → a + b ≤ I.count s - i
      → written I r s i (a + b) s ≡ written I r (written I r s i a s) (i + a) b (written I r s i a s)

  -- IN PLACE: the loop that works each element out from the state as it is then does what the definition says
  abbrev pub InPlace : Type 0
  InPlace = (r : I.Rights) (s : I.State) (v i n : ℕ) → I.rejection r s v ≡ none → n ≤ I.count s - i
      → carried_in_place I r i n s ≡ written I r s i n s

  -- PROGRESS
  abbrev pub Progresses : Type 0
  Progresses =
      (t : Turn I) (p : Point I) → zero < t.allowance → I.rejection t.rights p.state p.vstart ≡ none → Progress (turn I t p)

  -- MONOTONE: a turn that finishes also finishes with a larger allowance and with pages opened further, with the same outcome
  abbrev pub Monotone : Type 0
  Monotone = (t u : Turn I) (p : Point I) → I.Opens t.rights u.rights → t.allowance ≤ u.allowance
      → (turn I t p).ending ≡ finished → turn I u p ≡ turn I t p

  -- DEMAND 3: whatever turns, pauses, traps, rejections and openings of pages there were, if the last turn finishes and none before it
  -- does, the outcome is that of one uncut run from the first state under the last turn's rights, with the passed counts added up
  abbrev pub Uncut : Type 0
  Uncut = (t : Turn I) (us : List (Turn I)) (p : Point I) → Opening I t us → NoneFinishes I t us p
      → (turns I t us p).ending ≡ finished
      → turns I t us p ≡ uncut_run I (final_rights I t us) p
