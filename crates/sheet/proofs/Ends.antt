-- Each word of a sheet ends: the 129 turns that the definition takes at most are always enough. So are the first 1,000 bytes of a sheet.
use Prim.Native.Nat.{ℕ, zero, suc, ◌+◌, ◌*◌, ◌≤◌, ◌<◌}
use mathlib.Core.Path.{◌≡◌, sym, ap, ◌∙◌}
use mathlib.Core.Logic.{⊎_elim}
use mathlib.Core.Bool.{true, false}
use mathlib.Core.List.{List}
use mathlib.Core.Option.{none}
use native.Mathlib.Omega.{arith}
use lib.Dec.{eqb, lit≤}
use lib.ListN.{take}
use borrow.Author.Tests.{eqb-true, eqb-false, ne_eqb}
use Rattle.laws.proofs.Chain.{either}
use Rattle.answer.specs.declared.Answer.TheVariants.{Paused}
use Rattle.answer.specs.Answer.{number_of}
use Rattle.control.specs.declared.Board.{Board}
use Rattle.control.specs.Board.{Valid, base}
use Rattle.control.proofs.Laws.{base-valid, possible-apart}
use Rattle.plan.specs.declared.Plan.{Plan}
use Rattle.turn_theory.specs.Turn.{Semantics, TurnEnd}
use Rattle.turn_theory.proofs.Laws.{turn-cases}
use Rattle.machine.specs.State.{State, core_of}
use Rattle.machine.specs.Machine.{rejection_at, semantics_of, answer_of, ran_of, plan_at, turn_of}
use Rattle.machine.specs.Demands.{is_trap, changes_nothing}
use Rattle.machine.proofs.Lawful.{facts}
use Rattle.machine.proofs.Demands.{demand-3}
use Rattle.sheet_read.specs.Sheet.{allow_of, first_bad, sheet_of}
use Rattle.sheet_read.proofs.Enough.{enough, enough-said}
use Rattle.sheet.proofs.RunLaws.{paused-is}
use Rattle.sheet.specs.Run.{Progress, joined, turned, is_paused, more_turns, begun, most_turns, word_of, printed}

-- ---- a turn that pauses

module _ (b : Board) (word n : ℕ) (s : State) where
  abbrev v : ℕ
  v = s.control.vstart

  abbrev p : Plan
  p = plan_at b word s

  abbrev J : Semantics
  J = semantics_of b p

  -- a legal turn that passes k elements and has not finished
  moved : (k : ℕ) → rejection_at b p s.rights (core_of s) v ≡ none → 1 ≤ k → (v < 8 * b.vlenb) × (v < v + k)
  moved k h l = ((possible-apart b s.control (facts b p s.rights (core_of s) v h).acceptable.possible).vstart, omega arith)

  -- an outcome that answers 1 and passed elements
  abbrev Moves : TurnEnd J → Type 0
  Moves o = number_of (answer_of o.ending) ≡ 1 → 1 ≤ o.passed → (v < 8 * b.vlenb) × (v < o.after.vstart)

  turn-moves : Moves (ran_of b p n s)
  turn-moves = turn-cases J (record { rights = s.rights; allowance = n }) (record { state = core_of s; vstart = v }) Moves (record {
    on-rejected = λ x e g q. absurd (omega arith);
    on-trapped = λ x k h l f e g q. moved k h q;
    on-paused = λ k h l e f g q. moved k h q;
    on-finished = λ h l g q. absurd (omega arith);
  })

  paused-passes : Valid b → 1 ≤ n → (turn_of b word n s).answer ≡ Paused → 1 ≤ (turn_of b word n s).passed
  paused-passes w l e =
      ⊎_elim (λ h. h)
      (⊎_elim
      (λ t. let f : false ≡ true = sym (ap is_trap e) ∙ t in absurd (let z : ◌≡◌ {A = ℕ} 0 1 = cc in omega arith))
      (λ t. let f : 1 ≡ 0 = ap number_of (sym e ∙ t) in absurd (omega arith)))
      ((demand-3 b w).progress word n s (ap changes_nothing e) l)

  -- A turn that pauses, with an allowance of at least 1, began at a vstart that can be, and leaves it higher.
  pub pause-moves : Valid b → 1 ≤ n → (turn_of b word n s).answer ≡ Paused
      → (s.control.vstart < 8 * b.vlenb) × (s.control.vstart < (turn_of b word n s).after.control.vstart)
  unfolding turn_of
  pause-moves w l e = turn-moves (ap number_of e) (paused-passes w l e)

-- ---- the turns of a word

-- n more turns are enough after p: each pause leaves vstart higher
abbrev Suffices : ℕ → Progress → Type 0
Suffices n p = number_of p.answer ≡ 1 → (1 ≤ n) × (most_turns ≤ p.state.control.vstart + n)

module _ (word allow : ℕ) (l : 1 ≤ allow) where
  one_less : (n : ℕ) (p : Progress) → most_turns ≤ p.state.control.vstart + suc n → Suffices n (joined p (turned word allow p.state))
  one_less n p h e =
      let m = pause-moves base word allow p.state base-valid l (paused-is _ e) in
      (omega (arith, m.0), omega (arith, m.1))

  turns-end : (n : ℕ) (p : Progress) → Suffices n p → is_paused (more_turns n word allow p).answer ≡ false
  unfolding more_turns
  turns-end zero p h = ne_eqb (number_of p.answer) 1 (λ e. omega (arith, (h e).0))
  turns-end (suc n) p h =
      let q : Progress = joined p (turned word allow p.state) in
      either (λ (r : Progress). is_paused r.answer ≡ false) (is_paused p.answer) (more_turns n word allow q) p
      (λ t. turns-end n q (one_less n p (h (eqb-true (number_of p.answer) 1 t)).1))
      (λ t. t)

-- "Each word takes turns of the allowance until it no longer pauses": the definition never stops before that.
pub never-paused : (word allow : ℕ) (s : State) → 1 ≤ allow → is_paused (word_of word allow s).answer ≡ false
unfolding word_of
never-paused word allow s l = turns-end word allow l most_turns (begun s) (λ e. (lit≤ tt, omega arith))

-- ---- a good sheet

-- if n is the first bad line, then where none is bad, the allowance a is at least 1
unfoldable Allows : ℕ → ℕ → Type 0
Allows a n = n ≡ 0 → 1 ≤ a

line-bad : (a n : ℕ) → 1 ≤ n → Allows a n
unfolding Allows
line-bad a n l h = absurd (omega arith)

line-good : (a n : ℕ) → eqb a 0 ≡ false → Allows a n
unfolding Allows
line-good a n t h = let e : a ≡ 0 → ⊥ = eqb-false a 0 t in omega arith

allows : (s : List ℕ) → Allows (allow_of s) (first_bad s)
unfolding first_bad
allows s = search (lit≤, line-bad, line-good, either (Allows (allow_of s))) depth 8

-- On a good sheet each word ends.
pub ends : (s : List ℕ) → first_bad s ≡ 0 → (word : ℕ) (t : State) → is_paused (word_of word (sheet_of s).allow t).answer ≡ false
unfolding sheet_of Allows
ends s h word t = never-paused word (allow_of s) t (allows s h)

-- ---- the bytes of a sheet

-- What is printed depends on the first 1,000 bytes alone.
pub enough-printed : (s : List ℕ) → printed (take 1000 s) ≡ printed s
unfolding printed
enough-printed s = rw (enough s, enough-said s)
