-- The run of a sheet, turn by turn and word by word: what the loops keep, and how each way out meets its contract.
use Prim.Native.Nat.{ℕ, zero, suc, ◌+◌, ◌-◌, ◌*◌, ◌≤◌, ◌<◌}
use mathlib.Core.Path.{◌≡◌, refl, sym, ap, subst, ◌∙◌}
use mathlib.Core.Bool.{false}
use mathlib.Core.List.{List, [], ◌∷◌, ◌++◌}
use native.Mathlib.Nat.{add-zero}
use native.Mathlib.Omega.{arith}
use borrow.Author.Tests.{ne_eqb}
use Rattle.answer.specs.declared.Answer.{Answer}
use Rattle.answer.specs.declared.Answer.TheVariants.{Finished, Paused}
use Rattle.answer.specs.Answer.{number_of}
use Rattle.machine.specs.State.{State}
use Rattle.machine.specs.declared.Turned.{Turned}
use Rattle.machine.specs.Call.{left}
use Rattle.machine.specs.Machine.{turn_of}
use Rattle.control.specs.Board.{base}
use Rattle.text.specs.declared.Text.{Text}
use Rattle.text.specs.Text.{Adds}
use Rattle.text.proofs.TextLaws.{both, nothing}
use Rattle.sheet_read.specs.declared.Words.{Words}
use Rattle.sheet_read.specs.Sheet.{word_at, word_length, words_at, after_words}
use Rattle.sheet.specs.declared.Machine.{Machine}
use Rattle.sheet.specs.Run.{Progress, from, joined, report, turned, is_paused, more_turns, most_turns, word_of, is_finished, run_of}
use Rattle.sheet_read.specs.Listed.{Listed}
use Rattle.sheet.specs.Bounds.{report_bound, word_bound, words_bound}
use Rattle.sheet.specs.Left.{held, Leaves}

-- ---- answers by their numbers

pub paused-is : (a : Answer) → number_of a ≡ 1 → a ≡ Paused
paused-is a h = grind arith

finished-is : (a : Answer) → number_of a ≡ 0 → a ≡ Finished
finished-is a h = grind arith

not-paused : (a : Answer) → (a ≡ Paused → ⊥) → is_paused a ≡ false
not-paused a h = ne_eqb (number_of a) 1 (λ e. h (paused-is a e))

not-finished : (a : Answer) → (a ≡ Finished → ⊥) → is_finished a ≡ false
not-finished a h = ne_eqb (number_of a) 0 (λ e. h (finished-is a e))

-- ---- one turn

pub turn-leaves : {before after : Text} (word allow : ℕ) (s : State) (t : Turned) (registers scalars memory rights : List ℕ)
    → left t registers scalars memory rights ≡ turn_of base word allow s
    → Adds before (report word t.answer t.place.wanted t.control) after
    → Leaves (turned word allow s) before after
    (record { registers = registers; scalars = scalars; memory = memory; rights = rights; control = t.control })
turn-leaves word allow s t registers scalars memory rights e w = rw (← e) (record { wrote = w; state = refl })

pub turn-answers : (word allow : ℕ) (s : State) (t : Turned) (registers scalars memory rights : List ℕ)
    → left t registers scalars memory rights ≡ turn_of base word allow s → t.answer ≡ (turn_of base word allow s).answer
turn-answers word allow s t registers scalars memory rights e = rw (← e)

-- ---- one word

-- n turns of the word have been taken, and each has paused
pub record Turning (word allow : ℕ) (first : State) (before : Text) (n : ℕ) (now : Text) (m : Machine) : Type 0 where
  pub text : List ℕ
  pub wrote : Adds before text now
  pub rest : word_of word allow first ≡ more_turns (most_turns - n) word allow (record { text = text; answer = Paused; state = held m })
  pub near : now.at ≤ before.at + report_bound * n

pub turning-none : (word allow : ℕ) (t : Text) (m : Machine) → Turning word allow (held m) t 0 t m
unfolding word_of
turning-none word allow t m = record { text = []; wrote = nothing t; rest = refl; near = omega arith }

-- a progress by another name of it
left_by : {p q : Progress} {before after : Text} {m : Machine} → p ≡ q → Leaves q before after m → Leaves p before after m
left_by {before = before} {after} {m} e l = subst (λ (p : Progress). Leaves p before after m) (sym e) l

answer_by : {p q : Progress} (a : Answer) → p ≡ q → a ≡ q.answer → a ≡ p.answer
answer_by a e h = h ∙ ap (λ (p : Progress). p.answer) (sym e)

stopped : (word allow left : ℕ) (p : Progress) → is_paused p.answer ≡ false → more_turns left word allow p ≡ p
unfolding more_turns
stopped word allow zero p h = refl
stopped word allow (suc left) p h = rw h

module _ (word allow : ℕ) (first : State) (before : Text) (n : ℕ) (now : Text) (m : Machine) (t : Turning word allow first before n now m)
  where
    -- the progress so far, and one turn more
    so-far : Progress
    so-far = record { text = t.text; answer = Paused; state = held m }

    next-turn : n < most_turns
        → word_of word allow first ≡ more_turns (most_turns - (n + 1)) word allow (joined so-far (turned word allow (held m)))
    unfolding more_turns so-far
    next-turn h =
        let e : most_turns - n ≡ suc (most_turns - (n + 1)) = omega arith in
        t.rest ∙ rw e

    module _ {next : Text} {m' : Machine} (a : Answer) (h : n < most_turns) (l : Leaves (turned word allow (held m)) now next m')
        (q : a ≡ (turned word allow (held m)).answer) (near : next.at ≤ now.at + report_bound) where
      pub turning-more : a ≡ Paused → Turning word allow first before (n + 1) next m'
      unfolding so-far
      turning-more p =
          let text : List ℕ = t.text ++ (turned word allow (held m)).text in
          record {
            text = text;
            wrote = both t.wrote l.wrote;
            rest = next-turn h
                ∙ ap (more_turns (most_turns - (n + 1)) word allow)
                (λ i. record { text = text; answer = (sym q ∙ p) i; state = sym l.state i });
            near = omega (arith, t.near);
          }

      -- it no longer pauses
      ends-here : (a ≡ Paused → ⊥) → word_of word allow first ≡ joined so-far (turned word allow (held m))
      ends-here d = next-turn h ∙ stopped word allow (most_turns - (n + 1)) _ (not-paused _ (λ e. d (q ∙ e)))

      pub turning-done : (a ≡ Paused → ⊥) → Leaves (word_of word allow first) before next m'
      unfolding so-far
      turning-done d = left_by (ends-here d) (record { wrote = both t.wrote l.wrote; state = l.state })

      pub turning-answer : (a ≡ Paused → ⊥) → a ≡ (word_of word allow first).answer
      unfolding so-far
      turning-answer d = answer_by a (ends-here d) q

      pub turning-near : next.at ≤ before.at + word_bound
      turning-near = omega (arith, t.near)

    -- no turn is left
    module _ (h : n ≤ most_turns) (k : most_turns ≤ n) where
      is-last : word_of word allow first ≡ so-far
      unfolding more_turns so-far
      is-last = let e : most_turns - n ≡ 0 = omega arith in t.rest ∙ rw e

      pub turning-last : Leaves (word_of word allow first) before now m
      unfolding so-far
      turning-last = left_by is-last (record { wrote = t.wrote; state = refl })

      pub last-answer : Paused ≡ (word_of word allow first).answer
      unfolding so-far
      last-answer = answer_by Paused is-last refl

      pub last-near : now.at ≤ before.at + word_bound
      last-near = omega (arith, t.near)

-- ---- the words

-- k words have been taken, and each has finished
pub record Running (sheet : List ℕ) (w : Words) (start : State) (before : Text) (k : ℕ) (now : Text) (m : Machine) : Type 0 where
  pub text : List ℕ
  pub wrote : Adds before text now
  pub rest : run_of (words_at sheet w.first w.count) w.allow (from start)
      ≡ run_of (words_at sheet (after_words w.first k) (w.count - k)) w.allow (record { text = text; answer = Finished; state = held m })
  pub near : now.at ≤ before.at + word_bound * k

pub running_none : (sheet : List ℕ) (w : Words) (t : Text) (m : Machine) → Running sheet w (held m) t 0 t m
running_none sheet w t m = record { text = []; wrote = nothing t; rest = same; near = omega arith }
  where
    same : run_of (words_at sheet w.first w.count) w.allow (from (held m))
        ≡ run_of (words_at sheet (w.first + 0) (w.count - 0)) w.allow (from (held m))
    same = let e : w.count - 0 ≡ w.count = omega arith in rw (add-zero w.first, e)

unfinished : (words : List ℕ) (allow : ℕ) (p : Progress) → is_finished p.answer ≡ false → run_of words allow p ≡ p
unfolding run_of
unfinished [] allow p h = refl
unfinished (w ∷ ws) allow p h = rw h

next_word : (sheet : List ℕ) (first count k : ℕ) → k < count
    → words_at sheet (after_words first k) (count - k)
    ≡ word_at sheet (after_words first k) ∷ words_at sheet (after_words first (k + 1)) (count - (k + 1))
unfolding words_at
next_word sheet first count k h =
    let e : count - k ≡ suc (count - (k + 1)) = omega arith in
    let f : after_words first k + word_length ≡ after_words first (k + 1) = omega arith in
    rw (e, f)

module _ (sheet : List ℕ) (w : Words) (start : State) (before : Text) (k : ℕ) (now : Text) (m : Machine)
    (g : Running sheet w start before k now m) where
  -- the words that are left after the next, the progress so far, and what the next word comes to
  abbrev others : List ℕ
  others = words_at sheet (after_words w.first (k + 1)) (w.count - (k + 1))

  done : Progress
  done = record { text = g.text; answer = Finished; state = held m }

  abbrev taken : Progress
  taken = word_of (word_at sheet (after_words w.first k)) w.allow (held m)

  abbrev whole : Progress
  whole = run_of (words_at sheet w.first w.count) w.allow (from start)

  word-on : k < w.count → whole ≡ run_of others w.allow (joined done taken)
  unfolding run_of done
  word-on h = g.rest ∙ rw (next_word sheet w.first w.count k h)

  module _ {next : Text} {m' : Machine} (a : Answer) (h : k < w.count) (l : Leaves taken now next m') (q : a ≡ taken.answer)
      (near : next.at ≤ now.at + word_bound) where
    pub running_more : a ≡ Finished → Running sheet w start before (k + 1) next m'
    unfolding done
    running_more p = record {
      text = g.text ++ taken.text;
      wrote = both g.wrote l.wrote;
      rest = word-on h
          ∙ ap (run_of others w.allow) (λ i. record { text = g.text ++ taken.text; answer = (sym q ∙ p) i; state = sym l.state i });
      near = omega (arith, g.near);
    }

    -- the word has not finished
    pub running-stops : (a ≡ Finished → ⊥) → Leaves whole before next m'
    unfolding done
    running-stops d =
        left_by (word-on h ∙ unfinished others w.allow _ (not-finished _ (λ e. d (q ∙ e))))
        (record { wrote = both g.wrote l.wrote; state = l.state })

    pub running-near : before.at ≡ 0 → Listed sheet w → next.at ≤ words_bound
    running-near z listed = omega (arith, g.near, listed.most.1.1)

  -- no word is left
  pub running-last : w.count ≤ k → Leaves whole before now m
  unfolding words_at run_of done
  running-last h =
      let e : w.count - k ≡ 0 = omega arith in
      let p : whole ≡ done = g.rest ∙ rw e in
      left_by p (record { wrote = g.wrote; state = refl })

  pub last-within : k ≤ w.count → before.at ≡ 0 → Listed sheet w → now.at ≤ words_bound
  last-within h z listed = omega (arith, g.near, listed.most.1.1)
