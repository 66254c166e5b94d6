-- What is proved of every lawful instruction: a stretch may be cut anywhere, the loop in place does what the definition says,
-- and a list of turns that ends in a finish does what one uncut run does.
use mathlib.Core.Path.{◌≡◌, refl, sym, ap, ◌∙◌, subst}
use mathlib.Core.Bool.{Bool, true, false}
use mathlib.Core.List.{List, [], ◌∷◌}
use mathlib.Core.Option.{Option, none, some}
use Prim.Native.Nat.{ℕ, zero, suc, ◌+◌, ◌-◌, ◌≤◌, ◌<◌, min}
use native.Mathlib.Omega.{arith}
use lib.Dec.{T, ltb}
use borrow.Author.Tests.{ltb-true, ltb-false, le-ltb, lt-ltb}
use native.Mathlib.Decide.{dec_lt}
use native.Mathlib.Nat.{add-zero, add-suc, suc-add, zero-add, le_refl}
use Rattle.turn_theory.specs.Turn.{Effect, inactive, fault, write, faults, Semantics, finished, paused, trapped, rejected, Point}
use Rattle.turn_theory.specs.Turn.{TurnEnd, Turn, apply, written, clean, until, trap, remaining, passing, ended, legal, answered}
use Rattle.turn_theory.specs.Turn.{turn, turns, carried_in_place, NoneFinishes, Opening, final_rights, uncut_allowance}
use Rattle.turn_theory.specs.Claims.{Lawful, Progress, passes, traps, finishes, Splits, InPlace, Progresses, Monotone, Uncut}

until-false : (b : Bool) (k d : ℕ) → d < until b k → b ≡ false
until-false true k d h = absurd (omega arith)
until-false false k d h = refl

until-suc : (b : Bool) (k d : ℕ) → suc d < until b k → d < k
until-suc true k d h = omega arith
until-suc false k d h = omega arith

-- a test that the first of n + 1 does not pass is the fault that stops the count there; else the count goes on
until_stop : (P : ℕ → Type 0) (b : Bool) (k n : ℕ) → until b k < suc n → (b ≡ true → P zero) → (k < n → P (suc k)) → P (until b k)
until_stop P true k n h f g = f refl
until_stop P false k n h f g = g (omega arith)

module _ (I : Semantics) where
  written-agree : (r r' : I.Rights) (s₀ s₁ : I.State) (i n : ℕ) (s : I.State)
      → ((k : ℕ) → i ≤ k → k < i + n → I.effect r s₀ k ≡ I.effect r' s₁ k)
      → written I r s₀ i n s ≡ written I r' s₁ i n s
  unfolding written
  written-agree r r' s₀ s₁ i zero s h = refl
  written-agree r r' s₀ s₁ i (suc n) s h =
      ap (λ (e : Effect I.Fault I.Write). written I r s₀ (suc i) n (apply I e s)) (h i (le_refl i) (omega arith))
      ∙ written-agree r r' s₀ s₁ (suc i) n (apply I (I.effect r' s₁ i) s) (λ k l u. h k (omega arith) (omega arith))

  -- a run of writes, cut: the same state decides
  pub written-cut : (r : I.Rights) (s₀ : I.State) (i a b : ℕ) (s : I.State)
      → written I r s₀ i (a + b) s ≡ written I r s₀ (i + a) b (written I r s₀ i a s)
  unfolding written
  written-cut r s₀ i zero b s = rw (zero-add, add-zero)
  written-cut r s₀ i (suc a) b s = rw (suc-add, add-suc) (written-cut r s₀ (suc i) a b (apply I (I.effect r s₀ i) s) ∙ rw suc-add)

  -- what `clean` counts
  clean_at : (r : I.Rights) (s : I.State) (i n d : ℕ) → d < clean I r s i n → faults (I.effect r s (i + d)) ≡ false
  unfolding clean
  clean_at r s i zero d h = absurd (omega arith)
  clean_at r s i (suc n) zero h = rw add-zero (until-false _ _ _ h)
  clean_at r s i (suc n) (suc d) h = rw (add-suc, ← suc-add) (clean_at r s (suc i) n d (until-suc (faults (I.effect r s i)) _ _ h))

  -- no element before the count faults
  pub clean-passed : (r : I.Rights) (s : I.State) (i n k : ℕ) → i ≤ k → k < i + clean I r s i n → faults (I.effect r s k) ≡ false
  clean-passed r s i n k l u =
      let e : i + (k - i) ≡ k = omega arith in
      rw e at (clean_at r s i n (k - i) (omega arith))

  -- where the count stops short, the element there faults
  pub clean-stop : (r : I.Rights) (s : I.State) (i n : ℕ) → clean I r s i n < n → faults (I.effect r s (i + clean I r s i n)) ≡ true
  unfolding clean
  clean-stop r s i zero h = absurd (omega arith)
  clean-stop r s i (suc n) h =
      until_stop (λ k. faults (I.effect r s (i + k)) ≡ true) (faults (I.effect r s i)) (clean I r s (suc i) n) n h
      (λ e. rw add-zero e)
      (λ l. rw (add-suc, ← suc-add) (clean-stop r s (suc i) n l))

  -- where none of the n faults, the count is n
  pub clean_all : (r : I.Rights) (s : I.State) (i n : ℕ)
      → ((k : ℕ) → i ≤ k → k < i + n → faults (I.effect r s k) ≡ false) → clean I r s i n ≡ n
  unfolding clean
  clean_all r s i zero h = refl
  clean_all r s i (suc n) h =
      rw (h i (le_refl i) (omega arith))
      (ap suc (clean_all r s (suc i) n (λ k l u. h k (omega arith) (omega arith))))

  -- where the first k do not fault and the next does, the count of n > k is k
  pub clean-exact : (r : I.Rights) (s : I.State) (i n k : ℕ) → k < n
      → ((j : ℕ) → i ≤ j → j < i + k → faults (I.effect r s j) ≡ false) → faults (I.effect r s (i + k)) ≡ true → clean I r s i n ≡ k
  unfolding clean
  clean-exact r s i zero k l h f = absurd (omega arith)
  clean-exact r s i (suc n) zero l h f = rw (rw add-zero at f)
  clean-exact r s i (suc n) (suc k) l h f =
      rw (h i (le_refl i) (omega arith))
      (ap suc (clean-exact r s (suc i) n k (omega arith) (λ j a b. h j (omega arith) (omega arith)) (rw suc-add (rw add-suc at f))))

-- what every write keeps, a stretch keeps
module _ (I : Semantics) (K : I.State → Type 0) (puts : (w : I.Write) (s : I.State) → K s → K (I.put w s)) where
  apply-keeps : (e : Effect I.Fault I.Write) (s : I.State) → K s → K (apply I e s)
  apply-keeps inactive s h = h
  apply-keeps (fault x) s h = h
  apply-keeps (write w) s h = puts w s h

  pub written_keeps : (r : I.Rights) (s₀ : I.State) (i n : ℕ) (s : I.State) → K s → K (written I r s₀ i n s)
  unfolding written
  written_keeps r s₀ i zero s h = h
  written_keeps r s₀ i (suc n) s h = written_keeps r s₀ (suc i) n (apply I (I.effect r s₀ i) s) (apply-keeps (I.effect r s₀ i) s h)

module _ (I : Semantics) (L : Lawful I) where
  apply-count : (e : Effect I.Fault I.Write) (s : I.State) → I.count (apply I e s) ≡ I.count s
  apply-count e s = apply-keeps I (λ u. I.count u ≡ I.count s) (λ w u h. L.put_count w u ∙ h) e s refl

  apply-legal : (r : I.Rights) (e : Effect I.Fault I.Write) (s : I.State) (v : ℕ) → I.rejection r s v ≡ none
      → I.rejection r (apply I e s) v ≡ none
  apply-legal r e s v h = apply-keeps I (λ u. I.rejection r u v ≡ none) (λ w u k. L.put-legal r w u v k) e s h

  -- carrying out element j leaves what a later element does as it was
  apply-stable : (r : I.Rights) (s : I.State) (v j i : ℕ) → I.rejection r s v ≡ none → j < i → i < I.count s
      → I.effect r (apply I (I.effect r s j) s) i ≡ I.effect r s i
  apply-stable r s v j i h l u = go (I.effect r s j) refl
    where
      go : (e : Effect I.Fault I.Write) → I.effect r s j ≡ e → I.effect r (apply I e s) i ≡ I.effect r s i
      go inactive q = refl
      go (fault x) q = refl
      go (write w) q = L.stable r s v j i w h l u q

  pub written_count : (r : I.Rights) (s₀ : I.State) (i n : ℕ) (s : I.State) → I.count (written I r s₀ i n s) ≡ I.count s
  written_count r s₀ i n s = written_keeps I (λ u. I.count u ≡ I.count s) (λ w u h. L.put_count w u ∙ h) r s₀ i n s refl

  pub written-legal : (r r' : I.Rights) (s₀ : I.State) (i n : ℕ) (s : I.State) (v : ℕ)
      → I.rejection r' s v ≡ none → I.rejection r' (written I r s₀ i n s) v ≡ none
  written-legal r r' s₀ i n s v h = written_keeps I (λ u. I.rejection r' u v ≡ none) (λ w u k. L.put-legal r' w u v k) r s₀ i n s h

  -- the writes of elements before m leave what m does as it was
  pub written-stable : (r : I.Rights) (s : I.State) (v i n m : ℕ) → I.rejection r s v ≡ none → i + n ≤ m → m < I.count s
      → I.effect r (written I r s i n s) m ≡ I.effect r s m
  unfolding written
  written-stable r s v i zero m h l u = refl
  written-stable r s v i (suc n) m h l u =
      let s' : I.State = apply I (I.effect r s i) s in
      ap (λ (t : I.State). I.effect r t m)
      (written-agree I r r s s' (suc i) n s'
      (λ k a b. sym (apply-stable r s v i k h a (omega arith))))
      ∙ written-stable r s' v (suc i) n m (apply-legal r (I.effect r s i) s v h) (omega arith) (rw (apply-count (I.effect r s i) s) u)
      ∙ apply-stable r s v i m h (omega arith) u

  -- SPLITTING: a stretch of a + b elements is a stretch of a, and then, from the state that it leaves, a stretch of b
  pub stretch-cut : Splits I
  stretch-cut r s v i a b h l =
      written-cut I r s i a b s
      ∙ written-agree I r r s (written I r s i a s) (i + a) b (written I r s i a s)
      (λ k x y. sym (written-stable r s v i a k h x (omega arith)))

  -- IN PLACE: the loop that works each element out from the state as it is then does what the definition says
  pub in_place : InPlace I
  unfolding written carried_in_place
  in_place r s v i zero h l = refl
  in_place r s v i (suc n) h l =
      let s' : I.State = apply I (I.effect r s i) s in
      in_place r s' v (suc i) n (apply-legal r (I.effect r s i) s v h) (rw (apply-count (I.effect r s i) s) (omega arith))
      ∙ written-agree I r r s' s (suc i) n s' (λ k a b. apply-stable r s v i k h a (omega arith))

module _ (I : Semantics) where
  -- ---- turns

  -- the word is legal at p under r, and no element from p's vstart up faults
  pub record Runs (r : I.Rights) (p : Point I) : Type 0 where
    pub is-legal : I.rejection r p.state p.vstart ≡ none
    pub no-fault : (k : ℕ) → p.vstart ≤ k → k < I.count p.state → faults (I.effect r p.state k) ≡ false

  -- what such a run ends in
  abbrev pub done : I.Rights → Point I → TurnEnd I
  done r p = record {
    ending = finished;
    passed = remaining I p;
    after = record { state = I.finish p.vstart (passing I r p (remaining I p)); vstart = zero };
  }

  pub runs_done : (t : Turn I) (p : Point I) → Runs t.rights p → remaining I p ≤ t.allowance → turn I t p ≡ done t.rights p
  unfolding turn
  runs_done t p h l =
      let n : ℕ = remaining I p in
      let m : min t.allowance n ≡ n = omega arith in
      let c : clean I t.rights p.state p.vstart n ≡ n =
      clean_all I t.rights p.state p.vstart n (λ k a b. h.no-fault k a (omega arith)) in
      rw (h.is-legal, m, c, le-ltb n n (le_refl n))

  -- a legal turn passed k elements, and the run is not at its end
  pub record Cut (t : Turn I) (p : Point I) (o : TurnEnd I) : Type 0 where
    pub is-legal : I.rejection t.rights p.state p.vstart ≡ none
    pub within : o.passed ≤ remaining I p
    pub no-fault : (k : ℕ) → p.vstart ≤ k → k < p.vstart + o.passed → faults (I.effect t.rights p.state k) ≡ false
    pub unfinished : o.ending ≡ finished → ⊥
    pub left : o.after ≡ record { state = passing I t.rights p o.passed; vstart = p.vstart + o.passed }

  -- the three ways that a turn goes
  pub data Went (t : Turn I) (p : Point I) (o : TurnEnd I) : Type 0 where
    went-rejected : (x : I.Rejection) → o ≡ record { ending = rejected x; passed = zero; after = p } → Went t p o
    went-cut : Cut t p o → Went t p o
    went-done : Runs t.rights p → remaining I p ≤ t.allowance → o ≡ done t.rights p → Went t p o

  -- P holds of each outcome that a turn can have: rejected, trapped, paused, finished
  pub record Cases (t : Turn I) (p : Point I) (P : TurnEnd I → Type 0) : Type 0 where
    pub on-rejected : (x : I.Rejection) → I.rejection t.rights p.state p.vstart ≡ some x
        → P (record { ending = rejected x; passed = zero; after = p })
    pub on-trapped : (x : I.Fault) (k : ℕ) → I.rejection t.rights p.state p.vstart ≡ none → k < remaining I p
        → ((j : ℕ) → p.vstart ≤ j → j < p.vstart + k → faults (I.effect t.rights p.state j) ≡ false)
        → I.effect t.rights p.state (p.vstart + k) ≡ fault x
        → P (record { ending = trapped x; passed = k; after = record { state = passing I t.rights p k; vstart = p.vstart + k } })
    pub on-paused : (k : ℕ) → I.rejection t.rights p.state p.vstart ≡ none → k < remaining I p → k ≡ t.allowance
        → ((j : ℕ) → p.vstart ≤ j → j < p.vstart + k → faults (I.effect t.rights p.state j) ≡ false)
        → P (record { ending = paused; passed = k; after = record { state = passing I t.rights p k; vstart = p.vstart + k } })
    pub on-finished : Runs t.rights p → remaining I p ≤ t.allowance → P (done t.rights p)

  module _ (t : Turn I) (p : Point I) (P : TurnEnd I → Type 0) (w : Cases t p P) where
    legal-cases : (n k : ℕ) (b c : Bool) → I.rejection t.rights p.state p.vstart ≡ none
        → n ≡ min t.allowance (remaining I p) → k ≡ clean I t.rights p.state p.vstart n
        → ltb k n ≡ b → ltb n (remaining I p) ≡ c
        → P (ended I b c t.rights p n k)
    legal-cases n k true c h en ek eb ec = go (I.effect t.rights p.state (p.vstart + k)) refl
        (rw ek (clean-stop I t.rights p.state p.vstart n (rw (← ek) (ltb-true k n eb))))
      where
        go : (e : Effect I.Fault I.Write) → I.effect t.rights p.state (p.vstart + k) ≡ e → faults e ≡ true
            → P (record { ending = trap e; passed = k; after = record { state = passing I t.rights p k; vstart = p.vstart + k } })
        go inactive q f = absurd (subst T (sym f) tt)
        go (fault x) q f = w.on-trapped x k h (omega (arith, ltb-true))
            (λ j a b. clean-passed I t.rights p.state p.vstart n j a (rw (← ek) b)) q
        go (write x) q f = absurd (subst T (sym f) tt)
    legal-cases n k false true h en ek eb ec = w.on-paused n h (omega (arith, ltb-true)) (omega (arith, ltb-true))
        (λ j a b. clean-passed I t.rights p.state p.vstart n j a (rw (← ek) (omega (arith, ltb-false))))
    legal-cases n k false false h en ek eb ec =
        let l : remaining I p ≤ n = ltb-false _ _ ec in
        let e : n ≡ remaining I p = omega arith in
        rw e (w.on-finished
        (record {
          is-legal = h;
          no-fault = λ j a b. clean-passed I t.rights p.state p.vstart n j a (rw (← ek) (omega (arith, ltb-false k n eb)));
        })
        (omega arith))

    -- what holds of each outcome that a turn can have holds of its outcome
    pub turn-cases : P (turn I t p)
    unfolding turn
    turn-cases = go (I.rejection t.rights p.state p.vstart) refl
      where
        go : (x : Option I.Rejection) → I.rejection t.rights p.state p.vstart ≡ x
            → P (answered I x p (legal I t.rights p (min t.allowance (remaining I p))))
        go (some x) e = w.on-rejected x e
        go none e = legal-cases _ _ _ _ e refl refl refl refl

  went : (t : Turn I) (p : Point I) → Went t p (turn I t p)
  went t p = turn-cases t p (Went t p) (record {
    on-rejected = λ x e. went-rejected x refl;
    on-trapped = λ x k h l f e. went-cut (record {
      is-legal = h;
      within = omega arith;
      no-fault = f;
      unfinished = λ q. (let z : ◌≡◌ {A = ℕ} 0 1 = cc in omega arith);
      left = refl;
    });
    on-paused = λ k h l e f. went-cut (record {
      is-legal = h;
      within = omega arith;
      no-fault = f;
      unfinished = λ q. (let z : ◌≡◌ {A = ℕ} 0 1 = cc in omega arith);
      left = refl;
    });
    on-finished = λ h l. went-done h l refl;
  })

  pub progress : Progresses I
  progress t p l h = turn-cases t p (Progress I) (record {
    on-rejected = λ x e. absurd (let z : ◌≡◌ {A = ℕ} 0 1 = cc in omega arith);
    on-trapped = λ x k g m f e. traps x refl;
    on-paused = λ k g m e f. passes (omega arith);
    on-finished = λ g m. finishes refl;
  })

  -- what every write keeps, a turn that does not finish keeps
  pub unfinished-keeps : (K : I.State → Type 0) → ((w : I.Write) (s : I.State) → K s → K (I.put w s))
      → (t : Turn I) (p : Point I) → ((turn I t p).ending ≡ finished → ⊥) → K p.state → K (turn I t p).after.state
  unfinished-keeps K puts t p u h = turn-cases t p (λ o. (o.ending ≡ finished → ⊥) → K o.after.state) (record {
    on-rejected = λ x e f. h;
    on-trapped = λ x k g l f e z. written_keeps I K puts t.rights p.state p.vstart k p.state h;
    on-paused = λ k g l e f z. written_keeps I K puts t.rights p.state p.vstart k p.state h;
    on-finished = λ g l z. absurd (z refl);
  }) u

  -- what every write and the finish keep, a turn keeps
  pub turn-keeps : (K : I.State → Type 0) → ((w : I.Write) (s : I.State) → K s → K (I.put w s))
      → ((v : ℕ) (s : I.State) → K s → K (I.finish v s))
      → (t : Turn I) (p : Point I) → K p.state → K (turn I t p).after.state
  turn-keeps K puts ends t p h = turn-cases t p (λ o. K o.after.state) (record {
    on-rejected = λ x e. h;
    on-trapped = λ x k g l f e. written_keeps I K puts t.rights p.state p.vstart k p.state h;
    on-paused = λ k g l e f. written_keeps I K puts t.rights p.state p.vstart k p.state h;
    on-finished = λ g l. ends _ _ (written_keeps I K puts t.rights p.state p.vstart (remaining I p) p.state h);
  })

module _ (I : Semantics) (L : Lawful I) where
  -- a turn that finishes runs free of faults, to what `done` says
  finished-went : (t : Turn I) (p : Point I) (o : TurnEnd I) → Went I t p o → o.ending ≡ finished
      → Runs I t.rights p × (remaining I p ≤ t.allowance) × (o ≡ done I t.rights p)
  finished-went t p o (went-rejected x e) f =
      let g : o.ending ≡ rejected x = ap (λ (q : TurnEnd I). q.ending) e in
      absurd (let z : ◌≡◌ {A = ℕ} 0 1 = cc in omega arith)
  finished-went t p o (went-cut c) f = absurd (c.unfinished f)
  finished-went t p o (went-done h l e) f = (h, l, e)

  finished-runs : (t : Turn I) (p : Point I) → (turn I t p).ending ≡ finished
      → Runs I t.rights p × (remaining I p ≤ t.allowance) × (turn I t p ≡ done I t.rights p)
  finished-runs t p f = finished-went t p (turn I t p) (went I t p) f

  raised-runs : (r r' : I.Rights) (p : Point I) → I.Opens r r' → Runs I r p → Runs I r' p × (done I r' p ≡ done I r p)
  raised-runs r r' p o h =
      let s : I.State = p.state in
      let same : (k : ℕ) → p.vstart ≤ k → k < I.count s → I.effect r' s k ≡ I.effect r s k =
      λ k a b. L.raised r r' s k o (h.no-fault k a b) in (
        record {
          is-legal = L.raised-legal r r' s p.vstart o h.is-legal;
          no-fault = λ k a b. ap faults (same k a b) ∙ h.no-fault k a b;
        },
        rw (written-agree I r' r s s p.vstart (remaining I p) s (λ k a b. same k a (omega arith))),
      )

  -- MONOTONE: a turn that finishes also finishes with a larger allowance and with pages opened further, with the same outcome
  pub monotone : Monotone I
  monotone t u p o l f =
      let x : Runs I t.rights p × (remaining I p ≤ t.allowance) × (turn I t p ≡ done I t.rights p) = finished-runs t p f in
      let y : Runs I u.rights p × (done I u.rights p ≡ done I t.rights p) = raised-runs t.rights u.rights p o x.0 in
      runs_done I u p y.0 (omega arith) ∙ y.1 ∙ sym x.2

  -- where p is after k elements
  abbrev moved : I.Rights → Point I → ℕ → Point I
  moved r p k = record { state = passing I r p k; vstart = p.vstart + k }

  -- a run free of faults from where a turn of k elements left off is one from where that turn began
  module _ (r r' : I.Rights) (p : Point I) (k : ℕ) (h : I.Opens r r') (g : I.rejection r p.state p.vstart ≡ none)
      (l : k ≤ remaining I p) (nf : (j : ℕ) → p.vstart ≤ j → j < p.vstart + k → faults (I.effect r p.state j) ≡ false) where
    moved_same : (j : ℕ) → p.vstart ≤ j → j < p.vstart + k → I.effect r' p.state j ≡ I.effect r p.state j
    moved_same j a b = L.raised r r' p.state j h (nf j a b)

    moved-state : passing I r p k ≡ passing I r' p k
    moved-state = written-agree I r r' p.state p.state p.vstart k p.state (λ j a b. sym (moved_same j a b))

    moved-legal : I.rejection r' p.state p.vstart ≡ none
    moved-legal = L.raised-legal r r' p.state p.vstart h g

    moved_later : (j : ℕ) → p.vstart + k ≤ j → j < I.count p.state → I.effect r' (passing I r p k) j ≡ I.effect r' p.state j
    moved_later j a b = rw moved-state (written-stable I L r' p.state p.vstart p.vstart k j moved-legal a b)

    moved-count : I.count (passing I r p k) ≡ I.count p.state
    moved-count = written_count I L r p.state p.vstart k p.state

    moved-runs : Runs I r' (moved r p k) → Runs I r' p
    moved-runs f = record {
      is-legal = moved-legal;
      no-fault = λ j a b. elim (dec_lt j (p.vstart + k)) [
        | yes y ↦ ap faults (moved_same j a y) ∙ nf j a y
        | no y ↦ ap faults (sym (moved_later j (omega arith) b)) ∙ f.no-fault j (omega arith) (rw moved-count b)
      ];
    }

    moved-passed : k + remaining I (moved r p k) ≡ remaining I p
    moved-passed = omega (arith, moved-count)

    moved-end : (n : ℕ) → k + n ≡ remaining I p → passing I r' (moved r p k) n ≡ passing I r' p (remaining I p)
    moved-end n e =
        rw moved-state (sym (stretch-cut I L r' p.state p.vstart p.vstart k n moved-legal (omega arith)) ∙ rw e)

    -- the vstart of the last turn is another only where elements have been passed
    moved-finish : I.finish (p.vstart + k) (passing I r' (moved r p k) (remaining I (moved r p k)))
        ≡ I.finish p.vstart (passing I r' p (remaining I p))
    moved-finish =
        ap (I.finish (p.vstart + k)) (moved-end (remaining I (moved r p k)) moved-passed)
        ∙ elim (dec_lt 0 k) [
          | yes y ↦ L.finish-any _ (p.vstart + k) p.vstart
              (rw (written_count I L r' p.state p.vstart (remaining I p) p.state) (omega arith))
          | no y ↦ ap (λ (v : ℕ). I.finish v (passing I r' p (remaining I p))) (omega arith)
        ]

    moved-done : ◌≡◌ {A = TurnEnd I}
        (record { ending = finished; passed = k + remaining I (moved r p k); after = (done I r' (moved r p k)).after })
        (done I r' p)
    moved-done = λ i. record {
      ending = finished;
      passed = moved-passed i;
      after = record { state = moved-finish i; vstart = zero };
    }

  opening-last : (t : Turn I) (us : List (Turn I)) → Opening I t us → I.Opens t.rights (final_rights I t us)
  opening-last t [] h = L.opens-refl t.rights
  opening-last t (u ∷ us) h = L.opens-trans t.rights u.rights (final_rights I u us) h.0 (opening-last u us h.1)

  -- one turn more in front
  turns_more : (t : Turn I) (p : Point I) (o q : TurnEnd I) (r : I.Rights) → I.Opens t.rights r → Went I t p o
      → (o.ending ≡ finished → ⊥) → Runs I r o.after × (q ≡ done I r o.after)
      → Runs I r p × (◌≡◌ {A = TurnEnd I} (record { ending = q.ending; passed = o.passed + q.passed; after = q.after }) (done I r p))
  turns_more t p o q r h (went-rejected x e) u w =
      let w' : Runs I r p × (q ≡ done I r p) =
      subst (λ (x : Point I). Runs I r x × (q ≡ done I r x)) (ap (λ (x : TurnEnd I). x.after) e) w in
      (w'.0, rw (ap (λ (x : TurnEnd I). x.passed) e, zero-add) w'.1)
  turns_more t p o q r h (went-cut c) u w =
      let k : ℕ = o.passed in
      let w' : Runs I r (moved t.rights p k) × (q ≡ done I r (moved t.rights p k)) =
      subst (λ (x : Point I). Runs I r x × (q ≡ done I r x)) c.left w in (
        moved-runs t.rights r p k h c.is-legal c.within c.no-fault w'.0,
        rw w'.1 (moved-done t.rights r p k h c.is-legal c.within c.no-fault),
      )
  turns_more t p o q r h (went-done g l e) u w = absurd (u (ap (λ (x : TurnEnd I). x.ending) e))

  turns-done : (t : Turn I) (us : List (Turn I)) (p : Point I) → Opening I t us → NoneFinishes I t us p → (turns I t us p).ending ≡ finished
      → Runs I (final_rights I t us) p × (turns I t us p ≡ done I (final_rights I t us) p)
  unfolding turns
  turns-done t [] p o n f =
      let x : Runs I t.rights p × (remaining I p ≤ t.allowance) × (turn I t p ≡ done I t.rights p) = finished-runs t p f in (
        x.0,
        x.2,
      )
  turns-done t (u ∷ us) p o n f =
      turns_more t p (turn I t p) (turns I u us (turn I t p).after) (final_rights I u us)
      (opening-last t (u ∷ us) o) (went I t p) n.0
      (turns-done u us (turn I t p).after o.1 n.1 f)

  -- DEMAND 3: whatever turns, pauses, traps, rejections and openings of pages there were, if the last turn finishes and none before it
  -- does, the outcome is that of one uncut run from the first state under the last turn's rights, with the passed counts added up
  pub uncut : Uncut I
  uncut t us p o n f =
      let r : I.Rights = final_rights I t us in
      let x : Runs I r p × (turns I t us p ≡ done I r p) = turns-done t us p o n f in
      x.1 ∙ sym (runs_done I (record { rights = r; allowance = uncut_allowance }) p x.0
      (omega (arith, L.bounded r p.state p.vstart x.0.is-legal)))

-- ---- turns of any instruction, lawful or not
module _ (I : Semantics) (t : Turn I) (p : Point I) where
  -- a turn that is rejected
  pub turn-rejected : (x : I.Rejection) → I.rejection t.rights p.state p.vstart ≡ some x
      → turn I t p ≡ record { ending = rejected x; passed = zero; after = p }
  unfolding turn
  turn-rejected x h = rw h

  -- a legal turn with no elements finishes at once, at any allowance, with nothing passed
  pub one-turn : I.rejection t.rights p.state p.vstart ≡ none → I.count p.state ≡ zero
      → turn I t p ≡ record { ending = finished; passed = zero; after = record { state = I.finish p.vstart p.state; vstart = zero } }
  unfolding turn written clean
  one-turn h e =
      let z : zero - p.vstart ≡ zero = omega arith in
      let m : min t.allowance zero ≡ zero = omega arith in
      rw (h, e, z, m)

-- ---- for the code: a loop that has passed k elements of the turn t from p, and whose state is now s
pub record Passed (I : Semantics) (t : Turn I) (p : Point I) (k : ℕ) (s : I.State) : Type 0 where
  pub is-legal : I.rejection t.rights p.state p.vstart ≡ none
  pub within : k ≤ min t.allowance (remaining I p)
  pub no-fault : (j : ℕ) → p.vstart ≤ j → j < p.vstart + k → faults (I.effect t.rights p.state j) ≡ false
  pub now : s ≡ passing I t.rights p k

module _ (I : Semantics) (L : Lawful I) (t : Turn I) (p : Point I) where
  pub passed_none : I.rejection t.rights p.state p.vstart ≡ none → Passed I t p zero p.state
  unfolding written
  passed_none h = record { is-legal = h; within = omega arith; no-fault = λ j a b. absurd (omega arith); now = refl }

  module _ (k : ℕ) (s : I.State) (h : Passed I t p k s) where
    -- the word is still legal
    pub passed-legal : I.rejection t.rights s p.vstart ≡ none
    passed-legal = rw h.now (written-legal I L t.rights t.rights p.state p.vstart k p.state p.vstart h.is-legal)

    -- the next element, worked out from the state as it is, is what the state before the turn decides
    pub passed-effect : k < min t.allowance (remaining I p)
        → I.effect t.rights s (p.vstart + k) ≡ I.effect t.rights p.state (p.vstart + k)
    passed-effect l =
        rw h.now (written-stable I L t.rights p.state p.vstart p.vstart k (p.vstart + k) h.is-legal (le_refl _)
        (omega arith))

    -- one element more
    pub passed-more : (e : Effect I.Fault I.Write) → k < min t.allowance (remaining I p)
        → I.effect t.rights s (p.vstart + k) ≡ e → faults e ≡ false → Passed I t p (k + 1) (apply I e s)
    unfolding written
    passed-more e l q f =
        let x : I.effect t.rights p.state (p.vstart + k) ≡ e = sym (passed-effect l) ∙ q in
        record {
          is-legal = h.is-legal;
          within = omega arith;
          no-fault = λ j a b. elim (dec_lt j (p.vstart + k)) [
            | yes y ↦ h.no-fault j a y
            | no y ↦ let z : j ≡ p.vstart + k = omega arith in rw (z, x) f
          ];
          now = rw (written-cut I t.rights p.state p.vstart k 1 p.state, x, ← h.now);
        }

    pub passed-trap : (y : I.Fault) → k < min t.allowance (remaining I p) → I.effect t.rights s (p.vstart + k) ≡ fault y
        → turn I t p ≡ record { ending = trapped y; passed = k; after = record { state = s; vstart = p.vstart + k } }
    unfolding turn
    passed-trap y l q =
        let n : ℕ = min t.allowance (remaining I p) in
        let x : I.effect t.rights p.state (p.vstart + k) ≡ fault y = sym (passed-effect l) ∙ q in
        let z : clean I t.rights p.state p.vstart n ≡ k =
        clean-exact I t.rights p.state p.vstart n k l h.no-fault (ap faults x) in
        rw (h.is-legal, z, lt-ltb k n l, x, ← h.now)

    passed-clean : clean I t.rights p.state p.vstart k ≡ k
    passed-clean = clean_all I t.rights p.state p.vstart k h.no-fault

    pub passed-pause : k ≡ t.allowance → k < remaining I p
        → turn I t p ≡ record { ending = paused; passed = k; after = record { state = s; vstart = p.vstart + k } }
    unfolding turn
    passed-pause e l =
        let m : min t.allowance (remaining I p) ≡ k = omega arith in
        rw (h.is-legal, m, passed-clean, le-ltb k k (le_refl k), lt-ltb k (remaining I p) l, ← h.now)

    pub passed-finish : k ≡ remaining I p
        → turn I t p ≡ record { ending = finished; passed = k; after = record { state = I.finish p.vstart s; vstart = zero } }
    unfolding turn
    passed-finish e =
        let m : min t.allowance (remaining I p) ≡ k = omega (arith, h.within) in
        rw (h.is-legal, m, passed-clean, le-ltb k k (le_refl k), le-ltb k (remaining I p) (omega arith), ← h.now)
