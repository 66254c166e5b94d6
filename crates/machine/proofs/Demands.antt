-- Demands 1 and 3 of the customer, and the law of the number passed, hold of the definition of a turn.
use Rattle.std.specs.Prelude.{Result, Ok, Err, ⊤}
use Prim.Native.Nat.{ℕ, ◌+◌, ◌-◌, ◌^◌, ◌≤◌}
use mathlib.Core.Path.{◌≡◌, refl, sym, ap, ◌∙◌, subst}
use mathlib.Core.Logic.{◌⊎◌, inl, inr}
use mathlib.Core.Bool.{Bool, true, false, not, ◌&&◌}
use mathlib.Core.List.{List, [], ◌∷◌}
use mathlib.Core.Option.{Option, none, some}
use native.Mathlib.Omega.{arith}
use Rattle.std.specs.Prelude as rust
use Rattle.laws.proofs.Apart.{both_left, both_right}
use Rattle.laws.proofs.Chain.{either}
use lib.Dec.{T}
use Rattle.answer.specs.declared.Answer.{Answer}
use Rattle.answer.specs.declared.Answer.TheVariants.{Finished, Illegal, NoGroup}
use Rattle.control.specs.declared.Board.{Board}
use Rattle.control.specs.declared.Control.{Control}
use Rattle.control.specs.Board.{Valid}
use Rattle.control.specs.Control.{dirty, with_vstart, with_vxsat, with_vs, set_of, keeps_of}
use Rattle.control.specs.Vtype.{supported_of}
use Rattle.control.proofs.Laws.{possible-apart}
use Rattle.decode.specs.declared.MaskOp.{MaskOp}
use Rattle.decode.specs.declared.MaskOp.TheVariants.{Vcpop, Vfirst, Vmsbf, Vmsof, Vmsif}
use Rattle.decode.specs.declared.MaskInstruction.{MaskInstruction}
use Rattle.decode.specs.declared.ScalarMoveOp.{ScalarMoveOp}
use Rattle.decode.specs.declared.ScalarMoveOp.TheVariants.{VmvXS, VmvSX}
use Rattle.decode.specs.declared.Access.{Access}
use Rattle.decode.specs.declared.Mode.{Mode}
use Rattle.decode.specs.declared.Mode.TheVariants as M
use Rattle.decode.specs.declared.Instruction.{Instruction}
use Rattle.decode.specs.declared.Instruction.TheVariants as I
use Rattle.decode.specs.Word.{decode_of}
use Rattle.decode.proofs.Fields.{fits}
use Rattle.access.specs.declared.Fault.{Fault}
use Rattle.access.specs.Access.{nowhere}
use Rattle.refusal.specs.Refusal.{refusal_of}
use Rattle.refusal.proofs.RefusalLaws.{accepted-facts}
use Rattle.plan.specs.declared.ScalarMove.{ScalarMove}
use Rattle.plan.specs.declared.OneTurn.TheVariants as O
use Rattle.plan.specs.declared.Plan.{Plan}
use Rattle.plan.specs.declared.Plan.TheVariants as P
use Rattle.plan.specs.Plan.{shaped_of, permuting_of, by_mode, reducing_of, packing_of, scalar_moving_of, plan_of}
use Rattle.legality.specs.Legal.{legal_of}
use Rattle.turn_theory.specs.Turn.{finished, paused, trapped, rejected, Semantics, Point, TurnEnd, Turn}
use Rattle.turn_theory.specs.Turn.{turn, turns, Opening, NoneFinishes, final_rights, uncut_run}
use Rattle.turn_theory.specs.Claims.{changed_point, changed_end, Lawful}
use Rattle.turn_theory.proofs.Laws.{turn-rejected, turn-cases, turn-keeps, unfinished-keeps, uncut, monotone}
use Rattle.turn_theory.proofs.Changes.{passes-by}
use Rattle.machine.specs.State.{State, Outcome, with_rights, Core, core_of, state_of, with_control}
use Rattle.machine.specs.Effect.{Write, to_registers, to_memory, put_of}
use Rattle.machine.specs.OneTurn.{type_from, avl_from, setting_result, mask_result, scalar_move_result, one_turn_result}
use Rattle.machine.specs.Machine.{end_of, result_at, refusal_at, or_illegal, rejection_at, Opened, semantics_of, answer_of}
use Rattle.machine.specs.Machine.{vs_after, ran_of, outcome_of, plan_turn, plan_at, turn_of}
use Rattle.machine.specs.Demands.{is_trap, changes_nothing, untouched, Demand1, Demand3, Counts, Next, turns_of, last_rights, Between}
use Rattle.machine.specs.Demands.{Proceeds}
use Rattle.machine.proofs.PlanFacts.{plan-sound}
use Rattle.machine.proofs.EffectLaws.{all_keep}
use Rattle.machine.proofs.FaultReasons.{trap_only, fault-traps}
use Rattle.machine.proofs.Lawful.{opened-refl, lawful}
use Rattle.machine.proofs.Settled.{settled, status-unseen, marked-settled}

-- ---- a rejection's answer changes nothing

-- the answers of refusals: none of them is a trap
abbrev refusal_only : Answer → Bool
refusal_only a = changes_nothing a && not (is_trap a)

data Refuses (P : Answer → Bool) : Result ⊤ Answer → Type 0 where
  accepts : Refuses P (Ok tt)
  refuses : {a : Answer} → P a ≡ true → Refuses P (Err a)

board-refuses : (b : Board) (registers scalars memory : ℕ) (rights : List ℕ) (c : Control)
    → Refuses refusal_only (refusal_of b registers scalars memory rights c)
unfolding refusal_of
board-refuses b registers scalars memory rights c = search (accepts, refuses, either (Refuses refusal_only)) depth 8

abbrev pub Rejecting : Option Answer → Type 0
Rejecting none = Unit {0}
Rejecting (some a) = changes_nothing a ≡ true

rejecting-else : (v : Result ⊤ Answer) (o : Option Answer) → Refuses refusal_only v → Rejecting o → Rejecting (or_illegal v o)
rejecting-else (Ok tt) o h k = k
rejecting-else (Err a) o (refuses h) k = both_left (changes_nothing a) (not (is_trap a)) h

pub rejection-rejects : (b : Board) (p : Plan) (rights : List ℕ) (s : Core) (v : ℕ) → Rejecting (rejection_at b p rights s v)
unfolding rejection_at
rejection-rejects b p rights s v =
    rejecting-else _ _ (board-refuses b _ _ _ rights _)
    (either Rejecting (legal_of b (with_vstart s.control v) p) none (some Illegal) (λ t. tt) (λ t. refl))

-- ---- the outcome of a turn

-- where P holds of a and not of c, the two differ
pub apart : {A : Type 0} (P : A → Bool) (a c : A) → P a ≡ true → P c ≡ false → a ≡ c → ⊥
apart P a c h k e = let f : P a ≡ P c = ap P e in let z : ◌≡◌ {A = ℕ} 0 1 = cc in omega arith

module _ (b : Board) (p : Plan) where
  abbrev J : Semantics
  J = semantics_of b p

  -- the turn and the point of the theory of turns that rights and an allowance, and a state, make
  abbrev pub turn_with : List ℕ → ℕ → Turn J
  turn_with r n = record { rights = r; allowance = n }

  abbrev pub point_of : State → Point J
  point_of s = record { state = core_of s; vstart = s.control.vstart }

  -- what holds of a rejection, a trap, a pause and a finish holds of a turn's outcome
  pub answer-cases : (t : Turn J) (q : Point J) (P : TurnEnd J → Type 0)
      → ((a : Answer) → changes_nothing a ≡ true → P (record { ending = rejected a; passed = 0; after = q }))
      → ((x : Fault) (k : ℕ) (c : Core) → trap_only x.answer ≡ true
      → P (record { ending = trapped x; passed = k; after = record { state = c; vstart = q.vstart + k } }))
      → ((c : Core) → P (record {
        ending = paused;
        passed = t.allowance;
        after = record
            { state = c; vstart = q.vstart + t.allowance };
      }))
      → ((c : Core) → P (record { ending = finished; passed = end_of p - q.vstart; after = record { state = c; vstart = 0 } }))
      → P (turn J t q)
  answer-cases t q P if-rejected if-trapped if-paused if-finished = turn-cases J t q P (record {
    on-rejected = λ a e. if-rejected a (subst Rejecting e (rejection-rejects b p t.rights q.state q.vstart));
    on-trapped = λ x k h l f e. if-trapped x k _ (fault-traps b p t.rights q.state (q.vstart + k) x e);
    on-paused = λ k h l e f. rw e (if-paused _);
    on-finished = λ h l. if-finished _;
  })

  turn-named : (t : Turn J) (q : Point J) → answer_of (turn J t q).ending ≡ NoGroup → ⊥
  turn-named t q = answer-cases t q (λ o. answer_of o.ending ≡ NoGroup → ⊥)
      (λ a h. apart changes_nothing a NoGroup h refl)
      (λ x k c h. apart trap_only x.answer NoGroup h refl)
      (λ c e. let z : ◌≡◌ {A = ℕ} 0 1 = cc in omega arith)
      (λ c e. let z : ◌≡◌ {A = ℕ} 0 1 = cc in omega arith)

  turn-finished : (t : Turn J) (q : Point J) → answer_of (turn J t q).ending ≡ Finished → (turn J t q).ending ≡ finished
  turn-finished t q = answer-cases t q (λ o. answer_of o.ending ≡ Finished → o.ending ≡ finished)
      (λ a h e. absurd (apart changes_nothing a Finished h refl e))
      (λ x k c h e. absurd (apart trap_only x.answer Finished h refl e))
      (λ c e. absurd (let z : ◌≡◌ {A = ℕ} 0 1 = cc in omega arith))
      (λ c e. refl)

  turns-finished : (t : Turn J) (us : List (Turn J)) (q : Point J) → answer_of (turns J t us q).ending ≡ Finished
      → (turns J t us q).ending ≡ finished
  unfolding turns
  turns-finished t [] q h = turn-finished t q h
  turns-finished t (u ∷ us) q h = turns-finished u us (turn J t q).after h

  turn-unchanged : (n : ℕ) (s : State) → changes_nothing (plan_turn b p n s).answer ≡ true
      → plan_turn b p n s ≡ untouched (plan_turn b p n s).answer s
  turn-unchanged n s = answer-cases (turn_with s.rights n) (point_of s)
      (λ o. changes_nothing (answer_of o.ending) ≡ true → outcome_of b p s.rights o ≡ untouched (answer_of o.ending) s)
      (λ a h e. refl)
      (λ x k c h e.
      absurd (apart not (changes_nothing x.answer) true (both_right (is_trap x.answer) (not (changes_nothing x.answer)) h) refl e))
      (λ c e. absurd (subst T (sym e) tt))
      (λ c e. absurd (subst T (sym e) tt))

  turn-progress : (t : Turn J) (q : Point J) → changes_nothing (answer_of (turn J t q).ending) ≡ false → 1 ≤ t.allowance
      → (1 ≤ (turn J t q).passed) ⊎ ((is_trap (answer_of (turn J t q).ending) ≡ true) ⊎ (answer_of (turn J t q).ending ≡ Finished))
  turn-progress t q = answer-cases t q
      (λ o. changes_nothing (answer_of o.ending) ≡ false → 1 ≤ t.allowance
      → (1 ≤ o.passed) ⊎ ((is_trap (answer_of o.ending) ≡ true) ⊎ (answer_of o.ending ≡ Finished)))
      (λ a h e l. absurd (let z : ◌≡◌ {A = ℕ} 0 1 = cc in omega arith))
      (λ x k c h e l. inr (inl (both_left (is_trap x.answer) (not (changes_nothing x.answer)) h)))
      (λ c e l. inl l)
      (λ c e l. inr (inr refl))

  turn-advances : (t : Turn J) (q : Point J) → changes_nothing (answer_of (turn J t q).ending) ≡ false
      → (answer_of (turn J t q).ending ≡ Finished → ⊥) → (turn J t q).after.vstart ≡ q.vstart + (turn J t q).passed
  turn-advances t q = answer-cases t q
      (λ o. changes_nothing (answer_of o.ending) ≡ false → (answer_of o.ending ≡ Finished → ⊥)
      → o.after.vstart ≡ q.vstart + o.passed)
      (λ a h e u. absurd (let z : ◌≡◌ {A = ℕ} 0 1 = cc in omega arith))
      (λ x k c h e u. refl)
      (λ c e u. refl)
      (λ c e u. absurd (u refl))

  turn-remained : (t : Turn J) (q : Point J) → answer_of (turn J t q).ending ≡ Finished
      → ((turn J t q).passed ≡ end_of p - q.vstart) × ((turn J t q).after.vstart ≡ 0)
  turn-remained t q = answer-cases t q
      (λ o. answer_of o.ending ≡ Finished → (o.passed ≡ end_of p - q.vstart) × (o.after.vstart ≡ 0))
      (λ a h e. absurd (apart changes_nothing a Finished h refl e))
      (λ x k c h e. absurd (apart trap_only x.answer Finished h refl e))
      (λ c e. absurd (let z : ◌≡◌ {A = ℕ} 0 1 = cc in omega arith))
      (λ c e. (refl, refl))

  turn-refused : (n : ℕ) (s : State) (a : Answer) → refusal_at b s.rights (core_of s) s.control.vstart ≡ Err a
      → plan_turn b p n s ≡ untouched a s
  unfolding rejection_at
  turn-refused n s a h = ap (outcome_of b p s.rights) (turn-rejected J (turn_with s.rights n) (point_of s) a (rw h))

pub demand-1 : (b : Board) → Demand1 b
unfolding turn_of
demand-1 b = record {
  named = λ word n s. turn-named b (plan_at b word s) (turn_with b (plan_at b word s) s.rights n) (point_of b (plan_at b word s) s);
  refuses = λ word n s. turn-refused b (plan_at b word s) n s;
  unchanged = λ word n s. turn-unchanged b (plan_at b word s) n s;
}

pub counted : (b : Board) → Counts b
unfolding turn_of
counted b = record {
  advance = λ word n s. turn-advances b (plan_at b word s) (turn_with b (plan_at b word s) s.rights n) (point_of b (plan_at b word s) s);
  remained = λ word n s. turn-remained b (plan_at b word s) (turn_with b (plan_at b word s) s.rights n) (point_of b (plan_at b word s) s);
}

-- ---- from one turn to the next: vstart of the record of a `Core` is 0, and stays so

put-vstart : (b : Board) (w : Write) (s : Core) → s.control.vstart ≡ 0 → (put_of b.vlenb w s).control.vstart ≡ 0
unfolding put_of
put-vstart b (to_registers g i r) s h = h
put-vstart b (to_memory a n x) s h = h

set-vstart : (b : Board) (c : Control) (v : ℕ) (a : rust.Option ℕ) → (set_of b c v a).vstart ≡ 0
unfolding set_of
set-vstart b c v (rust.Some avl) = either (λ (c : Control). c.vstart ≡ 0) (supported_of b v) _ _ (λ t. refl) (λ t. refl)
set-vstart b c v rust.None = either (λ (c : Control). c.vstart ≡ 0) (supported_of b v && keeps_of b c v) _ _ (λ t. refl) (λ t. refl)

mask-vstart : (vlenb vl : ℕ) (m : MaskInstruction) (s : Core) (o : MaskOp) → s.control.vstart ≡ 0
    → (mask_result vlenb vl m s o).control.vstart ≡ 0
unfolding mask_result
mask-vstart vlenb vl m s Vcpop h = h
mask-vstart vlenb vl m s Vfirst h = h
mask-vstart vlenb vl m s Vmsbf h = h
mask-vstart vlenb vl m s Vmsof h = h
mask-vstart vlenb vl m s Vmsif h = h

move-vstart : (vlenb : ℕ) (m : ScalarMove) (v : ℕ) (s : Core) (o : ScalarMoveOp) → s.control.vstart ≡ 0
    → (scalar_move_result vlenb m v s o).control.vstart ≡ 0
unfolding scalar_move_result
move-vstart vlenb m v s VmvXS h = h
move-vstart vlenb m v s VmvSX h = h

pub result-vstart : (b : Board) (p : Plan) (v : ℕ) (s : Core) → s.control.vstart ≡ 0 → (result_at b p v s).control.vstart ≡ 0
unfolding one_turn_result setting_result
result-vstart b P.Illegal v s h = h
result-vstart b (P.OneTurn (O.Setting t)) v s h =
    set-vstart b s.control (type_from s.scalars t.vtype) (avl_from s.scalars t.avl)
result-vstart b (P.OneTurn (O.Mask m)) v s h = mask-vstart b.vlenb s.control.vl m s m.op h
result-vstart b (P.OneTurn (O.Reduction r)) v s h = h
result-vstart b (P.OneTurn (O.Packing p)) v s h = h
result-vstart b (P.OneTurn (O.ScalarMove m)) v s h = move-vstart b.vlenb m v s m.op h
result-vstart b (P.Elements e) v s h = h

-- ---- the plan goes by none of vstart, vxsat and VS, so that it is the same in each turn

abbrev besides : Control → ℕ → ℕ → ℕ → Control
besides c v q w = with_vs (with_vxsat (with_vstart c v) q) w

mode-besides : (b : Board) (x : List ℕ) (c : Control) (a : Access) (v q w : ℕ) (m : Mode)
    → by_mode b x (besides c v q w) a m ≡ by_mode b x c a m
unfolding by_mode
mode-besides b x c a v q w M.UnitStride = refl
mode-besides b x c a v q w (M.Strided r) = refl
mode-besides b x c a v q w (M.Indexed r) = refl
mode-besides b x c a v q w M.MaskBytes = refl
mode-besides b x c a v q w (M.Whole n) = refl

plan-besides : (b : Board) (x : List ℕ) (c : Control) (v q w : ℕ) (i : Instruction) → plan_of b x (besides c v q w) i ≡ plan_of b x c i
unfolding plan_of shaped_of reducing_of permuting_of packing_of scalar_moving_of
plan-besides b x c v q w I.Illegal = refl
plan-besides b x c v q w (I.Setting t) = refl
plan-besides b x c v q w (I.Mask m) = refl
plan-besides b x c v q w (I.Reduction a) = refl
plan-besides b x c v q w (I.Pack a) = refl
plan-besides b x c v q w (I.ScalarMove a) = refl
plan-besides b x c v q w (I.Arithmetic a) = refl
plan-besides b x c v q w (I.Permutation a) = refl
plan-besides b x c v q w (I.Memory a) = ap P.Elements (mode-besides b x c a v q w a.mode)

put-plan : (b : Board) (i : Instruction) (p : Plan) (w : Write) (s : Core) → plan_of b s.scalars s.control i ≡ p
    → plan_of b (put_of b.vlenb w s).scalars (put_of b.vlenb w s).control i ≡ p
unfolding put_of
put-plan b i p (to_registers g k x) s h = plan-besides b s.scalars s.control s.control.vstart _ s.control.vs i ∙ h
put-plan b i p (to_memory a n x) s h = h

-- ---- a list of turns of a word whose plan is p

module _ (b : Board) (p : Plan) where
  -- the state that a turn with other rights gets after a turn of n from s: the point that this one left
  abbrev following : ℕ → State → List ℕ → State
  following n s r = with_rights r (plan_turn b p n s).after

  -- the point of a state with a VS in use as Dirty, which is how a turn leaves it, and a turn from there
  abbrev settled_point : State → Point (J b p)
  settled_point s = changed_point (J b p) settled (point_of b p s)

  abbrev settled_run : ℕ → State → TurnEnd (J b p)
  settled_run n s = turn (J b p) (turn_with b p s.rights n) (settled_point s)

  ran_settled : (n : ℕ) (s : State) → settled_run n s ≡ changed_end (J b p) settled (ran_of b p n s)
  ran_settled n s =
      passes-by (J b p) settled (turn_with b p s.rights n) (point_of b p s) (status-unseen b p (core_of s) s.control.vstart)

  ran-ending : (n : ℕ) (s : State) → (settled_run n s).ending ≡ (ran_of b p n s).ending
  ran-ending n s = ap (λ (o : TurnEnd (J b p)). o.ending) (ran_settled n s)

  -- a state's vstart is that of the point, and the record's 0
  core-left : (r r' : List ℕ) (c : Core) (v w : ℕ) → c.control.vstart ≡ 0
      → core_of (with_rights r' (state_of r c v w)) ≡ with_control (with_vs c.control w) c
  core-left r r' c v w h = λ j. record {
    registers = c.registers;
    scalars = c.scalars;
    memory = c.memory;
    control = with_vs (with_vstart c.control (sym h j)) w;
  }

  following-point : (n : ℕ) (s : State) (r : List ℕ) → settled_point (following n s r) ≡ (settled_run n s).after
  following-point n s r =
      let o : TurnEnd (J b p) = ran_of b p n s in
      let at : Core → Point (J b p) = λ c. record { state = c; vstart = o.after.vstart } in
      let w : ℕ = vs_after o.ending o.after.state.control.vs in
      let v : o.after.state.control.vstart ≡ 0 =
      turn-keeps (J b p) (λ c. c.control.vstart ≡ 0) (all_keep b.vlenb _ (put-vstart b)) (result-vstart b p)
      (turn_with b p s.rights n) (point_of b p s) refl in
      ap (λ (c : Core). at (settled c)) (core-left s.rights r o.after.state o.after.vstart w v)
      ∙ ap at (marked-settled b p (turn_with b p s.rights n) (point_of b p s))
      ∙ sym (ap (λ (e : TurnEnd (J b p)). e.after) (ran_settled n s))

  pub following-plan : (word n : ℕ) (s : State) (r : List ℕ) → plan_at b word s ≡ p → ((ran_of b p n s).ending ≡ finished → ⊥)
      → plan_at b word (following n s r) ≡ p
  following-plan word n s r e u =
      let q : Point (J b p) = (ran_of b p n s).after in
      plan-besides b q.state.scalars q.state.control q.vstart q.state.control.vxsat _ (decode_of word)
      ∙ unfinished-keeps (J b p) (λ c. plan_of b c.scalars c.control (decode_of word) ≡ p)
      (all_keep b.vlenb _ (put-plan b (decode_of word) p))
      (turn_with b p s.rights n) (point_of b p s) u
      (plan-besides b s.scalars s.control 0 s.control.vxsat s.control.vs (decode_of word) ∙ e)

  -- the turns after the first
  abbrev later : List Next → List (Turn (J b p))
  later [] = []
  later (u ∷ us) = turn_with b p u.rights u.allowance ∷ later us

  later-rights : (r : List ℕ) (n : ℕ) (us : List Next) → final_rights (J b p) (turn_with b p r n) (later us) ≡ last_rights r us
  later-rights r n [] = refl
  later-rights r n (u ∷ us) = later-rights u.rights u.allowance us

  -- a first turn of n from s, and then the turns us
  abbrev ran_turns : State → ℕ → List Next → TurnEnd (J b p)
  ran_turns s n us = turns (J b p) (turn_with b p s.rights n) (later us) (settled_point s)

  -- the outcome of a turn that finishes
  abbrev finishing : List ℕ → TurnEnd (J b p) → Outcome
  finishing r o = record {
    answer = Finished;
    passed = o.passed;
    place = nowhere;
    after = state_of r o.after.state o.after.vstart dirty;
  }

  outcome-finished : (r : List ℕ) (o : TurnEnd (J b p)) → o.ending ≡ finished → outcome_of b p r o ≡ finishing r o
  outcome-finished r o e = rw e

  answer-finished : (r : List ℕ) (o : TurnEnd (J b p)) → o.ending ≡ finished
      → outcome_of b p r o ≡ record { answer = Finished; passed = o.passed; place = nowhere; after = (outcome_of b p r o).after }
  answer-finished r o e = rw e

  -- an outcome is that of a run: its answer always, and all of it where the run finishes
  record Same (r : List ℕ) (o : Outcome) (e : TurnEnd (J b p)) : Type 0 where
    answers : o.answer ≡ answer_of e.ending
    finishes : e.ending ≡ finished → o ≡ finishing r e

  turn-same : (n : ℕ) (s : State) → Same s.rights (plan_turn b p n s) (settled_run n s)
  turn-same n s = record {
    answers = ap answer_of (sym (ran-ending n s));
    finishes = λ f. outcome-finished s.rights (ran_of b p n s) (sym (ran-ending n s) ∙ f)
        ∙ sym (ap (finishing s.rights) (ran_settled n s));
  }

opens : (r r' : List ℕ) (t : Bool) → (r' ≡ r) ⊎ ((t ≡ true) × Opened r r') → Opened r r'
opens r r' t (inl e) = rw e (opened-refl r)
opens r r' t (inr h) = h.1

-- one turn more in front
abbrev pub joined : Outcome → Outcome → Outcome
joined o q = record { answer = q.answer; passed = o.passed + q.passed; place = q.place; after = q.after }

refused-again : {A : Type 0} (a : Answer) (r r' : List ℕ) → refusal_only a ≡ true → (r' ≡ r → A)
    → (r' ≡ r) ⊎ ((is_trap a ≡ true) × Opened r r') → A
refused-again a r r' k f (inl e) = f e
refused-again a r r' k f (inr h) = absurd (apart not (is_trap a) true (both_right (changes_nothing a) (not (is_trap a)) k) refl h.0)

module _ (b : Board) (word : ℕ) where
  turn_is : (p : Plan) (n : ℕ) (s : State) → plan_at b word s ≡ p → turn_of b word n s ≡ plan_turn b p n s
  unfolding turn_of
  turn_is p n s e = ap (λ (q : Plan). plan_turn b q n s) e

  -- what a list of turns goes on to after its first, of which the plan is p
  record Goes (p : Plan) (n : ℕ) (s : State) (u : Next) (us : List Next) : Type 0 where
    unfinished : (ran_of b p n s).ending ≡ finished → ⊥
    opened : Opened s.rights u.rights
    next : plan_at b word (following b p n s u.rights) ≡ p
    rest : Proceeds b word (following b p n s u.rights) u.allowance us

  goes : (p : Plan) (n : ℕ) (s : State) (u : Next) (us : List Next) → plan_at b word s ≡ p → Proceeds b word s n (u ∷ us) → Goes p n s u us
  goes p n s u us e h =
      let unended : (ran_of b p n s).ending ≡ finished → ⊥ =
      λ f. h.1.0 (ap (λ (o : Outcome). o.answer) (turn_is p n s e) ∙ ap answer_of f) in
      record {
        unfinished = unended;
        opened = opens s.rights u.rights _ (subst (λ (o : Outcome). Between o u) (turn_is p n s e) h.1.1.0);
        next = following-plan b p word n s u.rights e unended;
        rest =
            subst (λ (o : Outcome). Proceeds b word (with_rights u.rights o.after) u.allowance us) (turn_is p n s e) h.1.1.1;
      }

  turns_same : (p : Plan) (s : State) (n : ℕ) (us : List Next) → plan_at b word s ≡ p → Proceeds b word s n us
      → Same b p (last_rights s.rights us) (turns_of b word s n us) (ran_turns b p s n us)
  unfolding turns_of turns
  turns_same p s n [] e h = subst (λ (o : Outcome). Same b p s.rights o (settled_run b p n s)) (sym (turn_is p n s e)) (turn-same b p n s)
  turns_same p s n (u ∷ us) e h =
      let g = goes p n s u us e h in
      let first : TurnEnd (J b p) = settled_run b p n s in
      let rest : Point (J b p) → TurnEnd (J b p) = turns (J b p) (turn_with b p u.rights u.allowance) (later b p us) in
      let r : List ℕ = last_rights u.rights us in
      let x : Outcome = turns_of b word (following b p n s u.rights) u.allowance us in
      let y : Same b p r x (rest first.after) =
      subst (λ z. Same b p r x (rest z)) (following-point b p n s u.rights)
      (turns_same p (following b p n s u.rights) u.allowance us g.next g.rest) in
      let k : (plan_turn b p n s).passed ≡ first.passed = sym (ap (λ (o : TurnEnd (J b p)). o.passed) (ran_settled b p n s)) in
      let i : turns_of b word s n (u ∷ us) ≡ joined (plan_turn b p n s) x =
      ap (λ (o : Outcome). joined o (turns_of b word (with_rights u.rights o.after) u.allowance us)) (turn_is p n s e) in
      record {
        answers = ap (λ (o : Outcome). o.answer) i ∙ y.answers;
        finishes = λ f. i ∙ ap (joined (plan_turn b p n s)) (y.finishes f)
            ∙ ap (λ (m : ℕ). finishing b p r (record {
              ending = (rest first.after).ending;
              passed = m + (rest first.after).passed;
              after = (rest first.after).after;
            })) k;
      }

  proceeds-unfinished : (p : Plan) (s : State) (n : ℕ) (us : List Next) → plan_at b word s ≡ p → Proceeds b word s n us
      → NoneFinishes (J b p) (turn_with b p s.rights n) (later b p us) (settled_point b p s)
  proceeds-unfinished p s n [] e h = tt
  proceeds-unfinished p s n (u ∷ us) e h =
      let g = goes p n s u us e h in (
        (λ f. g.unfinished (sym (ran-ending b p n s) ∙ f)),
        subst (NoneFinishes (J b p) (turn_with b p u.rights u.allowance) (later b p us)) (following-point b p n s u.rights)
            (proceeds-unfinished p (following b p n s u.rights) u.allowance us g.next g.rest),
      )

  proceeds-opening : (p : Plan) (s : State) (n : ℕ) (us : List Next) → plan_at b word s ≡ p → Proceeds b word s n us
      → Opening (J b p) (turn_with b p s.rights n) (later b p us)
  proceeds-opening p s n [] e h = tt
  proceeds-opening p s n (u ∷ us) e h =
      let g = goes p n s u us e h in
      (g.opened, proceeds-opening p (following b p n s u.rights) u.allowance us g.next g.rest)

  -- a state that is refused stays refused: no page is opened after a refusal
  refused-always : (a : Answer) (s : State) (n : ℕ) (us : List Next) → refusal_only a ≡ true
      → refusal_at b s.rights (core_of s) s.control.vstart ≡ Err a → Proceeds b word s n us → (turns_of b word s n us).answer ≡ a
  unfolding turns_of
  refused-always a s n [] k h q = ap (λ (o : Outcome). o.answer) ((demand-1 b).refuses word n s a h)
  refused-always a s n (u ∷ us) k h q =
      let e : turn_of b word n s ≡ untouched a s = (demand-1 b).refuses word n s a h in
      let again : (u.rights ≡ s.rights) ⊎ ((is_trap a ≡ true) × Opened s.rights u.rights) =
      subst (λ (o : Outcome). Between o u) e q.1.1.0 in
      ap (λ (o : Outcome). (turns_of b word (with_rights u.rights o.after) u.allowance us).answer) e
      ∙ refused-again a s.rights u.rights k (λ r. refused-always a (with_rights u.rights s) u.allowance us k (rw r h)
      (subst (λ (o : Outcome). Proceeds b word (with_rights u.rights o.after) u.allowance us) e q.1.1.1)) again

module _ (b : Board) (w : Valid b) (word : ℕ) where
  -- a state that is not refused
  abbrev Admitted : State → Type 0
  Admitted s = refusal_at b s.rights (core_of s) s.control.vstart ≡ Ok tt

  lawful-at : (s : State) → Admitted s → Lawful (J b (plan_at b word s))
  lawful-at s h =
      lawful b w (plan_at b word s)
      (plan-sound b s.scalars s.control (decode_of word) w
      (possible-apart b s.control (accepted-facts b _ _ _ s.rights _ h).possible)
      (fits word))

  uncut-turns : (n : ℕ) (s : State) (us : List Next) → Proceeds b word s n us → (turns_of b word s n us).answer ≡ Finished → Admitted s
      → turn_of b word (2 ^ 32 - 1) (with_rights (last_rights s.rights us) s) ≡ turns_of b word s n us
  unfolding turn_of
  uncut-turns n s us h f y =
      let p : Plan = plan_at b word s in
      let t : Turn (J b p) = turn_with b p s.rights n in
      let r : List ℕ = last_rights s.rights us in
      let same = turns_same b word p s n us refl h in
      let e : (ran_turns b p s n us).ending ≡ finished =
      turns-finished b p t (later b p us) (settled_point b p s) (sym same.answers ∙ f) in
      let one : ran_turns b p s n us ≡ uncut_run (J b p) r (settled_point b p s) =
      uncut (J b p) (lawful-at s y) t (later b p us) (settled_point b p s) (proceeds-opening b word p s n us refl h)
      (proceeds-unfinished b word p s n us refl h) e
      ∙ ap (λ r. uncut_run (J b p) r (settled_point b p s)) (later-rights b p s.rights n us) in
      (turn-same b p (2 ^ 32 - 1) (with_rights r s)).finishes (sym (ap (λ (o : TurnEnd (J b p)). o.ending) one) ∙ e)
      ∙ sym (same.finishes e ∙ ap (finishing b p r) one)

  uncut-any : (n : ℕ) (s : State) (us : List Next) → Proceeds b word s n us → (turns_of b word s n us).answer ≡ Finished
      → turn_of b word (2 ^ 32 - 1) (with_rights (last_rights s.rights us) s) ≡ turns_of b word s n us
  uncut-any n s us h f = go (refusal_at b s.rights (core_of s) s.control.vstart) refl (board-refuses b _ _ _ s.rights _)
    where
      go : (v : Result ⊤ Answer) → refusal_at b s.rights (core_of s) s.control.vstart ≡ v → Refuses refusal_only v
          → turn_of b word (2 ^ 32 - 1) (with_rights (last_rights s.rights us) s) ≡ turns_of b word s n us
      go (Ok tt) e k = uncut-turns n s us h f e
      go (Err a) e (refuses k) = absurd (apart refusal_only a Finished k refl (sym (refused-always b word a s n us k e h) ∙ f))

  wider-turn : (n m : ℕ) (s : State) (r : List ℕ) → n ≤ m → Opened s.rights r → (turn_of b word n s).answer ≡ Finished
      → turn_of b word m (with_rights r s)
      ≡ record { answer = Finished; passed = (turn_of b word n s).passed; place = nowhere; after = with_rights r (turn_of b word n s).after }
  unfolding turn_of
  wider-turn n m s r l o f = go (refusal_at b s.rights (core_of s) s.control.vstart) refl (board-refuses b _ _ _ s.rights _)
    where
      p : Plan
      p = plan_at b word s

      go : (v : Result ⊤ Answer) → refusal_at b s.rights (core_of s) s.control.vstart ≡ v → Refuses refusal_only v
          → plan_turn b p m (with_rights r s)
          ≡ record { answer = Finished; passed = (plan_turn b p n s).passed; place = nowhere; after = with_rights r (plan_turn b p n s).after }
      go (Ok tt) y k =
          let e : (ran_of b p n s).ending ≡ finished = turn-finished b p (turn_with b p s.rights n) (point_of b p s) f in
          ap (outcome_of b p r) (monotone (J b p) (lawful-at s y) (turn_with b p s.rights n) (turn_with b p r m) (point_of b p s) o l e)
          ∙ answer-finished b p r (ran_of b p n s) e
      go (Err a) y (refuses k) =
          absurd (apart refusal_only a Finished k refl (sym (ap (λ (z : Outcome). z.answer) (turn-refused b p n s a y)) ∙ f))

pub demand-3 : (b : Board) → Valid b → Demand3 b
unfolding turn_of
demand-3 b w = record {
  uncut = λ word. uncut-any b w word;
  progress = λ word n s. turn-progress b (plan_at b word s) (turn_with b (plan_at b word s) s.rights n) (point_of b (plan_at b word s) s);
  monotone = λ word. wider-turn b w word;
}
