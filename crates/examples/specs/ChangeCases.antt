-- Changes between turns (document 02, A12): what some words read and write; a pupil who pauses and changes what the word does not touch;
-- and why each condition is there: a change of what it does touch, after which the run is not the uncut one.
use Rattle.std.specs.Prelude.{ℕ, zero, suc, ◌-◌, ◌*◌, ◌+◌, ◌^◌, ◌≡◌, Bool, true, false, cond, List, [], ◌∷◌, ◌++◌, map, take, drop, set}
use Rattle.std.specs.Prelude.{replicate}
use Rattle.answer.specs.declared.Answer.TheVariants.{Finished, Paused}
use Rattle.control.specs.declared.Control.{Control}
use Rattle.control.specs.Board.{base, small}
use Rattle.control.specs.Control.{reset, with_vtype, with_vstart}
use Rattle.decode.specs.Word.{decode_of}
use Rattle.machine.specs.State.{State, Outcome, with_rights}
use Rattle.machine.specs.Machine.{plan_at, turn_of}
use Rattle.machine.specs.Demands.{last_rights}
use Rattle.footprint.specs.Footprint.{any_of, uses_register, scalars_of, addresses_byte}
use Rattle.footprint.specs.Changes.{Change, register_byte, scalar_register, memory_byte, with_change, touches, Resumed, resumed_turns}
use Rattle.footprint.specs.Changes.{ProceedsResumed, all_changes, turns_alone, followed_by}

-- At a vtype, with vl 3 and a vstart: v0 is the mask 101, v8 begins 5, 6, 7, 8 and v9 begins 1, 2, 3, 4; x11 is 4 and x12 is 3. Memory has
-- 16 bytes, and byte a holds a; page 0 may be read and written
abbrev pub lesson_at : ℕ → ℕ → State
lesson_at vtype vstart = record {
  registers =
      (0b101 ∷ replicate 127 0)
      ++ (5 ∷ 6 ∷ 7 ∷ 8 ∷ replicate 12 0)
      ++ (1 ∷ 2 ∷ 3 ∷ 4 ∷ replicate 364 0);
  scalars = set (set (replicate 32 0) 11 4) 12 3;
  memory = 0 ∷ 1 ∷ 2 ∷ 3 ∷ 4 ∷ 5 ∷ 6 ∷ 7 ∷ 8 ∷ 9 ∷ 10 ∷ 11 ∷ 12 ∷ 13 ∷ 14 ∷ 15 ∷ [];
  rights = 2 ∷ replicate 255 0;
  control = with_vstart (with_vtype reset vtype 3) vstart;
}

-- e8 at LMUL 1
abbrev pub lesson : State
lesson = lesson_at 0x00 0

-- ---- what words read and write

-- those of the n numbers from i up that pass a test
unfoldable pub those_from : (ℕ → Bool) → ℕ → ℕ → List ℕ
those_from test i zero = []
those_from test i (suc n) = cond (test i) (i ∷ those_from test (suc i) n) (those_from test (suc i) n)

-- the vector registers of each word at a vtype; the scalar registers that each names; the bytes of 16 that each addresses from a vstart
abbrev pub registers_used : ℕ → List ℕ → List (List ℕ)
registers_used vtype words = map (λ (word : ℕ). those_from (uses_register (plan_at base word (lesson_at vtype 0))) 0 32) words

abbrev pub scalars_named : List ℕ → List (List ℕ)
scalars_named words = map (λ (word : ℕ). scalars_of (decode_of word)) words

abbrev pub bytes_addressed : ℕ → List ℕ → List (List ℕ)
bytes_addressed vstart words =
    map (λ (word : ℕ). those_from (addresses_byte base (lesson_at 0x00 vstart) (plan_at base word (lesson_at 0x00 vstart))) 0 16) words

-- ---- one turn of one element, a change of the state, and the rest

abbrev pub rest_after : (State → State) → ℕ → Outcome
rest_after change word = turn_of base word (2 ^ 32 - 1) (change (turn_of base word 1 lesson).after)

-- the theorem says that the two states below are equal where the word does not touch what is changed. Here they are not, though the first
-- turn pauses and the second finishes
pub record Differs (change : State → State) (word : ℕ) : Type 0 where
  pub pauses : (turn_of base word 1 lesson).answer ≡ Paused
  pub finishes : (rest_after change word).answer ≡ Finished
  pub differs : (rest_after change word).after ≡ change (turn_of base word (2 ^ 32 - 1) lesson).after → ⊥

-- the theorem with a test of its own of which changes it does not let through: with `touches base` it is `(ChangesFollow base).uncut`
abbrev pub FollowUnless : (ℕ → State → Change → Bool) → Type 0
FollowUnless test = (word n : ℕ) (s : State) (us : List Resumed) → ProceedsResumed base word s n us
    → any_of (test word s) (all_changes us) ≡ false → (resumed_turns base word s n us).answer ≡ Finished
    → resumed_turns base word s n us
    ≡ followed_by (all_changes us) (turn_of base word (2 ^ 32 - 1) (with_rights (last_rights s.rights (turns_alone us)) s))

-- element i of vn at e8 set to x
abbrev pub element_to : ℕ → ℕ → ℕ → State → State
element_to n i x = with_change (register_byte (16 * n + i) x)

abbrev pub with_control_of : (Control → Control) → State → State
with_control_of f s =
    record { registers = s.registers; scalars = s.scalars; memory = s.memory; rights = s.rights; control = f s.control }

-- ---- a pupil who pauses

-- vmacc.vx v9, x12, v8: after the first element v10, x13 and byte 8 of memory are changed
abbrev pub changes_made : List Change
changes_made = register_byte (16 * 10 + 1) 99 ∷ scalar_register 13 7 ∷ memory_byte 8 42 ∷ []

abbrev pub resumed_run : Outcome
resumed_run = resumed_turns base 0xB68664D7 lesson 1
    (record { changes = changes_made; next = record { allowance = 2 ^ 32 - 1; rights = lesson.rights } } ∷ [])

pub record ChangeCases : Type 0 where
  -- vadd.vv v10, v8, v9; the same under v0.t; vadc.vvm v10, v8, v9, v0; vmerge.vvm v10, v8, v9, v0: v0 is read where vm is 0
  pub sources-and-v0 :
      registers_used 0x00 (0x02848557 ∷ 0x00848557 ∷ 0x40848557 ∷ 0x5C848557 ∷ [])
      ≡ ((8 ∷ 9 ∷ 10 ∷ []) ∷ (0 ∷ 8 ∷ 9 ∷ 10 ∷ []) ∷ (0 ∷ 8 ∷ 9 ∷ 10 ∷ []) ∷ (0 ∷ 8 ∷ 9 ∷ 10 ∷ []) ∷ [])
  -- vwadd.vv v10, v8, v9; vnsrl.wv v10, v8, v12: the group of 2 * SEW has two registers
  pub two-widths : registers_used 0x00 (0xC684A557 ∷ 0xB2860557 ∷ []) ≡ ((8 ∷ 9 ∷ 10 ∷ 11 ∷ []) ∷ (8 ∷ 9 ∷ 10 ∷ 12 ∷ []) ∷ [])
  -- at LMUL 2, where vl 3 fills none of the groups: vrgather.vv v10, v8, v12; vslidedown.vi v10, v8, 1; vmseq.vv v13, v8, v10
  pub whole-groups :
      registers_used 0x01 (0x32860557 ∷ 0x3E80B557 ∷ 0x628506D7 ∷ [])
      ≡ ((8 ∷ 9 ∷ 10 ∷ 11 ∷ 12 ∷ 13 ∷ []) ∷ (8 ∷ 9 ∷ 10 ∷ 11 ∷ []) ∷ (8 ∷ 9 ∷ 10 ∷ 11 ∷ 13 ∷ []) ∷ [])
  -- at LMUL 2: vlseg3e8.v v10, (x11), each of its fields; vluxei8.v v10, (x11), v8; vl2re8.v v10, (x11); vlm.v v10, (x11)
  pub fields :
      registers_used 0x01 (0x42058507 ∷ 0x06858507 ∷ 0x22858507 ∷ 0x02B58507 ∷ [])
      ≡ ((10 ∷ 11 ∷ 12 ∷ 13 ∷ 14 ∷ 15 ∷ []) ∷ (8 ∷ 9 ∷ 10 ∷ 11 ∷ []) ∷ (10 ∷ 11 ∷ []) ∷ (10 ∷ []) ∷ [])
  -- at LMUL 2: vredsum.vs v11, v8, v13, v0.t; vcompress.vm v10, v8, v13; vcpop.m x5, v13, v0.t; vmv.x.s x5, v13: single registers
  pub single-registers :
      registers_used 0x01 (0x0086A5D7 ∷ 0x5E86A557 ∷ 0x40D822D7 ∷ 0x42D022D7 ∷ [])
      ≡ ((0 ∷ 8 ∷ 9 ∷ 11 ∷ 13 ∷ []) ∷ (8 ∷ 9 ∷ 10 ∷ 11 ∷ 13 ∷ []) ∷ (0 ∷ 13 ∷ []) ∷ (13 ∷ []) ∷ [])
  -- vadd.vv v10, v8, v9; vslidedown.vi v10, v8, 1; vadd.vx v10, v8, x12; vle8.v v10, (x11); vlse8.v v10, (x11), x12
  pub scalar-operands :
      scalars_named (0x02848557 ∷ 0x3E80B557 ∷ 0x02864557 ∷ 0x02058507 ∷ 0x0AC58507 ∷ [])
      ≡ ([] ∷ [] ∷ (12 ∷ []) ∷ (11 ∷ []) ∷ (11 ∷ 12 ∷ []) ∷ [])
  -- vsetvli x5, x6, 0; vsetvli x5, x0, 0; vsetivli x5, 6, 0; vsetvl x5, x6, x7; vcpop.m x5, v13, v0.t; vmv.x.s x5, v13; vmv.s.x v13, x12
  pub settings-and-moves :
      scalars_named (0x000372D7 ∷ 0x000072D7 ∷ 0xC00372D7 ∷ 0x807372D7 ∷ 0x40D822D7 ∷ 0x42D022D7 ∷ 0x420666D7 ∷ [])
      ≡ ((5 ∷ 6 ∷ []) ∷ (5 ∷ 0 ∷ []) ∷ (5 ∷ []) ∷ (5 ∷ 6 ∷ 7 ∷ []) ∷ (5 ∷ []) ∷ (5 ∷ []) ∷ (12 ∷ []) ∷ [])
  -- vle8.v v10, (x11); vse8.v v8, (x11); vle8.v v10, (x11), v0.t; vlseg2e8.v v10, (x11); vlse8.v v10, (x11), x12; vluxei8.v v10, (x11), v8
  pub bytes :
      bytes_addressed 0 (0x02058507 ∷ 0x02058427 ∷ 0x00058507 ∷ 0x22058507 ∷ 0x0AC58507 ∷ 0x06858507 ∷ [])
      ≡ ((4 ∷ 5 ∷ 6 ∷ []) ∷ (4 ∷ 5 ∷ 6 ∷ []) ∷ (4 ∷ 6 ∷ []) ∷ (4 ∷ 5 ∷ 6 ∷ 7 ∷ 8 ∷ 9 ∷ []) ∷ (4 ∷ 7 ∷ 10 ∷ []) ∷ (9 ∷ 10 ∷ 11 ∷ []) ∷ [])
  -- from vstart 1: vle8.v v10, (x11); and vadd.vv v10, v8, v9, which addresses none
  pub bytes_left : bytes_addressed 1 (0x02058507 ∷ 0x02848557 ∷ []) ≡ ((5 ∷ 6 ∷ []) ∷ [] ∷ [])
  -- bytes 159, 160, 175 and 176 of the file are of v9, v10, v10 and v11, on the smaller board 79, 80, 87 and 88: vid.v v10
  pub bytes-of-registers :
      (map (λ (k : ℕ). touches base 0x5208A557 lesson (register_byte k 0)) (159 ∷ 160 ∷ 175 ∷ 176 ∷ [])
      ∷ map (λ (k : ℕ). touches small 0x5208A557 lesson (register_byte k 0)) (79 ∷ 80 ∷ 87 ∷ 88 ∷ [])
      ∷ [])
      ≡ replicate 2 (false ∷ true ∷ true ∷ false ∷ [])
  -- the pupil's changes are not touched
  pub untouched : any_of (touches base 0xB68664D7 lesson) changes_made ≡ false
  -- what the run comes to: 1 + 3 * 5, 2 + 3 * 6, 3 + 3 * 7 in v9, each product added once; 3 elements passed, 1 and 2
  pub products : take 4 (drop (16 * 9) resumed_run.after.registers) ≡ (16 ∷ 20 ∷ 24 ∷ 4 ∷ [])
  pub counted : resumed_run.passed ≡ 3
  -- and all of it is the uncut run, followed by the changes
  pub as-uncut : resumed_run ≡ followed_by changes_made (turn_of base 0xB68664D7 (2 ^ 32 - 1) lesson)
  -- the theorem is false with every test that lets a change through which `Differs`: each of those below but the last two
  pub needed : (test : ℕ → State → Change → Bool) (word : ℕ) (c : Change) → Differs (with_change c) word → test word lesson c ≡ false
      → FollowUnless test → ⊥
  -- vadd.vv v10, v8, v9: element 1 of v8, a source; element 1 of v10, the destination
  pub source : Differs (element_to 8 1 0) 0x02848557
  pub destination : Differs (element_to 10 1 0) 0x02848557
  -- vslidedown.vi v10, v8, 1: element 3 of v8, past vl, which element 2 reads
  pub source-past-vl : Differs (element_to 8 3 0) 0x3E80B557
  -- vlseg2e8.v v10, (x11): element 1 of field 1, in v11
  pub field : Differs (element_to 11 1 0) 0x22058507
  -- vadd.vv v10, v8, v9, v0.t: bit 1 of the mask; vadc.vvm v10, v8, v9, v0: bit 1 of the carries
  pub mask : Differs (element_to 0 0 0b111) 0x00848557
  pub carries : Differs (element_to 0 0 0b111) 0x40848557
  -- vadd.vx v10, v8, x12; vle8.v v10, (x11): a scalar register that the word names
  pub scalar : Differs (with_change (scalar_register 12 1)) 0x02864557
  pub base-address : Differs (with_change (scalar_register 11 9)) 0x02058507
  -- vle8.v v10, (x11), which reads byte 5 for element 1; vse8.v v8, (x11), which writes it
  pub byte-read : Differs (with_change (memory_byte 5 0)) 0x02058507
  pub byte-written : Differs (with_change (memory_byte 5 0)) 0x02058427
  -- vmacc.vx v9, x12, v8: vstart set back to 0, so that the first product is added twice; vl lowered to 2, so that the last is not added
  pub vstart : Differs (with_control_of (λ c. with_vstart c 0)) 0xB68664D7
  pub vl : Differs (with_control_of (λ c. with_vtype c 0x00 2)) 0xB68664D7
