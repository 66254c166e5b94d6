-- Words that move segments (document 02, A1; section 8.8 of document 000), and what a turn answers to each and leaves.
use Rattle.std.specs.Prelude.{ℕ, ◌-◌, ◌*◌, ◌^◌, ◌≡◌, List, [], ◌∷◌, map, take, drop, replicate}
use Rattle.answer.specs.declared.Answer.{Answer}
use Rattle.answer.specs.declared.Answer.TheVariants.{Finished, Paused, Illegal, LoadAccess}
use Rattle.control.specs.Board.{base}
use Rattle.control.specs.Control.{reset, with_vtype}
use Rattle.machine.specs.State.{State, Outcome}
use Rattle.machine.specs.Machine.{turn_of}
use Rattle.examples.specs.Values.{blank_at}

-- the answers to an uncut turn of each word at a vtype with vl 0: legality does not go by vl, and a legal word has nothing to do
abbrev pub answers_at : ℕ → List ℕ → List Answer
answers_at vtype words = map (λ (word : ℕ). (turn_of base word (2 ^ 32 - 1) (blank_at vtype 0 0)).answer) words

-- two pixels at e8, LMUL 1: vl is 2, x10 is 0, and page 0 may be read
abbrev pub pixels : List ℕ → State
pixels memory = record {
  registers = replicate 512 0;
  scalars = replicate 32 0;
  memory = memory;
  rights = 1 ∷ replicate 255 0;
  control = with_vtype reset 0x00 2;
}

-- vlseg3e8.v v8, (x10)
abbrev pub loaded_of : ℕ → List ℕ → Outcome
loaded_of allowance memory = turn_of base 0x42050407 allowance (pixels memory)

-- the first two bytes of v8, v9 and v10
abbrev pub colours : Outcome → List (List ℕ)
colours o = map (λ (reg : ℕ). take 2 (drop (16 * reg) o.after.registers)) (8 ∷ 9 ∷ 10 ∷ [])

pub record SegmentCases : Type 0 where
  -- EMUL times fields: eight at LMUL 1/2 (vlseg8e8.v), two at LMUL 4 (vlseg2e8.v), but not three (vlseg3e8.v), and not eight at LMUL 2
  pub eight-halves : answers_at 0x07 (0xE2050407 ∷ []) ≡ replicate 1 Finished
  pub two-fours : answers_at 0x02 (0x22050407 ∷ 0x42050407 ∷ []) ≡ (Finished ∷ Illegal ∷ [])
  pub eight-twos : answers_at 0x01 (0xE2050407 ∷ []) ≡ replicate 1 Illegal
  -- no register past 31: vlseg8e8.v v24 and v25, vlseg2e8.v v30 and v31
  pub last-registers : answers_at 0x00 (0xE2050C07 ∷ 0xE2050C87 ∷ 0x22050F07 ∷ 0x22050F87 ∷ [])
      ≡ (Finished ∷ Illegal ∷ Finished ∷ Illegal ∷ [])
  -- an indexed load overlaps its indices in no field: vluxseg2ei8.v v8, (x10), v8; v9; v10; and vloxseg2ei8.v v8, (x10), v9
  pub indices : answers_at 0x00 (0x26850407 ∷ 0x26950407 ∷ 0x26A50407 ∷ 0x2E950407 ∷ []) ≡ (Illegal ∷ Illegal ∷ Finished ∷ Illegal ∷ [])
  -- of one field it may, at equal EEW: vluxei8.v v8, (x10), v8
  pub one_field : answers_at 0x00 (0x06850407 ∷ []) ≡ replicate 1 Finished
  -- what is stored is a source in every field: vsuxseg2ei8.v v8, (x10), v9; vsuxseg2ei16.v, vsuxseg3ei16.v v8, (x10), v10
  pub stored-fields : answers_at 0x00 (0x26950427 ∷ 0x26A55427 ∷ 0x46A55427 ∷ []) ≡ (Finished ∷ Finished ∷ Illegal ∷ [])
  -- v0 as the mask: vlseg2e8.v v0, (x10), v0.t; vsseg2e8.v v0, (x10), v0.t; vlseg2e8.v v8, (x10), v0.t
  pub masked-fields : answers_at 0x00 (0x20050007 ∷ 0x20050027 ∷ 0x20050407 ∷ []) ≡ (Illegal ∷ Illegal ∷ Finished ∷ [])
  -- nf 1 with lumop 16, fault-only-first, and 11, a mask; with 8 it is vl2re8.v v8, which has elements at vl 0 too, and no memory here
  pub other-lumops : answers_at 0x00 (0x23050407 ∷ 0x22B50407 ∷ 0x22850407 ∷ []) ≡ (Illegal ∷ Illegal ∷ LoadAccess ∷ [])
  -- red, green and blue of two pixels
  pub two-pixels : colours (loaded_of (2 ^ 32 - 1) (10 ∷ 20 ∷ 30 ∷ 11 ∷ 21 ∷ 31 ∷ []))
      ≡ ((10 ∷ 11 ∷ []) ∷ (20 ∷ 21 ∷ []) ∷ (30 ∷ 31 ∷ []) ∷ [])
  -- the allowance counts pixels: one of them, and then a pause
  pub one-pixel : (loaded_of 1 (10 ∷ 20 ∷ 30 ∷ 11 ∷ 21 ∷ 31 ∷ [])).answer ≡ Paused
  pub one-passed : (loaded_of 1 (10 ∷ 20 ∷ 30 ∷ 11 ∷ 21 ∷ 31 ∷ [])).passed ≡ 1
  pub one-loaded : colours (loaded_of 1 (10 ∷ 20 ∷ 30 ∷ 11 ∷ 21 ∷ 31 ∷ [])) ≡ ((10 ∷ 0 ∷ []) ∷ (20 ∷ 0 ∷ []) ∷ (30 ∷ 0 ∷ []) ∷ [])
  -- memory ends before the second pixel's blue: nothing of that pixel is moved, and the address is the blue's
  pub blue-faults : (loaded_of (2 ^ 32 - 1) (10 ∷ 20 ∷ 30 ∷ 11 ∷ 21 ∷ [])).answer ≡ LoadAccess
  pub blue-address : (loaded_of (2 ^ 32 - 1) (10 ∷ 20 ∷ 30 ∷ 11 ∷ 21 ∷ [])).place.address ≡ 5
  pub before-blue : colours (loaded_of (2 ^ 32 - 1) (10 ∷ 20 ∷ 30 ∷ 11 ∷ 21 ∷ [])) ≡ ((10 ∷ 0 ∷ []) ∷ (20 ∷ 0 ∷ []) ∷ (30 ∷ 0 ∷ []) ∷ [])
