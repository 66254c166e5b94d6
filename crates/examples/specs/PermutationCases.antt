-- Permutations (document 02, A6; sections 16.8, 16.9, 17.1, 17.3 to 17.5 of document 000): what they write, which words are legal.
use Rattle.std.specs.Prelude.{ℕ, ◌-◌, ◌*◌, ◌^◌, ◌≡◌, List, [], ◌∷◌, ◌++◌, map, get_or, take, drop, set, replicate}
use Rattle.answer.specs.declared.Answer.TheVariants.{Finished, Illegal}
use Rattle.control.specs.Board.{base}
use Rattle.control.specs.Control.{reset, with_vtype, with_vstart}
use Rattle.machine.specs.State.{State, Outcome}
use Rattle.machine.specs.Machine.{turn_of}
use Rattle.machine.specs.Demands.{turns_of}
use Rattle.examples.specs.SegmentCases.{answers_at}

-- At a vtype, a vl, a vstart, a mask in v0 (its first byte; bit 8 is set) and x10. v1 begins 0 to 8, v2 begins 9 down to 1; v3 is the mask
-- of section 16.8; v4 has indices of 8 bits, v6 of 16; v8 is 10 to 25, v9 after it all 77; v10 begins −2 at e8, 32766 at e16
abbrev pub elements_at : ℕ → ℕ → ℕ → ℕ → ℕ → State
elements_at vtype vl vstart mask x10 = record {
  registers =
      (mask ∷ 1 ∷ replicate 14 0)
      ++ (0 ∷ 1 ∷ 2 ∷ 3 ∷ 4 ∷ 5 ∷ 6 ∷ 7 ∷ 8 ∷ replicate 7 0)
      ++ (9 ∷ 8 ∷ 7 ∷ 6 ∷ 5 ∷ 4 ∷ 3 ∷ 2 ∷ 1 ∷ replicate 7 0)
      ++ (0b10010001 ∷ replicate 15 0)
      ++ (3 ∷ 0 ∷ 16 ∷ 15 ∷ replicate 28 0)
      ++ (3 ∷ 0 ∷ 0 ∷ 1 ∷ 1 ∷ 0 ∷ 15 ∷ 0 ∷ replicate 24 0)
      ++ (10 ∷ 11 ∷ 12 ∷ 13 ∷ 14 ∷ 15 ∷ 16 ∷ 17 ∷ 18 ∷ 19 ∷ 20 ∷ 21 ∷ 22 ∷ 23 ∷ 24 ∷ 25 ∷ replicate 16 77)
      ++ (254 ∷ 127 ∷ replicate 350 0);
  scalars = set (replicate 32 0) 10 x10;
  memory = [];
  rights = replicate 256 0;
  control = with_vstart (with_vtype reset vtype vl) vstart;
}

-- the first n bytes of a register after a turn
abbrev pub first_bytes : ℕ → ℕ → Outcome → List ℕ
first_bytes n reg o = take n (drop (16 * reg) o.after.registers)

-- an uncut turn with vl 4; and what one at e8, LMUL 1 makes of v2: four elements, and two of the tail, which are 5 and 4
abbrev pub uncut_at : ℕ → ℕ → ℕ → ℕ → Outcome
uncut_at vtype word mask x10 = turn_of base word (2 ^ 32 - 1) (elements_at vtype 4 0 mask x10)

abbrev pub moved : ℕ → ℕ → ℕ → List ℕ
moved word mask x10 = first_bytes 6 2 (uncut_at 0x00 word mask x10)

-- four turns of one element each, at e8, LMUL 1, with vl 4
abbrev pub in_single_steps : ℕ → ℕ → Outcome
in_single_steps word x10 = turns_of base word (elements_at 0x00 4 0 0 x10) 1 (replicate 3 (record { allowance = 1; rights = replicate 256 0 }))

-- a turn at allowance 0, for instructions that have no elements; x10 is 355, 1 * 256 + 99
abbrev pub at_once : ℕ → ℕ → ℕ → ℕ → ℕ → Outcome
at_once vtype word vl vstart mask = turn_of base word 0 (elements_at vtype vl vstart mask 355)

-- viota.m v2, v3; vcompress.vm v2, v1, v0; vmv.x.s x5, v10; vmv.s.x v2, x10
abbrev pub one_turn_words : List ℕ
one_turn_words = 0x52382157 ∷ 0x5E102157 ∷ 0x42A022D7 ∷ 0x42056157 ∷ []

pub record PermutationCases : Type 0 where
  -- vid.v v2; vid.v v2, v0.t, elements 1 and 3: masking does not change their indices, and elements 0 and 2 stay
  pub indices :
      (moved 0x5208A157 0 0 ∷ moved 0x5008A157 0b1010 0 ∷ [])
      ≡ ((0 ∷ 1 ∷ 2 ∷ 3 ∷ 5 ∷ 4 ∷ []) ∷ (9 ∷ 1 ∷ 7 ∷ 3 ∷ 5 ∷ 4 ∷ []) ∷ [])
  -- viota.m v2, v3, the first example of section 16.8, element 0 first: how many bits of v3 are set below each element
  pub iota : first_bytes 8 2 (at_once 0x00 0x52382157 8 0 0) ≡ (0 ∷ 1 ∷ 1 ∷ 1 ∷ 1 ∷ 2 ∷ 2 ∷ 2 ∷ [])
  -- viota.m v2, v3, v0.t, the second example: bit 4 of v3 is masked off and not counted; elements 2 and 4 stay
  pub iota-masked : first_bytes 8 2 (at_once 0x00 0x50382157 8 0 0b11101011) ≡ (0 ∷ 1 ∷ 7 ∷ 1 ∷ 5 ∷ 1 ∷ 1 ∷ 1 ∷ [])
  -- vcompress.vm v2, v1, v0, the example of section 17.5: bits 0, 2, 5, 7 and 8 of v0 are set; elements 5 to 8 of v2 are tail, and stay
  pub compress : first_bytes 9 2 (at_once 0x00 0x5E102157 9 0 0b10100101) ≡ (0 ∷ 2 ∷ 5 ∷ 7 ∷ 8 ∷ 4 ∷ 3 ∷ 2 ∷ 1 ∷ [])
  -- vslideup.vi v2, v8, 2: elements 0 and 1, below the offset, stay
  pub slide-up : moved 0x3A813157 0 0 ≡ (9 ∷ 8 ∷ 10 ∷ 11 ∷ 5 ∷ 4 ∷ [])
  -- vslideup.vi v2, v8, 2 at allowances 1 to 5: elements 0 and 1 count as passed
  pub slide-up-passed :
      map (λ (allowance : ℕ). (turn_of base 0x3A813157 allowance (elements_at 0x00 4 0 0 0)).passed) (1 ∷ 2 ∷ 3 ∷ 4 ∷ 5 ∷ [])
      ≡ (1 ∷ 2 ∷ 3 ∷ 4 ∷ 4 ∷ [])
  -- vslideup.vx v2, v8, x10 by 4, 256 and 2^64 − 1: every element is below the offset, which is not cut to 8 bits; no register changes
  pub slide-up-far :
      map (λ (x10 : ℕ). (uncut_at 0x00 0x3A854157 0 x10).after.registers) (4 ∷ 256 ∷ (2 ^ 64 - 1) ∷ [])
      ≡ replicate 3 (elements_at 0x00 4 0 0 0).registers
  -- vslidedown.vx v2, v8, x10 by 256 and 2^64 − 1: all is past VLMAX, as the offset is not cut and i + offset does not wrap around
  pub slide-down-far : map (moved 0x3E854157 0) (256 ∷ (2 ^ 64 - 1) ∷ []) ≡ replicate 2 (0 ∷ 0 ∷ 0 ∷ 0 ∷ 5 ∷ 4 ∷ [])
  -- vslidedown.vi v2, v8, 3; v2, v8, 14: elements 4 to 6 are past vl and read as they are; 16 and 17, in v9, are past VLMAX and read as 0
  pub past-vl-and-vlmax :
      map (λ (word : ℕ). moved word 0 0) (0x3E81B157 ∷ 0x3E873157 ∷ [])
      ≡ ((13 ∷ 14 ∷ 15 ∷ 16 ∷ 5 ∷ 4 ∷ []) ∷ (24 ∷ 25 ∷ 0 ∷ 0 ∷ 5 ∷ 4 ∷ []) ∷ [])
  -- vslidedown.vi v2, v8, 6 at LMUL 1/2: VLMAX is 8, and elements 8 and 9 read as 0 though the register has them
  pub past-half-a-register : first_bytes 6 2 (uncut_at 0x07 0x3E833157 0 0) ≡ (16 ∷ 17 ∷ 0 ∷ 0 ∷ 5 ∷ 4 ∷ [])
  -- vslidedown.vi v8, v8, 2; vslide1down.vx v8, v8, x10: onto their source; what they move is what was there before
  pub onto-its-source :
      map (λ (word : ℕ). first_bytes 6 8 (uncut_at 0x00 word 0 99)) (0x3E813457 ∷ 0x3E856457 ∷ [])
      ≡ ((12 ∷ 13 ∷ 14 ∷ 15 ∷ 14 ∷ 15 ∷ []) ∷ (11 ∷ 12 ∷ 13 ∷ 99 ∷ 14 ∷ 15 ∷ []) ∷ [])
  -- the same two, cut into turns of one element: the answer, the number passed and the state after are those of the uncut turn
  pub one_by_one :
      map (λ (word : ℕ). in_single_steps word 99) (0x3E813457 ∷ 0x3E856457 ∷ [])
      ≡ map (λ (word : ℕ). uncut_at 0x00 word 0 99) (0x3E813457 ∷ 0x3E856457 ∷ [])
  -- vslide1up.vx v2, v8, x10; masked, without element 0: the low 8 bits of x10 are put in at element 0, or nowhere
  pub slide-one-up :
      (moved 0x3A856157 0 355 ∷ moved 0x38856157 0b1110 355 ∷ [])
      ≡ ((99 ∷ 10 ∷ 11 ∷ 12 ∷ 5 ∷ 4 ∷ []) ∷ (9 ∷ 10 ∷ 11 ∷ 12 ∷ 5 ∷ 4 ∷ []) ∷ [])
  -- vslide1down.vx v2, v8, x10; masked, without element 3: they are put in at element 3, which is vl − 1, or nowhere
  pub slide-one-down :
      (moved 0x3E856157 0 355 ∷ moved 0x3C856157 0b0111 355 ∷ [])
      ≡ ((11 ∷ 12 ∷ 13 ∷ 99 ∷ 5 ∷ 4 ∷ []) ∷ (11 ∷ 12 ∷ 13 ∷ 6 ∷ 5 ∷ 4 ∷ []) ∷ [])
  -- vrgather.vx v2, v8, x10: 15 is the last index below VLMAX; 16 gives 0, and so does 256, which is not cut to 8 bits: not element 0
  pub gather-scalar :
      map (moved 0x32854157 0) (15 ∷ 16 ∷ 256 ∷ [])
      ≡ ((25 ∷ 25 ∷ 25 ∷ 25 ∷ 5 ∷ 4 ∷ []) ∷ (0 ∷ 0 ∷ 0 ∷ 0 ∷ 5 ∷ 4 ∷ []) ∷ (0 ∷ 0 ∷ 0 ∷ 0 ∷ 5 ∷ 4 ∷ []) ∷ [])
  -- vrgather.vi v2, v8, 31; vrgather.vv v2, v8, v4 by 3, 0, 16, 15; vrgatherei16.vv v2, v8, v6 by 3, 256, 1, 15: 0 past VLMAX
  pub gather :
      map (λ (word : ℕ). moved word 0 0) (0x328FB157 ∷ 0x32820157 ∷ 0x3A830157 ∷ [])
      ≡ ((0 ∷ 0 ∷ 0 ∷ 0 ∷ 5 ∷ 4 ∷ []) ∷ (13 ∷ 10 ∷ 0 ∷ 25 ∷ 5 ∷ 4 ∷ []) ∷ (13 ∷ 0 ∷ 11 ∷ 25 ∷ 5 ∷ 4 ∷ []) ∷ [])
  -- vmv.x.s x5, v10 at e8 with vl 4, with vl 0, and from vstart 4, which is vl: −2, sign-extended. At e16 the element is not negative
  pub to-scalar :
      map (λ (o : Outcome). get_or o.after.scalars 5 0)
      (at_once 0x00 0x42A022D7 4 0 0 ∷ at_once 0x00 0x42A022D7 0 0 0 ∷ at_once 0x00 0x42A022D7 4 4 0 ∷ at_once 0x08 0x42A022D7 4 0 0 ∷ [])
      ≡ ((2 ^ 64 - 2) ∷ (2 ^ 64 - 2) ∷ (2 ^ 64 - 2) ∷ 32766 ∷ [])
  -- vmv.x.s x0, v10: x0 is never written, nor is any other scalar register here
  pub to-x0 : (at_once 0x00 0x42A02057 4 0 0).after.scalars ≡ (elements_at 0x00 4 0 0 355).scalars
  -- vmv.s.x v2, x10 with vl 4, from vstart 0, 1 and 4, and with vl 0: element 0 is written where vstart is below vl, though prestart at 1
  pub from-scalar :
      map (first_bytes 2 2)
      (at_once 0x00 0x42056157 4 0 0 ∷ at_once 0x00 0x42056157 4 1 0 ∷ at_once 0x00 0x42056157 4 4 0 ∷ at_once 0x00 0x42056157 0 0 0 ∷ [])
      ≡ ((99 ∷ 8 ∷ []) ∷ (99 ∷ 8 ∷ []) ∷ (9 ∷ 8 ∷ []) ∷ (9 ∷ 8 ∷ []) ∷ [])
  -- vmv.x.s x5, v10 and vmv.s.x v2, x10 from vstart 1, below vl, and from vstart 4, which is vl: vstart is 0 after each
  pub vstart-after :
      map (λ (o : Outcome). o.after.control.vstart)
      (at_once 0x00 0x42A022D7 4 1 0 ∷ at_once 0x00 0x42A022D7 4 4 0 ∷ at_once 0x00 0x42056157 4 1 0 ∷ at_once 0x00 0x42056157 4 4 0 ∷ [])
      ≡ replicate 4 0
  -- viota.m, vcompress.vm, vmv.x.s, vmv.s.x (`one_turn_words`) at allowance 0: one turn is enough
  pub one-turn : map (λ (word : ℕ). (at_once 0x00 word 4 0 0).answer) one_turn_words ≡ replicate 4 Finished
  -- the same four: they have none remaining, so that none is passed
  pub none_passed : map (λ (word : ℕ). (at_once 0x00 word 4 0 0).passed) one_turn_words ≡ replicate 4 0
  -- the same four from vstart 1: viota.m and vcompress.vm are illegal there, the scalar moves are not
  pub started : map (λ (word : ℕ). (at_once 0x00 word 4 1 0).answer) one_turn_words ≡ (Illegal ∷ Illegal ∷ Finished ∷ Finished ∷ [])
  -- vslideup.vi v8, v8, 1; vslide1up.vx v8, v8, x10: not onto the source. vslidedown.vi v8, v8, 2; vslide1down.vx v8, v8, x10: these may
  pub slide-onto-source :
      answers_at 0x00 (0x3A80B457 ∷ 0x3A856457 ∷ 0x3E813457 ∷ 0x3E856457 ∷ []) ≡ (Illegal ∷ Illegal ∷ Finished ∷ Finished ∷ [])
  -- vrgather.vv v8, v8, v4; v4, v8, v4; vrgather.vx v8, v8, x10; vrgatherei16.vv v6, v8, v6: a gather may overlap neither vs2 nor vs1
  pub gather-onto-source : answers_at 0x00 (0x32820457 ∷ 0x32820257 ∷ 0x32854457 ∷ 0x3A830357 ∷ []) ≡ replicate 4 Illegal
  -- viota.m v3, v3; vcompress.vm v1, v1, v0; v0, v1, v0: they may overlap neither the mask that is counted nor what is packed
  pub pack-onto-source : answers_at 0x00 (0x523821D7 ∷ 0x5E1020D7 ∷ 0x5E102057 ∷ []) ≡ replicate 3 Illegal
  -- vslideup.vi v2, v0, 1, v0.t; vcompress.vm v2, v0, v0: v0 at EEW 8 and 1. vslideup.vi v2, v0, 1; viota.m v2, v0, v0.t: at one EEW
  pub v0-as-data : answers_at 0x00 (0x3800B157 ∷ 0x5E002157 ∷ 0x3A00B157 ∷ 0x50082157 ∷ []) ≡ (Illegal ∷ Illegal ∷ Finished ∷ Finished ∷ [])
  -- vid.v v0, v0.t; vslidedown.vi v0, v8, 1, v0.t; viota.m v0, v3, v0.t: what is masked may not write the mask. vid.v v0 is not masked
  pub onto-the-mask :
      answers_at 0x00 (0x5008A057 ∷ 0x3C80B057 ∷ 0x50382057 ∷ 0x5208A057 ∷ []) ≡ (Illegal ∷ Illegal ∷ Illegal ∷ Finished ∷ [])
  -- vrgatherei16.vv v8, v16, v24 at e8, LMUL 4 and LMUL 8: the EMUL of the indices is 8, which is legal, and 16, which is not
  pub index-groups : (answers_at 0x02 (0x3B0C0457 ∷ []) ++ answers_at 0x03 (0x3B0C0457 ∷ [])) ≡ (Finished ∷ Illegal ∷ [])
  -- vid.v v2 with vs2 = 1; vcompress.vm v2, v1, v0 with vm = 0; vmv.s.x v2, x10 with vs2 = 1 or vm = 0; vmv.x.s x5, v10 with vm = 0
  pub reserved : answers_at 0x00 (0x5218A157 ∷ 0x5C102157 ∷ 0x42156157 ∷ 0x40056157 ∷ 0x40A022D7 ∷ []) ≡ replicate 5 Illegal
  -- vmv.x.s x5, v3; vmv.s.x v3, x10; vid.v v3 at LMUL 8: the moves use a single register of any number, no group of 8 begins at v3
  pub any-registers : answers_at 0x03 (0x423022D7 ∷ 0x420561D7 ∷ 0x5208A1D7 ∷ []) ≡ (Finished ∷ Finished ∷ Illegal ∷ [])
