-- Words that read one register twice (document 02, A5), and what a turn answers to each.
use Rattle.std.specs.Prelude.{ℕ, ◌-◌, ◌^◌, ◌≡◌, List, [], ◌∷◌, map, replicate}
use Rattle.answer.specs.declared.Answer.{Answer}
use Rattle.answer.specs.declared.Answer.TheVariants.{Finished, Illegal}
use Rattle.control.specs.Board.{base}
use Rattle.machine.specs.Machine.{turn_of}
use Rattle.examples.specs.Values.{blank_at}

-- the answers to an uncut turn of each word at e8, LMUL 1, with vl 0: legality does not go by vl, and a legal word has nothing to do
abbrev pub answers_to : List ℕ → List Answer
answers_to words = map (λ (word : ℕ). (turn_of base word (2 ^ 32 - 1) (blank_at 0x00 0 0)).answer) words

pub record SourceCases : Type 0 where
  -- v0 is the mask, of EEW 1, and data of EEW 8: vadd.vv v8, v0, v9, v0.t
  pub masked-data : answers_to (0x00048457 ∷ []) ≡ replicate 1 Illegal
  -- v0 is the choice or the carry: vmerge.vvm, vadc.vvm, vmadc.vvm v8, v0, v9, v0
  pub v0-operand : answers_to (0x5C048457 ∷ 0x40048457 ∷ 0x44048457 ∷ []) ≡ replicate 3 Illegal
  -- v0 is data alone: vadd.vv, vmadc.vv v8, v0, v9
  pub v0-data : answers_to (0x02048457 ∷ 0x46048457 ∷ []) ≡ replicate 2 Finished
  -- v0 is the mask, and the destination is no source: vmseq.vv v0, v1, v2, v0.t
  pub v0-written : answers_to (0x60110057 ∷ []) ≡ replicate 1 Finished
  -- v0 is read twice, at EEW 1 each time: vmand.mm v0, v0, v0
  pub mask-logical : answers_to (0x66002057 ∷ []) ≡ replicate 1 Finished
  -- and vcpop.m, vfirst.m x5, v0, v0.t; vmsbf.m, vmsof.m, vmsif.m v8, v0, v0.t
  pub on-masks : answers_to (0x400822D7 ∷ 0x4008A2D7 ∷ 0x5000A457 ∷ 0x50012457 ∷ 0x5001A457 ∷ []) ≡ replicate 5 Finished
  -- v9 is data of EEW 8 and half of the accumulator of EEW 16: vwmacc.vv v8, v2, v9
  pub accumulator : answers_to (0xF6912457 ∷ []) ≡ replicate 1 Illegal
  -- the same registers without an accumulator, vwmul.vv v8, v9, v2; an accumulator of equal EEW, vmacc.vv v8, v9, v8
  pub no-accumulator : answers_to (0xEE912457 ∷ 0xB684A457 ∷ []) ≡ replicate 2 Finished
  -- v0 is the mask and what is stored, or the mask and the indices: vse8.v v0, (x10), v0.t; vluxei8.v v8, (x10), v0, v0.t
  pub masked-access : answers_to (0x00050027 ∷ 0x04050407 ∷ []) ≡ replicate 2 Illegal
  -- the same unmasked
  pub unmasked-access : answers_to (0x02050027 ∷ 0x06050407 ∷ []) ≡ replicate 2 Finished
  -- v8 is data of EEW 8 and an index of EEW 16, vsuxei16.v v8, (x10), v8; and of EEW 8, vsuxei8.v v8, (x10), v8
  pub stored-index : answers_to (0x06855427 ∷ 0x06850427 ∷ []) ≡ (Illegal ∷ Finished ∷ [])
