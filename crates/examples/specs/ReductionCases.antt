-- Reductions (document 02, A4; section 15 of document 000): what they come to, and which of their words are legal.
use Rattle.std.specs.Prelude.{ℕ, ◌*◌, ◌≡◌, List, [], ◌∷◌, ◌++◌, map, take, drop, replicate}
use Rattle.answer.specs.declared.Answer.TheVariants.{Finished, Illegal}
use Rattle.control.specs.Board.{base}
use Rattle.control.specs.Control.{reset, with_vtype, with_vstart}
use Rattle.machine.specs.State.{State, Outcome}
use Rattle.machine.specs.Machine.{turn_of}
use Rattle.examples.specs.SegmentCases.{answers_at}

-- e8, LMUL 1, at a vl, a vstart and a byte of mask in v0: v8 begins 250 3 128 7, v9 begins 10, v10 begins 77 78, and all else is 0
abbrev pub four_elements : ℕ → ℕ → ℕ → State
four_elements vl vstart mask = record {
  registers = (mask ∷ replicate 127 0) ++ (250 ∷ 3 ∷ 128 ∷ 7 ∷ replicate 12 0) ++ (10 ∷ replicate 15 0) ++ (77 ∷ 78 ∷ replicate 350 0);
  scalars = replicate 32 0;
  memory = [];
  rights = replicate 256 0;
  control = with_vstart (with_vtype reset 0x00 vl) vstart;
}

-- one turn, at allowance 0
abbrev pub reduced_by : ℕ → ℕ → ℕ → Outcome
reduced_by word vl mask = turn_of base word 0 (four_elements vl 0 mask)

-- the first two bytes of a register after it
abbrev pub two_bytes : ℕ → Outcome → List ℕ
two_bytes reg o = take 2 (drop (16 * reg) o.after.registers)

pub record ReductionCases : Type 0 where
  -- vredsum.vs, vredand, vredor, vredxor v10, v8, v9: 10 and 250, 3, 128, 7. The sum, 398, wraps around
  pub sum-and-or-xor :
      map (λ (word : ℕ). two_bytes 10 (reduced_by word 4 0)) (0x0284A557 ∷ 0x0684A557 ∷ 0x0A84A557 ∷ 0x0E84A557 ∷ [])
      ≡ ((142 ∷ 78 ∷ []) ∷ (0 ∷ 78 ∷ []) ∷ (255 ∷ 78 ∷ []) ∷ (116 ∷ 78 ∷ []) ∷ [])
  -- vredminu.vs, vredmin, vredmaxu, vredmax: signed, 250 is −6 and 128 is −128
  pub least-and-greatest :
      map (λ (word : ℕ). two_bytes 10 (reduced_by word 4 0)) (0x1284A557 ∷ 0x1684A557 ∷ 0x1A84A557 ∷ 0x1E84A557 ∷ [])
      ≡ ((3 ∷ 78 ∷ []) ∷ (128 ∷ 78 ∷ []) ∷ (250 ∷ 78 ∷ []) ∷ (10 ∷ 78 ∷ []) ∷ [])
  -- vwredsumu.vs, vwredsum: 398 is 1 * 256 + 142; 10 − 6 + 3 − 128 + 7 is −114, 255 * 256 + 142 in 16 bits
  pub widening-sums :
      map (λ (word : ℕ). two_bytes 10 (reduced_by word 4 0)) (0xC2848557 ∷ 0xC6848557 ∷ []) ≡ ((142 ∷ 1 ∷ []) ∷ (142 ∷ 255 ∷ []) ∷ [])
  -- vredsum.vs v10, v8, v9, v0.t: elements 0 and 2, none, and all of them at vl 0
  pub some-active : two_bytes 10 (reduced_by 0x0084A557 4 0b0101) ≡ (132 ∷ 78 ∷ [])
  pub none-active : two_bytes 10 (reduced_by 0x0084A557 4 0b0000) ≡ (10 ∷ 78 ∷ [])
  pub no-elements : two_bytes 10 (reduced_by 0x0084A557 0 0b1111) ≡ (77 ∷ 78 ∷ [])
  -- the destination is a source, or the mask: vredsum.vs v8, v8, v8; vredsum.vs v0, v8, v9, v0.t
  pub onto-itself : two_bytes 8 (reduced_by 0x02842457 4 0) ≡ (126 ∷ 3 ∷ [])
  pub onto-the-mask : two_bytes 0 (reduced_by 0x0084A057 4 0b0101) ≡ (132 ∷ 0 ∷ [])
  -- at allowance 0 it finishes, and passes no element; with vstart not 0 it is illegal, at vl 0 too
  pub one-turn : (reduced_by 0x0284A557 4 0).answer ≡ Finished
  pub none_passed : (reduced_by 0x0284A557 4 0).passed ≡ 0
  pub started : map (λ (vl : ℕ). (turn_of base 0x0284A557 0 (four_elements vl 1 0)).answer) (4 ∷ 0 ∷ []) ≡ replicate 2 Illegal
  -- at LMUL 8 vd and vs1 are any registers, vs2 is a group: vredsum.vs v1, v8, v3; vwredsum.vs v1, v8, v3; vredsum.vs v1, v9, v3
  pub any-registers : answers_at 0x03 (0x0281A0D7 ∷ 0xC68180D7 ∷ 0x0291A0D7 ∷ []) ≡ (Finished ∷ Finished ∷ Illegal ∷ [])
  -- vs1 in vs2's group: vredsum.vs v1, v8, v9; vwredsum.vs v1, v8, v9, at two EEWs. vd there: vwredsum.vs v9, v8, v3
  pub in-the-group : answers_at 0x03 (0x0284A0D7 ∷ 0xC68480D7 ∷ 0xC68184D7 ∷ []) ≡ (Finished ∷ Illegal ∷ Finished ∷ [])
  -- v0 as the mask and as data, vs1 or vs2; as data alone: vredsum.vs v10, v8, v0, v0.t; v10, v0, v9, v0.t; v10, v0, v0
  pub v0-as-data : answers_at 0x00 (0x00802557 ∷ 0x0004A557 ∷ 0x02002557 ∷ []) ≡ (Illegal ∷ Illegal ∷ Finished ∷ [])
  -- at e64 no sum is wider: vredsum.vs, vwredsum.vs, vwredsumu.vs v10, v8, v9
  pub at-e64 : answers_at 0x18 (0x0284A557 ∷ 0xC6848557 ∷ 0xC2848557 ∷ []) ≡ (Finished ∷ Illegal ∷ Illegal ∷ [])
  -- no scalar and no immediate: funct6 0 in OPMVX, 48 in OPIVX and OPIVI
  pub other-columns : answers_at 0x00 (0x0284E557 ∷ 0xC284C557 ∷ 0xC284B557 ∷ []) ≡ replicate 3 Illegal
