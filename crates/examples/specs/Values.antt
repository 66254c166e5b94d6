-- The worked values of document 01, 'Values on both sides', over the definitions that the calls promise.
use Rattle.std.specs.Prelude.{ℕ, zero, suc, ◌+◌, ◌-◌, ◌*◌, ◌^◌, ◌≡◌, List, [], ◌∷◌, map, replicate, Some}
use Rattle.answer.specs.declared.Answer.{Answer}
use Rattle.answer.specs.declared.Answer.TheVariants.{Finished, Illegal}
use Rattle.width.specs.Width.{flag}
use Rattle.control.specs.declared.Board.{Board}
use Rattle.control.specs.Board.{base}
use Rattle.control.specs.Vtype.{vill, vlmax_of, supported_of}
use Rattle.control.specs.Control.{reset, with_vtype, with_vstart, set_of}
use Rattle.fixed.specs.declared.Element.{Element}
use Rattle.fixed.specs.declared.Vxrm.{Vxrm}
use Rattle.fixed.specs.declared.Vxrm.TheVariants.{Rnu, Rne, Rdn, Rod}
use Rattle.fixed.specs.Round.{exact, saturated}
use Rattle.operation.specs.declared.Op.{Op}
use Rattle.operation.specs.declared.Op.TheVariants.{Vaadd, Vasub, Vsmul, Vnclipu, Vdiv, Vrem}
use Rattle.alu.specs.Element.{element_of}
use Rattle.machine.specs.State.{State}
use Rattle.machine.specs.Machine.{turn_of}

-- −n at e8
abbrev pub minus : ℕ → ℕ
minus n = 256 - n

-- an operation at e8, in a rounding mode
abbrev pub at8 : Op → ℕ → ℕ → Vxrm → Element
at8 op vs2 vs1 rm = element_of 8 rm vs2 vs1 0 0 op

-- in all four modes, in the order rnu, rne, rdn, rod
abbrev pub modes : (Vxrm → Element) → List Element
modes f = f Rnu ∷ f Rne ∷ f Rdn ∷ f Rod ∷ []

-- how many of 0 .. n − 1 are supported on a board
abbrev pub supported_below : Board → ℕ → ℕ
supported_below b zero = 0
supported_below b (suc n) = flag (supported_of b n) + supported_below b n

-- a vtype, vl and vstart on a board; registers and scalars 0, no memory, every page closed
abbrev pub blank_on : Board → ℕ → ℕ → ℕ → State
blank_on b vtype vl vstart = record {
  registers = replicate (32 * b.vlenb) 0;
  scalars = replicate 32 0;
  memory = [];
  rights = replicate 256 0;
  control = with_vstart (with_vtype reset vtype vl) vstart;
}

abbrev pub blank_at : ℕ → ℕ → ℕ → State
blank_at = blank_on base

-- e64 at LMUL 1 with vl 2, at a vstart
abbrev pub e64_at : ℕ → State
e64_at vstart = blank_at 0x18 2 vstart

-- the answer to an uncut turn of vadd.vv v1, v2, v3
abbrev pub added_at : ℕ → Answer
added_at vstart = (turn_of base 0x022180D7 (2 ^ 32 - 1) (e64_at vstart)).answer

pub record Values : Type 0 where
  -- vtype 0x10: AVL 0, 3, 4, 5, 2^64 - 1 give vl 0, 3, 4, 4, 4
  pub P1 : map (λ (avl : ℕ). (set_of base reset 0x10 (Some avl)).vl) (0 ∷ 3 ∷ 4 ∷ 5 ∷ (2 ^ 64 - 1) ∷ []) ≡ (0 ∷ 3 ∷ 4 ∷ 4 ∷ 4 ∷ [])
  -- 0x05, 0x17, 0x03: VLMAX 2, 2, 128
  pub P2 : map (vlmax_of base) (0x05 ∷ 0x17 ∷ 0x03 ∷ []) ≡ (2 ∷ 2 ∷ 128 ∷ [])
  -- 0x0D, 0x1F, 0x04, 0x110: vill
  pub P3 : map (λ (v : ℕ). (set_of base reset v (Some 1)).vtype) (0x0D ∷ 0x1F ∷ 0x04 ∷ 0x110 ∷ []) ≡ (vill ∷ vill ∷ vill ∷ vill ∷ [])
  -- e8 vaadd 2 + 3: rnu 3, rne 2, rdn 2, rod 3
  pub P4 : modes (at8 Vaadd 2 3) ≡ (exact 3 ∷ exact 2 ∷ exact 2 ∷ exact 3 ∷ [])
  -- 2 + 5: 4, 4, 3, 3
  pub P5 : modes (at8 Vaadd 2 5) ≡ (exact 4 ∷ exact 4 ∷ exact 3 ∷ exact 3 ∷ [])
  -- e8 vasub 127 - (-128): -128, -128, 127, 127; vxsat unchanged
  pub P6 : modes (at8 Vasub 127 (minus 128)) ≡ (exact (minus 128) ∷ exact (minus 128) ∷ exact 127 ∷ exact 127 ∷ [])
  -- e8 vsmul -128 * -128: 127, vxsat 1; -128 * -127: 127, vxsat unchanged
  pub P7a : modes (at8 Vsmul (minus 128) (minus 128)) ≡ (saturated 127 ∷ saturated 127 ∷ saturated 127 ∷ saturated 127 ∷ [])
  pub P7b : modes (at8 Vsmul (minus 128) (minus 127)) ≡ (exact 127 ∷ exact 127 ∷ exact 127 ∷ exact 127 ∷ [])
  -- vnclipu to e8 by 1: 0x01FF rdn 255, no saturation; rnu 255, vxsat 1
  pub P8 : map (at8 Vnclipu 0x01FF 1) (Rdn ∷ Rnu ∷ []) ≡ (exact 255 ∷ saturated 255 ∷ [])
  -- e8 vdiv -128 / -1: -128; 7 / 0: -1, remainder 7; -7 / 2: -3, remainder -1
  pub P9a : at8 Vdiv (minus 128) (minus 1) Rnu ≡ exact (minus 128)
  pub P9b : at8 Vdiv 7 0 Rnu ≡ exact (minus 1)
  pub P9c : at8 Vrem 7 0 Rnu ≡ exact 7
  pub P9d : at8 Vdiv (minus 7) 2 Rnu ≡ exact (minus 3)
  pub P9e : at8 Vrem (minus 7) 2 Rnu ≡ exact (minus 1)
  -- e64 vadd: vstart 15 with vl 2 finishes; 16 is illegal
  pub P10 : map added_at (15 ∷ 16 ∷ []) ≡ (Finished ∷ Illegal ∷ [])
  -- 'Setting the vector type': "That is 88 values"
  pub supported : supported_below base 256 ≡ 88

-- vl after vsetvli x12, x10, e32, m1, where vl is 2 and x10 is 0: a machine that changes nothing leaves 2
abbrev pub Changes : Type 0
Changes = (turn_of base 0x01057657 (2 ^ 32 - 1) (e64_at 0)).after.control.vl ≡ 0
