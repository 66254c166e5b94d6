-- What a board decides, in numbers: document 01 for the first board, document 02, A11, for the smaller one.
use Rattle.std.specs.Prelude.{ℕ, ◌+◌, ◌*◌, ◌/◌, ◌%◌, ◌^◌, ◌≡◌, true, false, not, ◌&&◌, cond, List, [], ◌∷◌, map, replicate, ltb, eqb}
use Rattle.std.specs.Prelude.{Ok, Err}
use Rattle.answer.specs.declared.Answer.{Answer}
use Rattle.answer.specs.declared.Answer.TheVariants.{Finished, Paused, Illegal, BadRegisters, BadControl}
use Rattle.control.specs.declared.Board.{Board}
use Rattle.control.specs.declared.Control.{Control}
use Rattle.control.specs.Vtype.{vill, sew_of, vlmax_of, supported_of}
use Rattle.control.specs.Control.{reset, with_vstart, is_off, possible_of}
use Rattle.csr.specs.Csr.{read_of, changed, written_of}
use Rattle.refusal.specs.Refusal.{refusal_of}
use Rattle.legality.specs.Legal.{startable}
use Rattle.machine.specs.Machine.{turn_of}
use Rattle.examples.specs.Values.{supported_below, blank_on}

-- the numbers of a board
pub record Numbers : Type 0 where
  pub vlen : ℕ
  pub elen : ℕ
  -- "0xC22 vlenb (16)"; "vlenb is 8"
  pub vlenb : ℕ
  -- "512 bytes of vector registers"; "256 bytes of registers"
  pub file : ℕ
  -- how many values of vtype are supported: "That is 88 values"
  pub types : ℕ
  -- VLMAX: a row each for SEW 8, 16, 32, 64, in it LMUL 1/8, 1/4, 1/2, 1, 2, 4, 8; 0 where the type is not supported
  pub vlmax : List (List ℕ)
  -- vstart is below this, or 36: "vstart above 127"; "36 reads vstart above 63"
  pub vstarts : ℕ
  -- how many low bits a write to vstart keeps: "7, 1, 2 and 3 bits"; "vstart keeps 6 bits"
  pub kept : ℕ
  -- "illegal if vstart is 1024/SEW or more"; "the bound of 1024/SEW becomes 512/SEW"
  pub bound : ℕ
  -- "EEW 64 illegal also for indices and whole-register loads": what a load, an indexed load and store, and a whole-register load answer
  pub eew64 : List Answer
  -- "except vmulh, vmulhu, vmulhsu and vsmul at SEW 64"; "exist at each of its widths": what they answer at SEW 8, 16, 32, 64
  pub products : List Answer

-- document 01
abbrev pub base_numbers : Numbers
base_numbers = record {
  vlen = 128;
  elen = 64;
  vlenb = 16;
  file = 512;
  types = 88;
  vlmax =
      (2 ∷ 4 ∷ 8 ∷ 16 ∷ 32 ∷ 64 ∷ 128 ∷ [])
      ∷ (0 ∷ 2 ∷ 4 ∷ 8 ∷ 16 ∷ 32 ∷ 64 ∷ [])
      ∷ (0 ∷ 0 ∷ 2 ∷ 4 ∷ 8 ∷ 16 ∷ 32 ∷ [])
      ∷ (0 ∷ 0 ∷ 0 ∷ 2 ∷ 4 ∷ 8 ∷ 16 ∷ []) ∷ [];
  vstarts = 128;
  kept = 7;
  bound = 1024;
  eew64 = Finished ∷ Finished ∷ Finished ∷ Paused ∷ [];
  products = Finished ∷ Finished ∷ Finished ∷ Illegal ∷ [];
}

-- document 02, A11. A vtype of SEW 64 is one that can't be there: 36
abbrev pub small_numbers : Numbers
small_numbers = record {
  vlen = 64;
  elen = 32;
  vlenb = 8;
  file = 256;
  types = 60;
  vlmax =
      (0 ∷ 2 ∷ 4 ∷ 8 ∷ 16 ∷ 32 ∷ 64 ∷ [])
      ∷ (0 ∷ 0 ∷ 2 ∷ 4 ∷ 8 ∷ 16 ∷ 32 ∷ [])
      ∷ (0 ∷ 0 ∷ 0 ∷ 2 ∷ 4 ∷ 8 ∷ 16 ∷ [])
      ∷ (0 ∷ 0 ∷ 0 ∷ 0 ∷ 0 ∷ 0 ∷ 0 ∷ []) ∷ [];
  vstarts = 64;
  kept = 6;
  bound = 512;
  eew64 = Illegal ∷ Illegal ∷ Illegal ∷ Illegal ∷ [];
  products = Finished ∷ Finished ∷ Finished ∷ BadControl ∷ [];
}

-- VLMAX of a type, and 0 of one that is not supported
abbrev pub vlmax_at : Board → ℕ → ℕ
vlmax_at b v = cond (supported_of b v) (vlmax_of b v) 0

-- VLMAX by vsew, and by vlmul in the order of LMUL; `agnostic` is vta (64) and vma (128)
abbrev pub vlmax_table : Board → ℕ → List (List ℕ)
vlmax_table b agnostic =
    map (λ (vsew : ℕ).
    map (λ (vlmul : ℕ). vlmax_at b (agnostic + 8 * vsew + vlmul)) (5 ∷ 6 ∷ 7 ∷ 0 ∷ 1 ∷ 2 ∷ 3 ∷ []))
    (0 ∷ 1 ∷ 2 ∷ 3 ∷ [])

abbrev pub vlmax_tables : Board → List (List (List ℕ))
vlmax_tables b = map (vlmax_table b) (0 ∷ 64 ∷ 128 ∷ 192 ∷ [])

-- the answers to a turn of allowance 0 of each word with vl 0: legality goes by neither, and a legal word moves no element. One whose
-- elements vl does not count, a whole-register load, pauses
abbrev pub answers_on : Board → ℕ → List ℕ → List Answer
answers_on b vtype words = map (λ (word : ℕ). (turn_of b word 0 (blank_on b vtype 0 0)).answer) words

-- at e8, LMUL 1: vle64.v v8, (x10); vluxei64.v and vsuxei64.v v8, (x10), v16; vl1re64.v v8, (x10)
abbrev pub eew64_answers : Board → List Answer
eew64_answers b = answers_on b 0x00 (0x02057407 ∷ 0x07057407 ∷ 0x07057427 ∷ 0x02857407 ∷ [])

-- at LMUL 1 and each SEW: vmulhu.vv, vmulhsu.vv, vmulh.vv, vsmul.vv v8, v16, v24
abbrev pub product_answers : Board → List (List Answer)
product_answers b =
    map (λ (vtype : ℕ). answers_on b vtype (0x930C2457 ∷ 0x9B0C2457 ∷ 0x9F0C2457 ∷ 0x9F0C0457 ∷ []))
    (0x00 ∷ 0x08 ∷ 0x10 ∷ 0x18 ∷ [])

-- these are the numbers of the board b, by the definitions that the calls promise
pub record Decides (b : Board) (n : Numbers) : Type 0 where
  pub vlen-is : 8 * b.vlenb ≡ n.vlen
  pub elen-is : b.elen ≡ n.elen
  -- of every record that can be, unless VS is Off
  pub vlenb-is : (c : Control) → possible_of b c ≡ true → is_off c ≡ false → read_of b c 0xC22 ≡ Ok n.vlenb
  -- a file of any other length is 32, whatever else is handed in; this one is not
  pub other-file : (bytes scalars memory : ℕ) (rights : List ℕ) (c : Control) → eqb bytes n.file ≡ false
      → refusal_of b bytes scalars memory rights c ≡ Err BadRegisters
  pub file-is : refusal_of b n.file 32 0 (replicate 256 0) reset ≡ Ok tt
  -- those from 256 on are never supported
  pub types_are : supported_below b 256 ≡ n.types
  -- whatever vta and vma are
  pub vlmax-is : vlmax_tables b ≡ replicate 4 n.vlmax
  -- any other vstart is 36, whatever else the record has; those below it can be
  pub other-vstart : (c : Control) → ltb c.vstart n.vstarts ≡ false → possible_of b c ≡ false
  pub vstarts-are : (v : ℕ) → possible_of b (with_vstart reset v) ≡ ltb v n.vstarts
  pub kept-are : (c : Control) (x : ℕ) → possible_of b c ≡ true → is_off c ≡ false
      → written_of b c 0x008 x ≡ changed (with_vstart c (x % 2 ^ n.kept))
  pub bound-is : (c : Control) → startable b c ≡ (not (eqb c.vtype vill) && ltb c.vstart (n.bound / sew_of c.vtype))
  pub eew64-is : eew64_answers b ≡ n.eew64
  pub products-are : product_answers b ≡ map (replicate 4) n.products
