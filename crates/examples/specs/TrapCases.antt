-- A trap read to the end (document 02, A9): the last turn of sheet S1, and what a turn tells where one thing of it is another.
use Rattle.std.specs.Prelude.{ℕ, ◌≡◌, ◌∷◌, replicate, set}
use Rattle.answer.specs.declared.Answer.TheVariants.{Finished, LoadMisaligned, LoadAccess, StoreAccess}
use Rattle.control.specs.Board.{base}
use Rattle.control.specs.Control.{reset, with_vtype, with_vstart}
use Rattle.access.specs.declared.Fault.{Fault}
use Rattle.access.specs.Access.{nothing_wanted, fault_of, nowhere}
use Rattle.machine.specs.State.{State}
use Rattle.machine.specs.Machine.{turn_of}
use Rattle.machine.specs.FaultPages.{fault_in}

-- a vtype, vl and vstart, an address in x11 and so many bytes of memory; page 0 may be written, page 1 has a right, no other page is open
abbrev pub two_pages : ℕ → ℕ → ℕ → ℕ → ℕ → ℕ → State
two_pages vtype vl vstart x11 bytes right = record {
  registers = replicate 512 0;
  scalars = set (replicate 32 0) 11 x11;
  memory = replicate bytes 0;
  rights = 2 ∷ right ∷ replicate 254 0;
  control = with_vstart (with_vtype reset vtype vl) vstart;
}

-- the answer and the place that a turn tells: element 2 of three, at e32, of vle32.v v8, (x11), and of vse32.v v8, (x11)
abbrev pub load_tells : ℕ → ℕ → ℕ → Fault
load_tells x11 bytes right = fault_in (turn_of base 0x0205E407 1 (two_pages 0x10 3 2 x11 bytes right))

abbrev pub store_tells : ℕ → ℕ → ℕ → Fault
store_tells x11 bytes right = fault_in (turn_of base 0x0205E427 1 (two_pages 0x10 3 2 x11 bytes right))

-- a segment of three bytes, vlseg3e8.v v8, (x11)
abbrev pub segment_tells : ℕ → ℕ → ℕ → Fault
segment_tells x11 bytes right = fault_in (turn_of base 0x42058407 1 (two_pages 0x00 1 0 x11 bytes right))

pub record TrapCases : Type 0 where
  -- element 2 lies at 248 + 2 * 4, on page 1, which is closed: a load wants 1 of it
  pub page-closed : load_tells 248 4096 0 ≡ fault_of LoadAccess 256 (record { page = 1; right = 1 })
  -- a store wants 2, also where the page may be read
  pub page-closed-to-stores : store_tells 248 4096 0 ≡ fault_of StoreAccess 256 (record { page = 1; right = 2 })
  pub page-read-only : store_tells 248 4096 1 ≡ fault_of StoreAccess 256 (record { page = 1; right = 2 })
  -- opened as far as was told, each is let through
  pub page-opened : load_tells 248 4096 1 ≡ record { answer = Finished; place = nowhere }
  pub page-opened-to-stores : store_tells 248 4096 2 ≡ record { answer = Finished; place = nowhere }
  -- not aligned, and past the end of memory, each on a closed page as well: no page is asked
  pub not_aligned : load_tells 250 4096 0 ≡ fault_of LoadMisaligned 258 nothing_wanted
  pub past_memory : load_tells 248 256 0 ≡ fault_of LoadAccess 256 nothing_wanted
  -- of a segment the page is that of the field: fields 0 and 1 lie on page 0, field 2 on page 1
  pub field-page : segment_tells 254 4096 0 ≡ fault_of LoadAccess 256 (record { page = 1; right = 1 })
