-- The number of each answer: the table of document 01, 'One turn and its answer', less one that no call gives (document 02, A7). 4 to 7 are
-- the causes of the privileged manual.
use Rattle.std.specs.Prelude.{ℕ, Result, Ok, Err}
use Rattle.answer.specs.declared.Answer.{Answer}
use Rattle.answer.specs.declared.Answer.TheVariants.{Finished, Paused, Illegal, LoadMisaligned, LoadAccess, StoreMisaligned}
use Rattle.answer.specs.declared.Answer.TheVariants.{StoreAccess, BadRegisters, BadScalars, BadMemory, BadRights, BadControl}
use Rattle.answer.specs.declared.Answer.TheVariants.{NoGroup}

abbrev pub number_of : Answer → ℕ
number_of Finished = 0
number_of Paused = 1
-- reserved, left out or unsupported word
number_of Illegal = 2
-- load, store: element not aligned to its size
number_of LoadMisaligned = 4
number_of StoreMisaligned = 6
-- load, store: past memory, or the page lacks the right
number_of LoadAccess = 5
number_of StoreAccess = 7
-- register file isn't 512 bytes; not 32 scalar registers; memory over 65,536 bytes
number_of BadRegisters = 32
number_of BadScalars = 33
number_of BadMemory = 34
-- not 256 rights, or a right above 2
number_of BadRights = 35
-- control fields that can't be
number_of BadControl = 36
-- no such register group
number_of NoGroup = 38

-- the answer of a call that gives a value, or the answer that refuses it
abbrev pub answer_of : {T : Type 0} → Result T Answer → Answer
answer_of (Ok x) = Finished
answer_of (Err a) = a
