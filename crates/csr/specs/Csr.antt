-- Document 01, 'Control panel', and document 02, A8: reads and writes by CSR number, with their answers in order.
use Rattle.std.specs.Prelude.{ℕ, ◌+◌, ◌*◌, ◌/◌, ◌%◌, cond, eqb, Result, Ok, Err}
use Rattle.answer.specs.declared.Answer.{Answer}
use Rattle.answer.specs.declared.Answer.TheVariants.{Illegal, BadControl}
use Rattle.control.specs.declared.Board.{Board}
use Rattle.control.specs.declared.Control.{Control}
use Rattle.control.specs.Control.{with_vstart, with_vxrm, with_vxsat, dirtied, is_off, possible_of}

-- 36 comes first; VS Off makes every access 2
abbrev pub when_accessible : {T : Type 0} → Board → Control → Result T Answer → Result T Answer
when_accessible b c r = cond (possible_of b c) (cond (is_off c) (Err Illegal) r) (Err BadControl)

-- the value of a CSR; an unknown number is 2
unfoldable pub read_of : Board → Control → ℕ → Result ℕ Answer
read_of b c csr =
    when_accessible b c
    (cond (eqb csr 0x008) (Ok c.vstart)
    (cond (eqb csr 0x009) (Ok c.vxsat)
    (cond (eqb csr 0x00A) (Ok c.vxrm)
    (cond (eqb csr 0x00F) (Ok (2 * c.vxrm + c.vxsat))
    (cond (eqb csr 0xC20) (Ok c.vl)
    (cond (eqb csr 0xC21) (Ok c.vtype)
    (cond (eqb csr 0xC22) (Ok b.vlenb)
    (Err Illegal))))))))

-- what a read hands out beside its answer: "0 beside any other answer than 0"
abbrev pub value_of : Result ℕ Answer → ℕ
value_of (Ok x) = x
value_of (Err a) = 0

-- "each accepted panel write, beside its own field, sets Dirty" (A8)
abbrev pub changed : Control → Result Control Answer
changed c = Ok (dirtied c)

-- a write keeps the low bits: of vstart those of 0 .. VLEN - 1, of vxsat 1, of vxrm 2, of vcsr 3
unfoldable pub written_of : Board → Control → ℕ → ℕ → Result Control Answer
written_of b c csr x =
    when_accessible b c
    (cond (eqb csr 0x008) (changed (with_vstart c (x % (8 * b.vlenb))))
    (cond (eqb csr 0x009) (changed (with_vxsat c (x % 2)))
    (cond (eqb csr 0x00A) (changed (with_vxrm c (x % 4)))
    (cond (eqb csr 0x00F) (changed (with_vxsat (with_vxrm c (x / 2 % 4)) (x % 2)))
    (Err Illegal)))))

-- the record after a write: beside 36 and 2 it is as before
abbrev pub record_after : Control → Result Control Answer → Control
record_after c (Ok d) = d
record_after c (Err a) = c

-- the answer of a write, where the record is lent
abbrev pub outcome : Result Control Answer → Result (Unit {0}) Answer
outcome (Ok d) = Ok tt
outcome (Err a) = Err a
