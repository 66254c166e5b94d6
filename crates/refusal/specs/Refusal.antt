-- Refusals 32 to 36, in their order (document 01, 'One turn and its answer').
use Rattle.std.specs.Prelude.{ℕ, ◌*◌, Bool, true, not, ◌&&◌, cond, List, [], ◌∷◌, length, ltb, leb, eqb, Result, Ok, Err, ⊤}
use Rattle.answer.specs.declared.Answer.{Answer}
use Rattle.answer.specs.declared.Answer.TheVariants.{BadRegisters, BadScalars, BadMemory, BadRights, BadControl}
use Rattle.control.specs.declared.Board.{Board}
use Rattle.control.specs.declared.Control.{Control}
use Rattle.control.specs.Control.{possible_of}

-- no right is above 2
abbrev pub rights_fit : List ℕ → Bool
rights_fit [] = true
rights_fit (r ∷ rs) = leb r 2 && rights_fit rs

-- by the lengths of the register file, the scalars and memory, and by the rights and the control record
unfoldable pub refusal_of : Board → ℕ → ℕ → ℕ → List ℕ → Control → Result ⊤ Answer
refusal_of b registers scalars memory rights c =
    cond (not (eqb registers (32 * b.vlenb))) (Err BadRegisters)
    (cond (not (eqb scalars 32)) (Err BadScalars)
    (cond (ltb 65536 memory) (Err BadMemory)
    (cond (not (eqb (length rights) 256 && rights_fit rights)) (Err BadRights)
    (cond (not (possible_of b c)) (Err BadControl)
    (Ok tt)))))
