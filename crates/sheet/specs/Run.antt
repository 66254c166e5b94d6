-- What a sheet prints (document 01, 'The sheet runner'; document 02, A8 and A9).
use Rattle.std.specs.Prelude.{ℕ, zero, suc, ◌+◌, ◌*◌, ◌%◌, Bool, ◌&&◌, cond, List, [], ◌∷◌, ◌++◌, length, get_or, drop, replicate, leb, eqb}
use Rattle.answer.specs.declared.Answer.{Answer}
use Rattle.answer.specs.declared.Answer.TheVariants.{Finished, Paused}
use Rattle.answer.specs.Answer.{number_of}
use Rattle.access.specs.declared.Wanted.{Wanted}
use Rattle.control.specs.declared.Control.{Control}
use Rattle.control.specs.Board.{base}
use Rattle.control.specs.Control.{reset}
use Rattle.layout.specs.Layout.{bytes_at}
use Rattle.machine.specs.State.{State, Outcome}
use Rattle.machine.specs.Machine.{turn_of}
use Rattle.text.specs.Text.{ascii, hex, decimal, line}
use Rattle.sheet_read.specs.Sheet.{Sheet, first_bad, sheet_of}

-- ---- the state at first

-- "Memory is 4,096 bytes, byte a holding a mod 256": the first n of them
unfoldable pub memory_to : ℕ → List ℕ
memory_to zero = []
memory_to (suc n) = memory_to n ++ (n % 256 ∷ [])

-- "all else is at reset or 0"
abbrev pub scalars_of : Sheet → List ℕ
scalars_of t = replicate 10 0 ++ (t.x10 ∷ t.x11 ∷ t.x12 ∷ replicate 19 0)

abbrev pub state_at_first : Sheet → State
state_at_first t = record {
  registers = replicate 512 0;
  scalars = scalars_of t;
  memory = memory_to 4096;
  rights = t.rights ++ replicate 240 0;
  control = reset;
}

-- ---- the run

-- what has been printed, the last answer, and the state
pub record Progress : Type 0 where
  pub text : List ℕ
  pub answer : Answer
  pub state : State

-- nothing has been printed yet, and nothing has gone wrong
abbrev pub from : State → Progress
from s = record { text = []; answer = Finished; state = s }

abbrev pub joined : Progress → Progress → Progress
joined p q = record { text = p.text ++ q.text; answer = q.answer; state = q.state }

-- "page and right lines in decimal after an answer of 4 to 7" (document 02, A9): by the answer's number
unfoldable pub report_wanted : ℕ → Wanted → List ℕ
report_wanted answer w =
    cond (leb 4 answer && leb answer 7) (line (ascii "page=") (decimal w.page) ++ line (ascii "right=") (decimal w.right)) []

-- "After each turn: word, answer, vstart, vl (decimal but word), vtype (16 hex)"; "a vs line after each vtype line" (document 02, A8)
abbrev pub report_control : Control → List ℕ
report_control c =
    line (ascii "vstart=") (decimal c.vstart) ++
    (line (ascii "vl=") (decimal c.vl) ++ (line (ascii "vtype=") (hex 16 c.vtype) ++ line (ascii "vs=") (decimal c.vs)))

unfoldable pub report : ℕ → Answer → Wanted → Control → List ℕ
report word answer w c =
    line (ascii "word=") (hex 8 word) ++
    (line (ascii "answer=") (decimal (number_of answer)) ++ (report_wanted (number_of answer) w ++ report_control c))

abbrev pub reported : ℕ → Outcome → Progress
reported word o =
    record { text = report word o.answer o.place.wanted o.after.control; answer = o.answer; state = o.after }

abbrev pub turned : ℕ → ℕ → State → Progress
turned word allow s = reported word (turn_of base word allow s)

abbrev pub is_paused : Answer → Bool
is_paused answer = eqb (number_of answer) 1

abbrev pub is_finished : Answer → Bool
is_finished answer = eqb (number_of answer) 0

-- "Each word takes turns of the allowance until it no longer pauses": n more turns at most
unfoldable pub more_turns : ℕ → ℕ → ℕ → Progress → Progress
more_turns zero word allow p = p
more_turns (suc n) word allow p = cond (is_paused p.answer) (more_turns n word allow (joined p (turned word allow p.state))) p

-- a word that has not begun counts as paused
abbrev pub begun : State → Progress
begun s = record { text = []; answer = Paused; state = s }

-- A pause leaves vstart higher, and vstart above 127 is refused: no word pauses 129 times (law `ends`, proofs/Ends)
abbrev pub most_turns : ℕ
most_turns = 129

unfoldable pub word_of : ℕ → ℕ → State → Progress
word_of word allow s = more_turns most_turns word allow (begun s)

-- "the run ends after the first answer other than 0 and 1, or the last word"
unfoldable pub run_of : List ℕ → ℕ → Progress → Progress
run_of [] allow p = p
run_of (word ∷ words) allow p = cond (is_finished p.answer) (run_of words allow (joined p (word_of word allow p.state))) p

-- ---- what is printed

-- "each vector register that isn't all zero, byte 15 first": its high and low eight bytes
abbrev pub value_text : ℕ → ℕ → List ℕ
value_text high low = line (ascii "=") (hex 16 high ++ hex 16 low)

unfoldable pub register_line : ℕ → ℕ → ℕ → List ℕ
register_line n high low = cond (eqb high 0 && eqb low 0) [] (ascii "v" ++ (decimal n ++ value_text high low))

-- of the first n registers
unfoldable pub register_lines : List ℕ → ℕ → List ℕ
register_lines file zero = []
register_lines file (suc n) = register_lines file n ++ register_line n (bytes_at file (16 * n + 8) 8) (bytes_at file (16 * n) 8)

-- "At the end x10, x11, x12, then each vector register"
abbrev pub scalar_lines : List ℕ → List ℕ
scalar_lines scalars =
    line (ascii "x10=") (hex 16 (get_or scalars 10 0)) ++
    (line (ascii "x11=") (hex 16 (get_or scalars 11 0)) ++ line (ascii "x12=") (hex 16 (get_or scalars 12 0)))

abbrev pub final_of : List ℕ → List ℕ → List ℕ
final_of registers scalars = scalar_lines scalars ++ register_lines registers 32

abbrev pub with_final : Progress → List ℕ
with_final p = p.text ++ final_of p.state.registers p.state.scalars

-- "A bad sheet prints only sheet=bad and line= its first bad line"
abbrev pub bad_sheet : ℕ → List ℕ
bad_sheet n = ascii "sheet=bad\n" ++ line (ascii "line=") (decimal n)

abbrev pub sheet_from : Sheet → State → List ℕ
sheet_from t s = with_final (run_of t.words t.allow (from s))

abbrev pub good_sheet : Sheet → List ℕ
good_sheet t = sheet_from t (state_at_first t)

-- what any input prints
unfoldable pub printed : List ℕ → List ℕ
printed s = cond (eqb (first_bad s) 0) (good_sheet (sheet_of s)) (bad_sheet (first_bad s))

-- the lent buffer after it: the text where it fits, and otherwise nothing written
abbrev pub buffered : List ℕ → List ℕ → List ℕ
buffered text out = cond (leb (length text) (length out)) (text ++ drop (length text) out) out
