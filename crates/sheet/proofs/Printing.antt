-- What the printing functions write, one text after another; memory, the sheet, and the lent buffer.
use Prim.Native.Nat.{ℕ, zero, suc, ◌+◌, ◌*◌, ◌%◌, ◌^◌, ◌≤◌, ◌<◌}
use mathlib.Core.Path.{◌≡◌, refl, sym, subst, ◌∙◌}
use mathlib.Core.List.{List, [], ◌∷◌, ◌++◌, append-nil}
use mathlib.Core.Bool.{true, false, ◌&&◌}
use mathlib.Core.Logic.{◌⊎◌}
use lib.ListN.{length, set, drop, length-append, drop_of_length-le, replicate, length-replicate}
use lib.Dec.{leb, eqb}
use borrow.Author.Tests.{eq-eqb, ne_eqb, le-leb, lt-leb}
use native.Mathlib.Numerals.{add-one}
use native.Mathlib.Omega.{arith}
use Rattle.answer.specs.declared.Answer.{Answer}
use Rattle.answer.specs.declared.Answer.TheVariants.{LoadMisaligned, LoadAccess, StoreMisaligned, StoreAccess}
use Rattle.answer.specs.Answer.{number_of}
use Rattle.access.specs.declared.Wanted.{Wanted}
use Rattle.control.specs.declared.Control.{Control}
use Rattle.text.specs.declared.Text.{Text}
use Rattle.text.specs.Text.{ascii, hex, decimal, line, Wrote, Adds}
use Rattle.text.proofs.TextLaws.{both, nothing, over-whole, decimal-length}
use Rattle.layout.specs.Layout.{bytes_at}
use Rattle.sheet_read.proofs.LineLaws.{placed}
use Rattle.sheet_read.specs.declared.Words.{Words}
use Rattle.hexadecimal.specs.Hexadecimal.{number_at}
use Rattle.sheet_read.specs.Sheet.{marks_from, rights_at, x10_from, x11_from, x12_from, words_at, first_bad, sheet_of}
use Rattle.sheet_read.specs.Listed.{Listed}
use Rattle.machine.specs.State.{State}
use Rattle.sheet.specs.declared.Machine.{Machine}
use Rattle.sheet.specs.Run.{memory_to, scalars_of, state_at_first, from, report_wanted, report_control, report, run_of, value_text}
use Rattle.sheet.specs.Run.{Progress, with_final}
use Rattle.control.specs.Control.{reset}
use Rattle.sheet.specs.Run.{register_line, register_lines, final_of, bad_sheet, good_sheet, printed, buffered}
use Rattle.sheet.specs.Bounds.{value_length, register_bound}
use Rattle.sheet.specs.Left.{held, Leaves}

pub three : {t t1 t2 t3 : Text} {s u v : List ℕ} → Adds t s t1 → Adds t1 u t2 → Adds t2 v t3 → Adds t (s ++ (u ++ v)) t3
three p q r = both p (both q r)

pub four : {t t1 t2 t3 t4 : Text} {s u v w : List ℕ} → Adds t s t1 → Adds t1 u t2 → Adds t2 v t3 → Adds t3 w t4
    → Adds t (s ++ (u ++ (v ++ w))) t4
four p q r e = both p (three q r e)

-- ---- a turn

-- the answers 4 to 7
abbrev Trap : Answer → Type 0
Trap a = (a ≡ LoadMisaligned) ⊎ ((a ≡ LoadAccess) ⊎ ((a ≡ StoreMisaligned) ⊎ (a ≡ StoreAccess)))

trap-is : (a : Answer) → Trap a → (leb 4 (number_of a) && leb (number_of a) 7) ≡ true
trap-is a h = grind arith

no-trap : (a : Answer) → (a ≡ LoadMisaligned → ⊥) → (a ≡ LoadAccess → ⊥) → (a ≡ StoreMisaligned → ⊥) → (a ≡ StoreAccess → ⊥)
    → (leb 4 (number_of a) && leb (number_of a) 7) ≡ false
no-trap a h i j k = grind arith

pub no_lines : (t : Text) (a : Answer) (w : Wanted) → (a ≡ LoadMisaligned → ⊥) → (a ≡ LoadAccess → ⊥) → (a ≡ StoreMisaligned → ⊥)
    → (a ≡ StoreAccess → ⊥) → Adds t (report_wanted (number_of a) w) t
unfolding report_wanted
no_lines t a w h i j k = rw (no-trap a h i j k) (nothing t)

pub wanted-wrote : {t t1 t2 : Text} (a : Answer) (w : Wanted) → Trap a
    → Adds t (line (ascii "page=") (decimal w.page)) t1 → Adds t1 (line (ascii "right=") (decimal w.right)) t2
    → Adds t (report_wanted (number_of a) w) t2
unfolding report_wanted
wanted-wrote a w h p q = rw (trap-is a h) (both p q)

pub report-wrote : {t t1 t2 t3 t4 : Text} (word number : ℕ) (answer : Answer) (w : Wanted) (c : Control)
    → number ≡ number_of answer
    → Adds t (line (ascii "word=") (hex 8 word)) t1
    → Adds t1 (line (ascii "answer=") (decimal number)) t2
    → Adds t2 (report_wanted (number_of answer) w) t3
    → Adds t3 (report_control c) t4
    → Adds t (report word answer w c) t4
unfolding report
report-wrote word number answer w c e p q r t = four p (rw e at q) r t

pub bad-wrote : {t t1 t2 : Text} (n : ℕ) → Adds t (ascii "sheet=bad\n") t1 → Adds t1 (line (ascii "line=") (decimal n)) t2
    → Adds t (bad_sheet n) t2
bad-wrote n p q = both p q

-- ---- registers

pub value-wrote : {t t1 t2 t3 t4 : Text} (high low : ℕ)
    → Adds t (ascii "=") t1 → Adds t1 (hex 16 high) t2 → Adds t2 (hex 16 low) t3 → Adds t3 (10 ∷ []) t4 → Adds t (value_text high low) t4
value-wrote high low p q r s = three p (both q r) s

pub zero-register : (t : Text) (n high low : ℕ) → (eqb high 0 && eqb low 0) ≡ true → Adds t (register_line n high low) t
unfolding register_line
zero-register t n high low h = rw h (nothing t)

pub register-wrote : {t t1 t2 t3 : Text} (n high low : ℕ) → (eqb high 0 && eqb low 0) ≡ false
    → Adds t (ascii "v") t1 → Adds t1 (decimal n) t2 → Adds t2 (value_text high low) t3 → Adds t (register_line n high low) t3
unfolding register_line
register-wrote n high low h p q r = rw h (three p q r)

pub value_room : {t t1 t2 : Text} (n : ℕ) → t.at ≤ 2 ^ 24 → Adds t (ascii "v") t1 → Adds t1 (decimal n) t2 → t2.at ≤ 2 ^ 25
value_room n h p q = omega (arith, p.wrote.ends, q.wrote.ends, decimal-length n)

pub register-near : {t t1 t2 : Text} {a : ℕ} (n : ℕ) → Adds t (ascii "v") t1 → Adds t1 (decimal n) t2 → a ≤ t2.at + value_length
    → a ≤ t.at + register_bound
register-near n p q h = omega (arith, p.wrote.ends, q.wrote.ends, decimal-length n)

-- the lines of the first n registers have been written
pub record Printed (file : List ℕ) (t : Text) (n : ℕ) (t1 : Text) : Type 0 where
  pub wrote : Adds t (register_lines file n) t1
  pub near : t1.at ≤ t.at + register_bound * n

pub printed-none : (file : List ℕ) (t : Text) → Printed file t 0 t
unfolding register_lines
printed-none file t = record { wrote = nothing t; near = omega arith }

pub printed-more : {t t1 t2 : Text} (file : List ℕ) (n high low : ℕ) → Printed file t n t1
    → high ≡ bytes_at file (16 * n + 8) 8 → low ≡ bytes_at file (16 * n) 8
    → Adds t1 (register_line n high low) t2 → t2.at ≤ t1.at + register_bound → Printed file t (n + 1) t2
unfolding register_lines
printed-more file n high low p e f w h =
    rw (add-one n) (record { wrote = both p.wrote (rw (e, f) at w); near = omega (arith, p.near) })

pub printed-all : {t t1 : Text} (file : List ℕ) (n : ℕ) → n ≤ 32 → 32 ≤ n → Printed file t n t1 → Adds t (register_lines file 32) t1
printed-all {t} {t1} file n h k p = subst (λ (m : ℕ). Adds t (register_lines file m) t1) (omega arith) p.wrote

-- ---- memory

length-memory : (n : ℕ) → length (memory_to n) ≡ n
unfolding memory_to
length-memory zero = refl
length-memory (suc n) = length-append (memory_to n) (n % 256 ∷ []) ∙ rw (length-memory n) (add-one n)

-- memory of which n bytes are filled
abbrev pub Filled : List ℕ → ℕ → List ℕ → Type 0
Filled memory n now = now ≡ memory_to n ++ drop n memory

pub filled_none : (memory : List ℕ) → Filled memory 0 memory
unfolding memory_to
filled_none memory = refl

pub filled_more : (memory now : List ℕ) (n : ℕ) → n < length memory → Filled memory n now → Filled memory (n + 1) (set now n (n % 256))
unfolding memory_to
filled_more memory now n h e = rw (e, placed (memory_to n) memory n (n % 256) (length-memory n) h, add-one n)

pub filled-all : (memory now : List ℕ) (n : ℕ) → n ≤ length memory → length memory ≤ n → Filled memory n now
    → now ≡ memory_to (length memory)
filled-all memory now n h k e =
    let m : n ≡ length memory = omega arith in
    e ∙ rw (m, drop_of_length-le memory {i = length memory} (omega arith), append-nil)

-- ---- the sheet

pub scalars-set : (s : List ℕ) (a b c : ℕ) → a ≡ number_at s x10_from 16 → b ≡ number_at s x11_from 16 → c ≡ number_at s x12_from 16
    → set (set (set (replicate 32 0) 10 a) 11 b) 12 c ≡ scalars_of (sheet_of s)
unfolding sheet_of
scalars-set s a b c p q r = rw (p, q, r)

-- the words and what stands at the end, by what the calls say of the sheet
pub good-wrote : {t t1 t2 : Text} (s : List ℕ) (w : Words) (m m1 : Machine) → Listed s w → held m ≡ state_at_first (sheet_of s)
    → Leaves (run_of (words_at s w.first w.count) w.allow (from (held m))) t t1 m1 → Adds t1 (final_of m1.registers m1.scalars) t2
    → Adds t (good_sheet (sheet_of s)) t2
unfolding sheet_of
good-wrote {t} {t1} {t2} s w m m1 l e r f =
    let p : Progress = run_of (words_at s w.first w.count) w.allow (from (held m)) in
    let g : Adds t1 (final_of p.state.registers p.state.scalars) t2 =
    subst (λ (x : State). Adds t1 (final_of x.registers x.scalars) t2) r.state f in
    let u : Adds t (with_final p) t2 = both r.wrote g in
    rw (l.count, l.first, l.allow) at
    (subst (λ (x : State). Adds t (with_final (run_of (words_at s w.first w.count) w.allow (from x))) t2) e u)

-- the parts that the machine is made of
pub set-up : (s registers scalars memory closed rights : List ℕ) (size : ℕ)
    → registers ≡ replicate 512 0 → scalars ≡ scalars_of (sheet_of s)
    → memory ≡ memory_to size → size ≡ 4096 → closed ≡ replicate 256 0 → rights ≡ rights_at s marks_from 16 ++ drop 16 closed
    → held (record { registers = registers; scalars = scalars; memory = memory; rights = rights; control = reset })
    ≡ state_at_first (sheet_of s)
unfolding sheet_of
set-up s registers scalars memory closed rights size p q r z y t = rw (p, q, r, z, t, y)

pub printed-good : {t t1 : Text} (s : List ℕ) (w : Words) → Listed s w → Adds t (good_sheet (sheet_of s)) t1 → Adds t (printed s) t1
unfolding printed
printed-good s w l a = rw (eq-eqb (first_bad s) 0 l.good) a

pub printed-bad : {t t1 : Text} (s : List ℕ) (n : ℕ) → n ≡ first_bad s → 0 < n → Adds t (bad_sheet n) t1 → Adds t (printed s) t1
unfolding printed
printed-bad s n e z a = rw (ne_eqb (first_bad s) 0 (λ q. omega arith)) (rw e at a)

-- ---- the lent buffer

-- over nothing, only the length is told
pub needed-length : {none : List ℕ} {a : ℕ} (text : List ℕ) → Wrote [] 0 text none a → a ≡ length text
needed-length text n = omega (arith, n.ends)

pub buffer-holds : {o1 none : List ℕ} {a a1 : ℕ} (text o : List ℕ) → Wrote [] 0 text none a → a ≤ length o → Wrote o 0 text o1 a1
    → o1 ≡ buffered text o
buffer-holds text o n h w =
    let k : length text ≤ length o = omega (arith, n.ends) in
    w.bytes ∙ over-whole o text k ∙ rw (le-leb (length text) (length o) k)

pub buffer-short : {none : List ℕ} {a : ℕ} (text o : List ℕ) → Wrote [] 0 text none a → length o < a → o ≡ buffered text o
buffer-short text o n h = rw (lt-leb (length text) (length o) (omega (arith, n.ends)))

-- zeros are as many as are asked for: at any number, so that nothing counts to a given one
pub zeros : (n : ℕ) → n ≡ length {A = ℕ} (replicate n 0)
zeros n = sym (length-replicate n 0)
