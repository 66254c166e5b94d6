-- What the tests before a CSR's number come to: where they let the record through, the number decides, and where they don't, that is the
-- answer.
use mathlib.Core.Path.{◌≡◌, refl}
use mathlib.Core.Bool.{Bool, true, false, cond}
use Rattle.std.specs.Prelude.{Result, Ok, Err}
use Rattle.answer.specs.declared.Answer.{Answer}
use Rattle.control.specs.declared.Board.{Board}
use Rattle.control.specs.declared.Control.{Control}
use Rattle.control.specs.Control.{possible_of}
use Rattle.csr.specs.Csr.{when_accessible}

abbrev tested : {T : Type 0} → Answer → Answer → Bool → Bool → Result T Answer → Result T Answer
tested x y p q r = cond p (cond q (Err x) r) (Err y)

let-through : {T : Type 0} (x y : Answer) (p q : Bool) (r : Result T Answer) (u : Unit {0}) → Ok u ≡ tested x y p q (Ok tt)
    → tested x y p q r ≡ r
let-through x y true true r u e = cc
let-through x y true false r u e = refl
let-through x y false q r u e = cc

held-back : {T : Type 0} (x y : Answer) (p q : Bool) (r : Result T Answer) (a : Answer) → Err a ≡ tested {T = Unit {0}} x y p q (Ok tt)
    → tested x y p q r ≡ Err a
held-back x y true true r a e = cc
held-back x y true false r a e = cc
held-back x y false q r a e = cc

pub allowed : {T : Type 0} (b : Board) (c : Control) (r : Result T Answer) (u : Unit {0}) → Ok u ≡ when_accessible b c (Ok tt)
    → when_accessible b c r ≡ r
allowed b c r u e = let-through _ _ _ _ r u e

pub refused : {T : Type 0} (b : Board) (c : Control) (r : Result T Answer) (a : Answer)
    → Err a ≡ when_accessible {T = Unit {0}} b c (Ok tt) → when_accessible b c r ≡ Err a
refused b c r a e = held-back _ _ _ _ r a e

possible-if : (x y : Answer) (p q : Bool) (u : Unit {0}) → Ok u ≡ tested x y p q (Ok tt) → p ≡ true
possible-if x y true q u e = refl
possible-if x y false q u e = cc

pub allowed-possible : (b : Board) (c : Control) (u : Unit {0}) → Ok u ≡ when_accessible b c (Ok tt) → possible_of b c ≡ true
allowed-possible b c u e = possible-if _ _ _ _ u e
