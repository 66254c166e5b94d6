use mathlib.Core.Path.{◌∙◌, refl}
use Prim.Native.Nat.{ℕ, ◌+◌}
use lib.ListN.{get_or}
use native.Mathlib.Omega.{arith}
use Rattle.std.proofs.Common.{rules, tests}
use Rattle.std.proofs.lemmas.Iterator.{YieldsList-from_range}
use Rattle.std.proofs.lemmas.Iterator.Search.{all_from_yields_List}
use Rattle.hexadecimal.specs.Hexadecimal.{is_digit}
use Rattle.hexadecimal.proofs.Laws.{each_at}
use Rattle.hexadecimal.proofs.digits.Goals as goal

pub returns : goal.returns
returns c =
    let test = λ (i : ℕ). is_digit (get_or c.args.line.now (c.args.at + i) 0) in
    all_from_yields_List test _ _ _ c.all.ensures.ran (YieldsList-from_range 0 c.args.n c.args.n refl (omega arith))
    (λ x b q k. search (rules, tests))
    ∙ each_at is_digit c.args.line.now c.args.at c.args.n
