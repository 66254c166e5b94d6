use mathlib.Core.Path.{◌∙◌}
use Prim.Native.Nat.{ℕ, ◌+◌}
use lib.Dec.{eqb}
use lib.ListN.{get_or}
use Rattle.std.proofs.Common.{rules, tests}
use Rattle.std.proofs.lemmas.Iterator.{YieldsList-from_slice}
use Rattle.std.proofs.lemmas.Iterator.Consumers.{YieldsList-from_enumerate}
use Rattle.std.proofs.lemmas.Iterator.Search.{all_from_yields_List}
use Rattle.sheet_read.proofs.LineLaws.{key-all}
use Rattle.sheet_read.proofs.begins_with.Goals as goal

pub returns : goal.returns
returns c =
    let test = λ (p : ℕ × ℕ). eqb (get_or c.args.s.now (c.args.at + p.0) 0) p.1 in
    all_from_yields_List test _ _ _ c.all.ensures.ran (YieldsList-from_enumerate (YieldsList-from_slice c.args.key.now cc) cc)
    (λ x b q k. search (rules, tests))
    ∙ key-all c.args.s.now c.args.at c.args.key.now
