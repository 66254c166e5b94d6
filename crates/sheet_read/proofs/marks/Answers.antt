use mathlib.Core.Path.{◌∙◌, refl}
use Prim.Native.Nat.{ℕ, ◌+◌}
use lib.ListN.{get_or}
use Rattle.std.proofs.Common.{rules, tests}
use Rattle.std.proofs.lemmas.Iterator.{YieldsList-from_range}
use Rattle.std.proofs.lemmas.Iterator.Search.{all_from_yields_List}
use Rattle.hexadecimal.proofs.Laws.{each_at}
use Rattle.sheet_read.specs.Sheet.{is_mark, marks_from}
use Rattle.sheet_read.proofs.marks.Goals as goal

pub returns : goal.returns
returns c =
    let test = λ (i : ℕ). is_mark (get_or c.args.s.now (marks_from + i) 0) in
    all_from_yields_List test _ _ _ c.all.ensures.ran (YieldsList-from_range 0 16 16 refl refl) (λ x b q k. search (rules, tests))
    ∙ each_at is_mark c.args.s.now marks_from 16
