-- What the look at every place answers.
use Rattle.std.proofs.Common.{rules, tests, arith}
use Rattle.std.proofs.lemmas.Iterator.{YieldsList-from_slice}
use Rattle.std.proofs.lemmas.Iterator.Search.{all_from_yields_List}
use Rattle.alike.specs.Alike.{no_entry}
use Rattle.alike.proofs.no_entries.Goals as goal

pub returns-then-all : goal.returns-then-all
returns-then-all c =
    let empty =
    all_from_yields_List no_entry _ _ c.all.result c.all.ensures.ran
    (YieldsList-from_slice c.args.list.items cc) (λ x b q k. search (rules, tests))
    in
    grind (arith, empty)

pub returns-else-all : goal.returns-else-all
returns-else-all c =
    let empty =
    all_from_yields_List no_entry _ _ c.all.result c.all.ensures.ran
    (YieldsList-from_slice c.args.list.items cc) (λ x b q k. search (rules, tests))
    in
    grind (arith, empty)
