-- What the looks at the unused places and at the others answer.
use Rattle.std.proofs.Common.{rules, tests, arith}
use Rattle.std.proofs.lemmas.Iterator.{YieldsList-from_slice}
use Rattle.std.proofs.lemmas.Iterator.Search.{all_from_yields_List}
use Rattle.pool.specs.Good.{no_held}
use Rattle.audit.specs.Audit.{held_test}
use Rattle.audit.proofs.entries_good.Goals as goal

pub returns-then-entries_ascend : goal.returns-then-entries_ascend
returns-then-entries_ascend c =
    let rest =
    all_from_yields_List no_held _ _ c.all.result c.all.ensures.ran
    (YieldsList-from_slice c.args.unused.now cc) (λ x b q k. search (rules, tests))
    in
    let used =
    all_from_yields_List (held_test c.args.limit c.args.own.now) _ _ c.all-then-entries_ascend.result c.all-then-entries_ascend.ensures.ran
    (YieldsList-from_slice c.args.entries.now cc) (λ x b q k. search (rules, tests))
    in
    grind (arith, rest, used)

pub returns-else-entries_ascend : goal.returns-else-entries_ascend
returns-else-entries_ascend c =
    let rest =
    all_from_yields_List no_held _ _ c.all.result c.all.ensures.ran
    (YieldsList-from_slice c.args.unused.now cc) (λ x b q k. search (rules, tests))
    in
    grind (arith, rest)
