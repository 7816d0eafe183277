-- What the looks at the unused places and at the others answer.
use Rattle.std.proofs.Common.{rules, tests, arith}
use Rattle.std.proofs.lemmas.Iterator.{YieldsList-from_slice}
use Rattle.std.proofs.lemmas.Iterator.Search.{all_from_yields_List}
use Rattle.pool.specs.Good.{no_payment}
use Rattle.audit.specs.Audit.{payment_test}
use Rattle.audit.proofs.payments_good.Goals as goal

pub returns-then-payments_ascend : goal.returns-then-payments_ascend
returns-then-payments_ascend c =
    let rest =
    all_from_yields_List no_payment _ _ c.all.result c.all.ensures.ran
    (YieldsList-from_slice c.args.unused.now cc) (λ x b q k. search (rules, tests))
    in
    let used =
    all_from_yields_List (payment_test c.args.limit) _ _ c.all-then-payments_ascend.result c.all-then-payments_ascend.ensures.ran
    (YieldsList-from_slice c.args.payments.now cc) (λ x b q k. search (rules, tests))
    in
    grind (arith, rest, used)

pub returns-else-payments_ascend : goal.returns-else-payments_ascend
returns-else-payments_ascend c =
    let rest =
    all_from_yields_List no_payment _ _ c.all.result c.all.ensures.ran
    (YieldsList-from_slice c.args.unused.now cc) (λ x b q k. search (rules, tests))
    in
    grind (arith, rest)
