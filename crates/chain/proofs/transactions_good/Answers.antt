-- The transactions are good: what `all` and `is_sorted_by` answer.
use Rattle.std.proofs.Common.{rules, of_calls, tests, arith}
use Rattle.std.proofs.lemmas.Iterator.{YieldsList-from_slice}
use Rattle.std.proofs.lemmas.Iterator.Search.{all_from_yields_List}
use Rattle.chain.specs.View.{good_transaction, before_struct}
use Rattle.chain.specs.Rising.{rises}
use Rattle.chain.proofs.transactions_good.Goals as goal

pub returns-then-all : goal.returns-then-all
returns-then-all c =
    let l = c.args.transactions.now in
    let good = all_from_yields_List good_transaction _ _ c.all.result c.all.ensures.ran (YieldsList-from_slice l cc) (λ x b q k. search (rules, tests)) in
    let rise = rises before_struct l _ c.is_sorted_by.ensures.cases (λ f a b q k. search (rules, of_calls)) in
    grind (arith, good, rise)
