-- The outputs are shaped: what `all` and `is_sorted_by` answer.
use Rattle.std.proofs.Common.{rules, of_calls, tests, arith, leb}
use Rattle.std.proofs.lemmas.Iterator.{YieldsList-from_slice}
use Rattle.std.proofs.lemmas.Iterator.Search.{all_from_yields_List}
use Rattle.rules.specs.declared.Output.{Output}
use Rattle.rules.specs.Chain.{before_output}
use Rattle.rules.specs.Sizes.{largest_amount}
use Rattle.chain.specs.Rising.{rises}
use Rattle.chain.proofs.outputs_shaped.Goals as goal

pub returns-then-all : goal.returns-then-all
returns-then-all c =
    let l = c.args.outputs.now in
    let fit = all_from_yields_List (λ (o : Output). leb o.amount largest_amount) _ _ c.all.result c.all.ensures.ran (YieldsList-from_slice l cc) (λ x b q k. search (rules, tests)) in
    let rise = rises before_output l _ c.is_sorted_by.ensures.cases (λ f a b q k. search (rules, of_calls)) in
    grind (arith, fit, rise)
