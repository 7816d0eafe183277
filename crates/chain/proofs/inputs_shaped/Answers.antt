-- The inputs are shaped: what `is_sorted_by` answers.
use Rattle.std.proofs.Common.{rules, of_calls, arith}
use Rattle.rules.specs.Chain.{before_reference}
use Rattle.chain.specs.Rising.{rises}
use Rattle.chain.proofs.inputs_shaped.Goals as goal

pub returns-then-inputs-ge-FEWEST_INPUTS : goal.returns-then-inputs-ge-FEWEST_INPUTS
returns-then-inputs-ge-FEWEST_INPUTS c =
    let r = rises before_reference c.args.inputs.now _ c.is_sorted_by.ensures.cases (λ f a r f' k. search (rules, of_calls)) in
    grind (arith, r)
