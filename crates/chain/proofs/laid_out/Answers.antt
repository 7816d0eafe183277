-- The counts fit and nothing stands behind them: what the two looks at the places answer.
use Rattle.std.proofs.Common.{rules, tests, arith}
use Rattle.chain.specs.View.{laid_out, no_reference, no_output}
use Rattle.chain.proofs.laid_out.Goals as goal

pub returns-then-ends : goal.returns-then-ends
unfolding laid_out
returns-then-ends c =
    let a = c.ends.ensures.cases no_reference (λ x b q k. search (rules, tests)) in
    let b = c.ends-then-ends.ensures.cases no_output (λ x b q k. search (rules, tests)) in
    grind (arith, a, b)

pub returns-else-ends : goal.returns-else-ends
unfolding laid_out
returns-else-ends c =
    let a = c.ends.ensures.cases no_reference (λ x b q k. search (rules, tests)) in
    grind (arith, a)
