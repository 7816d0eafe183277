-- A good block: what stands in its places, and behind them.
use Rattle.std.proofs.Common.{rules, tests, arith}
use Rattle.chain.specs.View.{no_transaction}
use Rattle.chain.specs.Checks.{good_block_tests}
use Rattle.chain.proofs.good_block.Goals as goal

pub returns-then-ends : goal.returns-then-ends
returns-then-ends c =
    let ends = c.ends.ensures.cases no_transaction (λ x b q k. search (rules, tests)) in
    grind (arith, ends, good_block_tests c.args.b (search rules))

pub returns-else-ends : goal.returns-else-ends
returns-else-ends c =
    let ends = c.ends.ensures.cases no_transaction (λ x b q k. search (rules, tests)) in
    grind (arith, ends, good_block_tests c.args.b (search rules))
