-- The own list is shaped: what `is_sorted_by` answers.
use Rattle.std.proofs.Common.{rules, of_calls, arith}
use Rattle.std.specs.Prelude.{ltb}
use Rattle.rules.specs.Chain.{shaped_own}
use Rattle.chain.specs.Rising.{rises}
use Rattle.chain.proofs.good_own.Goals as goal

pub returns-then-own-le-MOST_OWN : goal.returns-then-own-le-MOST_OWN
unfolding shaped_own
returns-then-own-le-MOST_OWN c =
    grind (arith, rises ltb c.args.own.now _ c.is_sorted_by.ensures.cases (λ f a r f' k. search (rules, of_calls)))
