use Rattle.std.proofs.Common.{rules}
use Rattle.chain.specs.Rising.{rises}
use Rattle.rules.specs.Chain.{before_reference}
use Rattle.flat.proofs.seek.rises.Goals as goal

pub returns : goal.returns
returns c = rises before_reference c.args.refs.now _ c.is_sorted_by.ensures.cases (λ f a r g k. search rules)
