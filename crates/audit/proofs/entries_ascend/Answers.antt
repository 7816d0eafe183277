use Rattle.std.proofs.Common.{rules}
use Rattle.pool.specs.Good.{before_held}
use Rattle.chain.specs.Rising.{rises}
use Rattle.audit.proofs.entries_ascend.Goals as goal

pub returns : goal.returns
returns c = rises before_held c.args.entries.now _ c.is_sorted_by.ensures.cases (λ f a r g k. search rules)
