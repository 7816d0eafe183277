use Rattle.std.proofs.Common.{rules}
use Rattle.pool.specs.Good.{before_payment}
use Rattle.chain.specs.Rising.{rises}
use Rattle.audit.proofs.payments_ascend.Goals as goal

pub returns : goal.returns
returns c = rises before_payment c.args.payments.now _ c.is_sorted_by.ensures.cases (λ f a r g k. search rules)
