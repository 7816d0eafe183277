use Rattle.std.proofs.Common.{rules}
use Rattle.rules.specs.Chain.{is_own}
use Rattle.audit.specs.Apart.{apart_common}
use Rattle.audit.proofs.held_good.Goals as goal

pub returns-then-is_own : goal.returns-then-is_own
unfolding is_own
returns-then-is_own c = rw (← apart_common 8 c.args.held.now.utxo c.args.held.now.expected (search rules)) (search rules)

pub returns-else-is_own : goal.returns-else-is_own
unfolding is_own
returns-else-is_own c = rw (← apart_common 8 c.args.held.now.utxo c.args.held.now.expected (search rules)) (search rules)
