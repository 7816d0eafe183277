use Rattle.std.proofs.Common.{rules}
use Rattle.balance.specs.Picked.{change_made}
use Rattle.balance.proofs.change_of.Goals as goal

pub returns : goal.returns
returns c = search (rules, change_made)
