use Rattle.std.proofs.Common.{rules}
use Rattle.balance.specs.Picked.{free_told}
use Rattle.balance.proofs.available_of.Goals as goal

pub returns : goal.returns
returns c = search (rules, free_told)
