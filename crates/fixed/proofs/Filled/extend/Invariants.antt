use Rattle.std.proofs.Common.{◌≡◌, take}
use Rattle.fixed.specs.Filled.{with_items}
use Rattle.fixed.proofs.Filled.extend.Given as goal

abbrev pub invariant-loop-item : goal.invariant-loop-item
invariant-loop-item g l = l.self ≡ with_items l.initial.self (take l.item-index l.items)
