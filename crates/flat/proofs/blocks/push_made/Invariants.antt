use Rattle.std.proofs.Common.{◌≡◌, map, take}
use Rattle.rules.specs.Chain.{entry_of}
use Rattle.fixed.specs.Filled.{with_items}
use Rattle.flat.proofs.blocks.push_made.Given as goal

abbrev pub invariant-loop-output : goal.invariant-loop-output
invariant-loop-output l = l.entries ≡ with_items l.initial.entries (map (entry_of l.transaction.number) (take l.output-index l.output-items))
