use Rattle.fixed.specs.Laws.{Gathered}
use Rattle.flat.specs.Flat.{zero_entry}
use Rattle.flat.specs.Slots.{entries_of}
use Rattle.flat.proofs.blocks.made_of.Given as goal

abbrev pub invariant-loop-transaction : goal.invariant-loop-transaction
invariant-loop-transaction l = Gathered 128 zero_entry 8 entries_of l.transaction-items l.transaction-index l.entries
