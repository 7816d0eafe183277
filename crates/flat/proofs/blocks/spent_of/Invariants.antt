use Rattle.fixed.specs.Laws.{Gathered}
use Rattle.chain.specs.View.{zero_reference}
use Rattle.flat.specs.Slots.{inputs_of}
use Rattle.flat.proofs.blocks.spent_of.Given as goal

abbrev pub invariant-loop-transaction : goal.invariant-loop-transaction
invariant-loop-transaction l = Gathered 128 zero_reference 8 inputs_of l.transaction-items l.transaction-index l.refs
