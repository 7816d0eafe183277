use Rattle.std.proofs.Common.{◌≡◌, map, take}
use Rattle.rules.specs.Sizes.{most_references}
use Rattle.fixed.specs.Filled.{filled_of}
use Rattle.tables.specs.Tables.{bring_of}
use Rattle.minimum.specs.Inputs.{no_bring, state_of}
use Rattle.minimum.proofs.brings.brings_of.Given as goal

abbrev pub invariant-loop-entry : goal.invariant-loop-entry
invariant-loop-entry l =
    l.brings ≡ filled_of most_references no_bring (map (bring_of l.fn.sets.own.now (state_of l.fn.sets.utxo l.fn.sets.expected l.fn.sets.pending)) (take l.entry-index l.entry-items))
