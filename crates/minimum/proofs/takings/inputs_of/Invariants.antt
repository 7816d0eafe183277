use Rattle.std.proofs.Common.{◌≡◌, map, take}
use Rattle.rules.specs.Sizes.{most_references}
use Rattle.fixed.specs.Filled.{filled_of}
use Rattle.minimum.specs.Inputs.{input_of, no_input, state_of}
use Rattle.minimum.proofs.takings.inputs_of.Given as goal

abbrev pub invariant-loop-i : goal.invariant-loop-i
invariant-loop-i l =
    l.inputs
    ≡ filled_of most_references no_input (map (input_of l.fn.sets.own.now (state_of l.fn.sets.utxo l.fn.sets.expected l.fn.sets.pending)) (take l.i l.reference-items))
