-- Invariant: the places hold the takings of the payments so far, and the rest is the inputs of those to come.
use Rattle.std.proofs.Common.{◌≡◌, map, take, drop}
use Rattle.sets.specs.Sets.{gather}
use Rattle.rules.specs.Sizes.{most_payments}
use Rattle.chain.specs.View.{view_transaction}
use Rattle.chain.specs.declared.Transaction.{Transaction}
use Rattle.fixed.specs.Filled.{filled_of}
use Rattle.flat.specs.Slots.{inputs_of}
use Rattle.minimum.specs.Inputs.{input_of, no_taking, state_of, taking_of}
use Rattle.minimum.proofs.takings.takings.Given as goal

abbrev pub invariant-loop-payment : goal.invariant-loop-payment
invariant-loop-payment l =
    (l.rest ≡ map (input_of l.fn.sets.own.now (state_of l.fn.sets.utxo l.fn.sets.expected l.fn.sets.pending)) (gather inputs_of (drop l.payment-index l.payment-items)))
    × (l.takings
    ≡ filled_of most_payments no_taking
    (map (λ (t : Transaction). taking_of l.fn.sets.own.now (state_of l.fn.sets.utxo l.fn.sets.expected l.fn.sets.pending) (view_transaction t)) (take l.payment-index l.payment-items)))
