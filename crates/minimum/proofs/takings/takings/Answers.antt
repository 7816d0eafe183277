use Rattle.std.proofs.Common.{◌∙◌, List, [], length, get_or, take, ap, map, sym, arith}
use Rattle.std.proofs.lemmas.List.{length-map}
use mathlib.Core.List.{map-map}
use Rattle.sets.specs.Fill.{gather-map}
use Rattle.sets.specs.Sets.{gather}
use Rattle.rules.specs.Sizes.{most_inputs, most_payments, most_references}
use Rattle.rules.specs.declared.Number.{Number}
use Rattle.rules.specs.Chain as Chain
use Rattle.rules.specs.Chain.{spent}
use Rattle.chain.specs.View.{view_block, view_transaction}
use Rattle.chain.specs.declared.Transaction.{Transaction}
use Rattle.fixed.specs.Filled.{filled_of, items_in, with_item}
use Rattle.fixed.specs.Laws.{all_taken, items-filled, map_pushed}
use Rattle.flat.specs.Slots.{inputs_of, past_end}
use Rattle.minimum.specs.declared.takings.Input.{Input}
use Rattle.minimum.specs.declared.takings.Taking.{Taking}
use Rattle.minimum.specs.Inputs.{input_of, no_input, no_taking, state_of, taking_of}
use Rattle.minimum.specs.Takings.{parted_back, parted_front, parted_room}
use Rattle.minimum.proofs.takings.takings.Goals as goal

pub loop-payment-init : goal.loop-payment-init
loop-payment-init c =
    let f = input_of c.args.sets.now.own.now (state_of c.args.sets.now.utxo c.args.sets.now.expected c.args.sets.now.pending) in (
      c.as_slice-rest.ensures.items
          ∙ ap items_in c.inputs_of-inputs.ensures
          ∙ items-filled most_references no_input (map f (spent (view_block c.args.sets.now.pending)))
          ∙ ap (map f) (gather-map (λ (t : Chain.Transaction). t.inputs) view_transaction (take c.args.sets.now.pending.count c.args.sets.now.pending.transactions))
          ∙ ap (λ (l : List Transaction). map f (gather inputs_of l)) (sym c.transactions-payment-items.ensures.transactions),
      c.none-takings.ensures ∙ ap (λ (k : Taking). filled_of most_payments k []) (c.taking_of.ensures ∙ ap (λ (n : Number). record { number = n; inputs = filled_of most_inputs no_input [] }) c.zero_number.ensures),
    )

pub split_at-requires : goal.split_at-requires
split_at-requires c =
    parted_room inputs_of (input_of c.args.sets.now.own.now (state_of c.args.sets.now.utxo c.args.sets.now.expected c.args.sets.now.pending)) c.transactions-payment-items.result.now
    c.loop-payment.payment-index past_end c.loop-payment-test.true _ (ap length c.inputs.ensures.inputs) c.loop-payment.rest.now c.loop-payment.invariant.0

pub taking_of-requires-in-loop-payment : goal.taking_of-requires-in-loop-payment
taking_of-requires-in-loop-payment c =
    let f = input_of c.args.sets.now.own.now (state_of c.args.sets.now.utxo c.args.sets.now.expected c.args.sets.now.pending) in
    let front =
    parted_front inputs_of f c.transactions-payment-items.result.now c.loop-payment.payment-index past_end c.loop-payment-test.true _
    (ap length c.inputs.ensures.inputs) c.loop-payment.rest.now c.loop-payment.invariant.0
    in
    omega (arith, ap length c.split_at.ensures.front, ap length front, length-map (inputs_of (get_or c.transactions-payment-items.result.now c.loop-payment.payment-index past_end)) f, c.inputs.ensures.most, ap length c.inputs.ensures.inputs)

pub loop-payment-preserved : goal.loop-payment-preserved
loop-payment-preserved c =
    let s = state_of c.args.sets.now.utxo c.args.sets.now.expected c.args.sets.now.pending in
    let f = input_of c.args.sets.now.own.now s in
    let front =
    parted_front inputs_of f c.transactions-payment-items.result.now c.loop-payment.payment-index past_end c.loop-payment-test.true _
    (ap length c.inputs.ensures.inputs) c.loop-payment.rest.now c.loop-payment.invariant.0
    in (
      c.split_at.ensures.back
          ∙ parted_back inputs_of f c.transactions-payment-items.result.now c.loop-payment.payment-index past_end c.loop-payment-test.true _
          (ap length c.inputs.ensures.inputs) c.loop-payment.rest.now c.loop-payment.invariant.0,
      map_pushed _ _ (λ (t : Transaction). taking_of c.args.sets.now.own.now s (view_transaction t)) c.transactions-payment-items.result.now
          c.loop-payment.payment-index past_end _ _ c.loop-payment.invariant.1 c.loop-payment-test.true c.transactions-payment-items.ensures.most
          (c.push.ensures
          ∙ ap (with_item c.loop-payment.takings)
          (c.taking_of-in-loop-payment.ensures
          ∙ ap (λ (l : List Input). record { number = (get_or c.transactions-payment-items.result.now c.loop-payment.payment-index past_end).number; inputs = filled_of most_inputs no_input l }) (c.split_at.ensures.front ∙ front))),
    )

pub returns : goal.returns
returns c =
    let s = state_of c.args.sets.now.utxo c.args.sets.now.expected c.args.sets.now.pending in
    all_taken _ _ (map (λ (t : Transaction). taking_of c.args.sets.now.own.now s (view_transaction t))) _ _ c.loop-payment.payment-index _ c.loop-payment.invariant.1
    c.loop-payment-test.false c.transactions-payment-items.ensures.transactions
    ∙ ap (filled_of most_payments no_taking) (sym (map-map (taking_of c.args.sets.now.own.now s) view_transaction (take c.args.sets.now.pending.count c.args.sets.now.pending.transactions)))
