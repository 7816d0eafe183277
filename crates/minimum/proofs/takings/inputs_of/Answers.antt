use Rattle.std.proofs.Common.{[], ◌∙◌, ap, map}
use Rattle.chain.specs.View.{zero_reference}
use Rattle.fixed.specs.Filled.{filled_of, with_item}
use Rattle.fixed.specs.Laws.{all_taken, map_pushed}
use Rattle.rules.specs.Sizes.{most_references}
use Rattle.minimum.specs.declared.takings.Input.{Input}
use Rattle.minimum.specs.Inputs.{input_of, state_of}
use Rattle.minimum.specs.Takings.{all_spent, input_read}
use Rattle.minimum.proofs.takings.inputs_of.Goals as goal

pub loop-i-init : goal.loop-i-init
loop-i-init c = c.none-inputs.ensures ∙ ap (λ (x : Input). filled_of most_references x []) c.no_input.ensures

pub loop-i-preserved : goal.loop-i-preserved
loop-i-preserved c =
    let read =
    input_read c.args.sets.now.own.now c.args.sets.now.utxo c.args.sets.now.expected c.args.sets.now.pending c.spent_of-slots.result c.made_of-made.result _ _
    c.as_slice-reference-items.result.now c.amounts_of-in_utxo.result c.amounts_of-in_expected.result c.amounts_of-in_own.result c.found-is_made.result
    c.made_of-made.ensures c.own_of.ensures c.made_refs.ensures c.amounts_of-in_utxo.ensures c.amounts_of-in_expected.ensures
    c.amounts_of-in_own.ensures c.found-is_made.ensures c.as_slice-reference-items.ensures.items c.loop-i.i c.loop-i-test.true
    in
    map_pushed _ _ (input_of c.args.sets.now.own.now (state_of c.args.sets.now.utxo c.args.sets.now.expected c.args.sets.now.pending)) c.as_slice-reference-items.result.now c.loop-i.i zero_reference
    _ _ c.loop-i.invariant c.loop-i-test.true c.as_slice-reference-items.ensures.most
    (c.push.ensures ∙ ap (with_item c.loop-i.inputs) (c.input_of.ensures ∙ read))

pub returns : goal.returns
returns c =
    all_taken _ _ (map (input_of c.args.sets.now.own.now (state_of c.args.sets.now.utxo c.args.sets.now.expected c.args.sets.now.pending))) _ _ c.loop-i.i _ c.loop-i.invariant
    c.loop-i-test.false
    (all_spent c.args.sets.now.pending c.spent_of-slots.result c.as_slice-reference-items.result.now c.spent_of-slots.ensures
    c.as_slice-reference-items.ensures.items)
