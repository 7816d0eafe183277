-- The facts behind the shape of a transaction or a block: from the test to the facts by name, and back.
use Rattle.std.specs.Prelude.{◌≤◌, Bool, List, [], ◌∷◌, T, leb, length}
use Rattle.std.proofs.Common.{leb→le, le→leb}
use Rattle.sets.specs.Sets.{all, ascending}
use Rattle.sets.specs.Walks.{every_facts, every_holds}
use Rattle.rules.specs.Sizes.{largest_amount, fewest_inputs, most_inputs, most_outputs, most_transactions}
use Rattle.rules.specs.Chain.{before_reference, before_output, Transaction, before_transaction, Block, shaped_transaction, shaped_block}

pub record Shaped (t : Transaction) : Type 0 where
  pub enough_inputs : fewest_inputs ≤ length t.inputs
  pub inputs_fit : length t.inputs ≤ most_inputs
  pub outputs_fit : length t.outputs ≤ most_outputs
  pub inputs_ascend : T (ascending before_reference t.inputs)
  pub outputs_ascend : T (ascending before_output t.outputs)
  pub amounts_fit : T (all (λ o. leb o.amount largest_amount) t.outputs)

abbrev shape : Transaction → List Bool
shape t =
    leb fewest_inputs (length t.inputs)
    ∷ leb (length t.inputs) most_inputs
    ∷ leb (length t.outputs) most_outputs
    ∷ ascending before_reference t.inputs
    ∷ ascending before_output t.outputs
    ∷ all (λ o. leb o.amount largest_amount) t.outputs
    ∷ []

pub shaped_facts : (t : Transaction) → T (shaped_transaction t) → Shaped t
unfolding shaped_transaction
shaped_facts t h =
    let f = every_facts (shape t) h in
    record {
      enough_inputs = leb→le fewest_inputs (length t.inputs) f.0;
      inputs_fit = leb→le (length t.inputs) most_inputs f.1.0;
      outputs_fit = leb→le (length t.outputs) most_outputs f.1.1.0;
      inputs_ascend = f.1.1.1.0;
      outputs_ascend = f.1.1.1.1.0;
      amounts_fit = f.1.1.1.1.1.0;
    }

pub shaped : (t : Transaction) → Shaped t → T (shaped_transaction t)
unfolding shaped_transaction
shaped t f =
    every_holds (shape t) (
      le→leb fewest_inputs (length t.inputs) f.enough_inputs,
      (
        le→leb (length t.inputs) most_inputs f.inputs_fit,
        (
          le→leb (length t.outputs) most_outputs f.outputs_fit,
          (f.inputs_ascend, (f.outputs_ascend, (f.amounts_fit, tt))),
        ),
      ),
    )

pub record ShapedBlock (b : Block) : Type 0 where
  pub block_fits : length b ≤ most_transactions
  pub each_shaped : T (all shaped_transaction b)
  pub block_ascends : T (ascending before_transaction b)

abbrev block_shape : Block → List Bool
block_shape b = leb (length b) most_transactions ∷ all shaped_transaction b ∷ ascending before_transaction b ∷ []

pub shaped_block_facts : (b : Block) → T (shaped_block b) → ShapedBlock b
unfolding shaped_block
shaped_block_facts b h =
    let f = every_facts (block_shape b) h in
    record { block_fits = leb→le (length b) most_transactions f.0; each_shaped = f.1.0; block_ascends = f.1.1.0 }

pub shaped_block_lem : (b : Block) → ShapedBlock b → T (shaped_block b)
unfolding shaped_block
shaped_block_lem b f =
    every_holds (block_shape b) (le→leb (length b) most_transactions f.block_fits, (f.each_shaped, (f.block_ascends, tt)))
