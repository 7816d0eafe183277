-- The facts behind each test of a transaction or a block: from the test to the facts by name, and back.
use Rattle.std.specs.Prelude.{◌≤◌, ◌≡◌, Bool, List, [], ◌∷◌, T, eqb, leb, length, take, drop}
use Rattle.std.proofs.Common.{eqb→eq, leb→le, le→leb}
use Rattle.sets.specs.Tests.{equal_holds}
use Rattle.sets.specs.Sets.{all, same_list}
use Rattle.sets.specs.Walks.{every_facts, every_holds}
use Rattle.rules.specs.Sizes.{most_inputs, most_outputs, most_transactions}
use Rattle.rules.specs.Chain.{same_number, same_reference, same_output}
use Rattle.chain.specs.View.{no_number, no_reference, no_output, laid_out, no_transaction, laid_out_block, same_struct}
use Rattle.chain.specs.declared.Transaction.{Transaction}
use Rattle.chain.specs.declared.Block.{Block}

-- ── a transaction laid out

pub record LaidOut (t : Transaction) : Type 0 where
  pub input_places : length t.inputs ≡ most_inputs
  pub output_places : length t.outputs ≡ most_outputs
  pub takes_fit : t.takes ≤ most_inputs
  pub makes_fit : t.makes ≤ most_outputs
  pub inputs_end : T (all no_reference (drop t.takes t.inputs))
  pub outputs_end : T (all no_output (drop t.makes t.outputs))

abbrev layout : Transaction → List Bool
layout t =
    eqb (length t.inputs) most_inputs
    ∷ eqb (length t.outputs) most_outputs
    ∷ leb t.takes most_inputs
    ∷ leb t.makes most_outputs
    ∷ all no_reference (drop t.takes t.inputs)
    ∷ all no_output (drop t.makes t.outputs)
    ∷ []

pub laid_out_facts : (t : Transaction) → T (laid_out t) → LaidOut t
unfolding laid_out
laid_out_facts t h =
    let f = every_facts (layout t) h in
    record {
      input_places = eqb→eq (length t.inputs) most_inputs f.0;
      output_places = eqb→eq (length t.outputs) most_outputs f.1.0;
      takes_fit = leb→le t.takes most_inputs f.1.1.0;
      makes_fit = leb→le t.makes most_outputs f.1.1.1.0;
      inputs_end = f.1.1.1.1.0;
      outputs_end = f.1.1.1.1.1.0;
    }

pub laid_out_lem : (t : Transaction) → LaidOut t → T (laid_out t)
unfolding laid_out
laid_out_lem t f =
    every_holds (layout t) (
      equal_holds (length t.inputs) most_inputs f.input_places,
      (
        equal_holds (length t.outputs) most_outputs f.output_places,
        (
          le→leb t.takes most_inputs f.takes_fit,
          (le→leb t.makes most_outputs f.makes_fit, (f.inputs_end, (f.outputs_end, tt))),
        ),
      ),
    )

-- ── a place that holds no transaction

pub record Unused (t : Transaction) : Type 0 where
  pub number_none : T (no_number t.number)
  pub takes_none : t.takes ≡ 0
  pub makes_none : t.makes ≡ 0
  pub input_places : length t.inputs ≡ most_inputs
  pub output_places : length t.outputs ≡ most_outputs
  pub inputs_none : T (all no_reference t.inputs)
  pub outputs_none : T (all no_output t.outputs)

abbrev absence : Transaction → List Bool
absence t =
    no_number t.number
    ∷ eqb t.takes 0
    ∷ eqb t.makes 0
    ∷ eqb (length t.inputs) most_inputs
    ∷ eqb (length t.outputs) most_outputs
    ∷ all no_reference t.inputs
    ∷ all no_output t.outputs
    ∷ []

pub unused_facts : (t : Transaction) → T (no_transaction t) → Unused t
unfolding no_transaction
unused_facts t h =
    let f = every_facts (absence t) h in
    record {
      number_none = f.0;
      takes_none = eqb→eq t.takes 0 f.1.0;
      makes_none = eqb→eq t.makes 0 f.1.1.0;
      input_places = eqb→eq (length t.inputs) most_inputs f.1.1.1.0;
      output_places = eqb→eq (length t.outputs) most_outputs f.1.1.1.1.0;
      inputs_none = f.1.1.1.1.1.0;
      outputs_none = f.1.1.1.1.1.1.0;
    }

pub unused : (t : Transaction) → Unused t → T (no_transaction t)
unfolding no_transaction
unused t f =
    every_holds (absence t) (
      f.number_none,
      (
        equal_holds t.takes 0 f.takes_none,
        (
          equal_holds t.makes 0 f.makes_none,
          (
            equal_holds (length t.inputs) most_inputs f.input_places,
            (equal_holds (length t.outputs) most_outputs f.output_places, (f.inputs_none, (f.outputs_none, tt))),
          ),
        ),
      ),
    )

-- ── a block laid out

pub record LaidOutBlock (b : Block) : Type 0 where
  pub places : length b.transactions ≡ most_transactions
  pub count_fits : b.count ≤ most_transactions
  pub each_laid_out : T (all laid_out (take b.count b.transactions))
  pub block_ends : T (all no_transaction (drop b.count b.transactions))

abbrev block_layout : Block → List Bool
block_layout b =
    eqb (length b.transactions) most_transactions
    ∷ leb b.count most_transactions
    ∷ all laid_out (take b.count b.transactions)
    ∷ all no_transaction (drop b.count b.transactions)
    ∷ []

pub laid_out_block_facts : (b : Block) → T (laid_out_block b) → LaidOutBlock b
unfolding laid_out_block
laid_out_block_facts b h =
    let f = every_facts (block_layout b) h in
    record {
      places = eqb→eq (length b.transactions) most_transactions f.0;
      count_fits = leb→le b.count most_transactions f.1.0;
      each_laid_out = f.1.1.0;
      block_ends = f.1.1.1.0;
    }

pub laid_out_block_lem : (b : Block) → LaidOutBlock b → T (laid_out_block b)
unfolding laid_out_block
laid_out_block_lem b f =
    every_holds (block_layout b) (
      equal_holds (length b.transactions) most_transactions f.places,
      (le→leb b.count most_transactions f.count_fits, (f.each_laid_out, (f.block_ends, tt))),
    )

-- ── two structs with one content

pub record SameStruct (a b : Transaction) : Type 0 where
  pub same_numbers : T (same_number a.number b.number)
  pub same_takes : a.takes ≡ b.takes
  pub same_makes : a.makes ≡ b.makes
  pub same_inputs : T (same_list same_reference a.inputs b.inputs)
  pub same_outputs : T (same_list same_output a.outputs b.outputs)

abbrev content : Transaction → Transaction → List Bool
content a b =
    same_number a.number b.number
    ∷ eqb a.takes b.takes
    ∷ eqb a.makes b.makes
    ∷ same_list same_reference a.inputs b.inputs
    ∷ same_list same_output a.outputs b.outputs
    ∷ []

pub same_struct_facts : (a b : Transaction) → T (same_struct a b) → SameStruct a b
unfolding same_struct
same_struct_facts a b h =
    let f = every_facts (content a b) h in
    record {
      same_numbers = f.0;
      same_takes = eqb→eq a.takes b.takes f.1.0;
      same_makes = eqb→eq a.makes b.makes f.1.1.0;
      same_inputs = f.1.1.1.0;
      same_outputs = f.1.1.1.1.0;
    }

pub same_struct_lem : (a b : Transaction) → SameStruct a b → T (same_struct a b)
unfolding same_struct
same_struct_lem a b f =
    every_holds (content a b) (
      f.same_numbers,
      (
        equal_holds a.takes b.takes f.same_takes,
        (equal_holds a.makes b.makes f.same_makes, (f.same_inputs, (f.same_outputs, tt))),
      ),
    )
