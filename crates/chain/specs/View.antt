-- The code's transactions and blocks, read as the rules': the first places, as many as the count says. Laid out as the
-- paper asks: counts that fit, and nothing in an unused place.
use Rattle.std.specs.Prelude.{Bool, ◌&&◌, [], ◌∷◌, map, eqb, leb, length, take, drop, replicate}
use Rattle.sets.specs.Sets.{every, all, same_list}
use Rattle.rules.specs.declared.Number.{Number}
use Rattle.rules.specs.declared.Reference.{Reference}
use Rattle.rules.specs.declared.Output.{Output}
use Rattle.rules.specs.Sizes.{most_inputs, most_outputs, most_transactions}
use Rattle.rules.specs.Chain as Chain
use Rattle.rules.specs.Chain.{same_number, before_number, same_reference, same_output, shaped_transaction, shaped_block}
use Rattle.chain.specs.declared.Transaction.{Transaction}
use Rattle.chain.specs.declared.Block.{Block}

-- what an unused place holds
abbrev pub zero_number : Number
zero_number = record { serial = 0 }

abbrev pub zero_reference : Reference
zero_reference = record { number = zero_number; index = 0 }

abbrev pub zero_output : Output
zero_output = record { index = 0; address = 0; amount = 0 }

abbrev pub zero_transaction : Transaction
zero_transaction =
    record {
      number = zero_number;
      inputs = replicate most_inputs zero_reference;
      takes = 0;
      outputs = replicate most_outputs zero_output;
      makes = 0;
    }

abbrev pub no_number : Number → Bool
no_number n = same_number n zero_number

abbrev pub no_reference : Reference → Bool
no_reference r = no_number r.number && eqb r.index 0

abbrev pub no_output : Output → Bool
no_output o = eqb o.index 0 && eqb o.address 0 && eqb o.amount 0

-- the transaction that a struct holds
abbrev pub view_transaction : Transaction → Chain.Transaction
view_transaction t =
    record {
      number = t.number;
      inputs = take t.takes t.inputs;
      outputs = take t.makes t.outputs;
    }

abbrev pub view_block : Block → Chain.Block
view_block b = map view_transaction (take b.count b.transactions)

unfoldable pub laid_out : Transaction → Bool
laid_out t =
    every
    (eqb (length t.inputs) most_inputs
    ∷ eqb (length t.outputs) most_outputs
    ∷ leb t.takes most_inputs
    ∷ leb t.makes most_outputs
    ∷ all no_reference (drop t.takes t.inputs)
    ∷ all no_output (drop t.makes t.outputs)
    ∷ [])

-- a place of a block that holds no transaction
unfoldable pub no_transaction : Transaction → Bool
no_transaction t =
    every
    (no_number t.number
    ∷ eqb t.takes 0
    ∷ eqb t.makes 0
    ∷ eqb (length t.inputs) most_inputs
    ∷ eqb (length t.outputs) most_outputs
    ∷ all no_reference t.inputs
    ∷ all no_output t.outputs
    ∷ [])

unfoldable pub laid_out_block : Block → Bool
laid_out_block b =
    every
    (eqb (length b.transactions) most_transactions
    ∷ leb b.count most_transactions
    ∷ all laid_out (take b.count b.transactions)
    ∷ all no_transaction (drop b.count b.transactions)
    ∷ [])

-- A struct whose layout is broken breaks the paper as one whose shape is: refusal 1.
unfoldable pub good_transaction : Transaction → Bool
good_transaction t = laid_out t && shaped_transaction (view_transaction t)

unfoldable pub good_block : Block → Bool
good_block b = laid_out_block b && shaped_block (view_block b)

-- two structs with the same content in every place
unfoldable pub same_struct : Transaction → Transaction → Bool
same_struct a b =
    every
    (same_number a.number b.number
    ∷ eqb a.takes b.takes
    ∷ eqb a.makes b.makes
    ∷ same_list same_reference a.inputs b.inputs
    ∷ same_list same_output a.outputs b.outputs
    ∷ [])

-- structs ascend by number
abbrev pub before_struct : Transaction → Transaction → Bool
before_struct a b = before_number a.number b.number
