-- The structs that the code's readers hand back: for each reading the answer with the value beside it, zeros in every
-- place that is not used, and zeros throughout beside a fault.
use Rattle.std.specs.Prelude.{ℕ, List, map, length, replicate, Result, Ok, Err}
use Rattle.std.proofs.Math.Option.{none}
use Rattle.sets.specs.Fill.{filled}
use Rattle.chain.specs.View.{zero_reference, zero_output, zero_transaction}
use Rattle.rules.specs.declared.Number.{Number}
use Rattle.rules.specs.Sizes.{most_inputs, most_outputs, most_transactions}
use Rattle.rules.specs.Chain as Chain
use Rattle.chain.specs.declared.Transaction.{Transaction}
use Rattle.format.specs.Fields.{Reading, got, fault, Reader, done, ◌>>=◌, items}
use Rattle.format.specs.Bodies.{read_input, read_output, read_transaction}
use Rattle.feed.specs.Answers.{ItemReader, viewed}
use Rattle.feed.specs.declared.fields.Fault.{Fault}
use Rattle.feed.specs.declared.items.Read.{Read}

-- ── an answer, and the value beside it

module _ {A : Type 0} where
  abbrev pub answered : Reading A → Result ℕ Fault
  answered (got x next) = Ok next
  answered (fault place) = Err (record { place = place })

module _ {A S : Type 0} where
  abbrev pub valued : (A → S) → S → Reading A → S
  valued form z (got x next) = form x
  valued form z (fault place) = z

  -- what was read, in another form
  abbrev pub formed : (A → S) → Reading A → Reading S
  formed form (got x next) = got (form x) next
  formed form (fault place) = fault place

  abbrev pub read_as : (A → S) → S → Reading A → Read S
  read_as form z m = record { answer = answered m; value = valued form z m }

-- ── items in an array

abbrev pub items_read : {A : Type 0} → ℕ → A → Reading (List A) → Read (List A)
items_read n z m = read_as (filled n z) (replicate n z) m

-- a list in an array, with how many places are used
abbrev pub list_and_count : {A : Type 0} → ℕ → A → List A → List A × ℕ
list_and_count n z l = (filled n z l, length l)

-- ── transactions

-- a transaction in its struct
abbrev pub struct_of : Chain.Transaction → Transaction
struct_of t =
    record {
      number = t.number;
      inputs = filled most_inputs zero_reference t.inputs;
      takes = length t.inputs;
      outputs = filled most_outputs zero_output t.outputs;
      makes = length t.outputs;
    }

-- a transaction's lists, behind its number and its counts
unfoldable pub read_lists : Number → ℕ → ℕ → Reader Chain.Transaction
read_lists number takes makes = do
  inputs ← items read_input takes none
  outputs ← items read_output makes none
  done (record { number = number; inputs = inputs; outputs = outputs })

-- a transaction, read in view of the one that a struct holds
abbrev pub struct_reader : ItemReader Transaction
struct_reader last bytes place = formed struct_of (read_transaction (viewed last) bytes place)

abbrev pub transaction_read : Reading Chain.Transaction → Read Transaction
transaction_read m = read_as struct_of zero_transaction m

-- the places of a block
abbrev pub places_of : Chain.Block → List Transaction
places_of b = filled most_transactions zero_transaction (map struct_of b)
