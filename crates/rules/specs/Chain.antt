-- Numbers, references, outputs, transactions and blocks, and when they are shaped as the paper says.
use Rattle.std.specs.Prelude.{ℕ, Bool, ◌&&◌, ◌||◌, List, [], ◌∷◌, map, eqb, leb, ltb, length}
use Rattle.sets.specs.Sets.{every, any, all, total, ascending, same_list, gather}
use Rattle.rules.specs.declared.Number.{Number}
use Rattle.rules.specs.declared.Reference.{Reference}
use Rattle.rules.specs.declared.Output.{Output}
use Rattle.rules.specs.declared.Entry.{Entry}
use Rattle.rules.specs.Sizes.{largest_amount, most_own, fewest_inputs, most_inputs, most_outputs, most_transactions}

-- Transaction numbers: their sameness and their order. Nothing else looks inside a number.
unfoldable pub same_number : Number → Number → Bool
same_number a b = eqb a.serial b.serial

unfoldable pub before_number : Number → Number → Bool
before_number a b = ltb a.serial b.serial

-- A reference is a transaction number and an index; references ascend by number, then index.
abbrev pub same_reference : Reference → Reference → Bool
same_reference a b = same_number a.number b.number && eqb a.index b.index

abbrev pub before_reference : Reference → Reference → Bool
before_reference a b =
    before_number a.number b.number || same_number a.number b.number && ltb a.index b.index

-- Outputs ascend by index.
abbrev pub same_output : Output → Output → Bool
same_output a b = eqb a.index b.index && eqb a.address b.address && eqb a.amount b.amount

abbrev pub before_output : Output → Output → Bool
before_output a b = ltb a.index b.index

-- Entries of a set are the same by their reference, and ascend by it.
abbrev pub same_entry : Entry → Entry → Bool
same_entry a b = same_reference a.reference b.reference

abbrev pub before_entry : Entry → Entry → Bool
before_entry a b = before_reference a.reference b.reference

-- the same address and amount
abbrev pub same_value : Entry → Entry → Bool
same_value a b = eqb a.address b.address && eqb a.amount b.amount

pub record Transaction : Type 0 where
  pub number : Number
  pub inputs : List Reference
  pub outputs : List Output

-- Transactions are the same by their whole content, and ascend by number.
unfoldable pub same_transaction : Transaction → Transaction → Bool
same_transaction a b =
    same_number a.number b.number
    && same_list same_reference a.inputs b.inputs
    && same_list same_output a.outputs b.outputs

abbrev pub before_transaction : Transaction → Transaction → Bool
before_transaction a b = before_number a.number b.number

abbrev pub Block : Type 0
Block = List Transaction

-- an output of the transaction with a number, as an entry
abbrev pub entry_of : Number → Output → Entry
entry_of n o = record { reference = record { number = n; index = o.index }; address = o.address; amount = o.amount }

-- all that a transaction makes, own or not
abbrev pub makes : Transaction → List Entry
makes t = map (entry_of t.number) t.outputs

-- all that some transactions make, and all that they spend
abbrev pub made : List Transaction → List Entry
made l = gather makes l

abbrev pub spent : List Transaction → List Reference
spent l = gather (λ t. t.inputs) l

-- the lovelace of a list of entries
abbrev pub worth : List Entry → ℕ
worth l = total (λ e. e.amount) l

-- Shape: counts and amounts within the sizes, inputs, outputs and a block's transactions strictly ascending.
unfoldable pub shaped_transaction : Transaction → Bool
shaped_transaction t =
    every
    (leb fewest_inputs (length t.inputs)
    ∷ leb (length t.inputs) most_inputs
    ∷ leb (length t.outputs) most_outputs
    ∷ ascending before_reference t.inputs
    ∷ ascending before_output t.outputs
    ∷ all (λ o. leb o.amount largest_amount) t.outputs
    ∷ [])

unfoldable pub shaped_block : Block → Bool
shaped_block b =
    every
    (leb (length b) most_transactions
    ∷ all shaped_transaction b
    ∷ ascending before_transaction b
    ∷ [])

-- Own addresses: not too many, strictly ascending.
unfoldable pub shaped_own : List ℕ → Bool
shaped_own own = leb (length own) most_own && ascending ltb own

-- An entry is own when its address is in the list given at opening.
unfoldable pub is_own : List ℕ → Entry → Bool
is_own own e = any (eqb e.address) own
