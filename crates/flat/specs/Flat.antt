-- Lists laid flat into fixed memory, zeros behind, and the place at which a reference stands in a list.
use Rattle.std.specs.Prelude.{ℕ, suc, Bool, false, cond, List, [], ◌∷◌}
use Rattle.rules.specs.declared.Reference.{Reference}
use Rattle.rules.specs.declared.Entry.{Entry}
use Rattle.rules.specs.Sizes.{most_references, most_transactions}
use Rattle.rules.specs.Chain.{same_reference}
use Rattle.chain.specs.View.{zero_reference, zero_transaction}
use Rattle.chain.specs.declared.Transaction.{Transaction}
use Rattle.chain.specs.declared.Block.{Block}
use Rattle.fixed.specs.declared.Filled.{Filled}
use Rattle.fixed.specs.Filled.{filled_of, items_in}

-- references, entries, places in another list, or whether each of some references was found
abbrev pub Refs : Type 0
Refs = Filled Reference most_references

abbrev pub Made : Type 0
Made = Filled Entry most_references

abbrev pub Places : Type 0
Places = Filled ℕ most_references

abbrev pub Found : Type 0
Found = Filled Bool most_references

abbrev pub zero_entry : Entry
zero_entry = record { reference = zero_reference; address = 0; amount = 0 }

-- a list in its places
abbrev pub refs_of : List Reference → Refs
refs_of l = filled_of most_references zero_reference l

abbrev pub made_of : List Entry → Made
made_of l = filled_of most_references zero_entry l

abbrev pub places_of : List ℕ → Places
places_of l = filled_of most_references 0 l

abbrev pub found_of : List Bool → Found
found_of l = filled_of most_references false l

abbrev pub as_block : Filled Transaction most_transactions → Block
as_block f = record { transactions = f.items; count = f.count }

abbrev pub block_of : List Transaction → Block
block_of l = as_block (filled_of most_transactions zero_transaction l)

-- and back: the first places, as many as the count says
abbrev pub refs_in : Refs → List Reference
refs_in r = items_in r

abbrev pub made_in : Made → List Entry
made_in m = items_in m

-- the place of the first same reference; the length where there is none
abbrev pub seek : Reference → List Reference → ℕ
seek r [] = 0
seek r (x ∷ l) = let later = seek r l in cond (same_reference r x) 0 (suc later)
