-- The available and the total balance of a state.
use Rattle.std.specs.Prelude.{ℕ, List, ◌++◌}
use Rattle.sets.specs.Sets.{once}
use Rattle.rules.specs.declared.Entry.{Entry}
use Rattle.rules.specs.Chain.{same_entry, worth, spent}
use Rattle.rules.specs.States.{State, without_references, own_made}

-- Available: the UTxO without every input of a pending payment.
unfoldable pub available : State → List Entry
available s = without_references (spent s.pending) s.utxo

-- Change: the own outputs of pending payments, without every input of a pending payment.
unfoldable pub change : List ℕ → State → List Entry
change own s = without_references (spent s.pending) (own_made own s.pending)

unfoldable pub available_balance : State → ℕ
available_balance s = worth (available s)

-- Total: available together with change, each reference once.
unfoldable pub total_balance : List ℕ → State → ℕ
total_balance own s = worth (once same_entry (available s ++ change own s))
