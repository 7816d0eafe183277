-- A wallet struct read as the rules' wallet: each set of state k is what bears mark k, in the pool's order.
use Rattle.std.specs.Prelude.{ℕ, zero, suc, List, [], ◌∷◌, map, take}
use Rattle.sets.specs.Sets.{keep}
use Rattle.rules.specs.declared.Entry.{Entry}
use Rattle.rules.specs.Chain as Chain
use Rattle.rules.specs.States as States
use Rattle.rules.specs.States.{State}
use Rattle.chain.specs.View.{view_transaction}
use Rattle.pool.specs.declared.Held.{Held}
use Rattle.pool.specs.declared.Payment.{Payment}
use Rattle.pool.specs.declared.Pool.{Pool}
use Rattle.pool.specs.Marks.{marked}

-- the used places
abbrev pub entries_of : Pool → List Held
entries_of w = take w.used w.entries

abbrev pub payments_of : Pool → List Payment
payments_of w = take w.paying w.payments

abbrev pub utxo_at : ℕ → List Held → List Entry
utxo_at k l = map (λ h. h.entry) (keep (λ h. marked k h.utxo) l)

abbrev pub expected_at : ℕ → List Held → List Entry
expected_at k l = map (λ h. h.entry) (keep (λ h. marked k h.expected) l)

abbrev pub pending_at : ℕ → List Payment → List Chain.Transaction
pending_at k l = map (λ p. view_transaction p.transaction) (keep (λ p. marked k p.pending) l)

abbrev pub state_at : ℕ → List Held → List Payment → State
state_at k es ps = record { utxo = utxo_at k es; pending = pending_at k ps; expected = expected_at k es }

-- n states, from mark k on
abbrev pub states_from : ℕ → ℕ → List Held → List Payment → List State
states_from k zero es ps = []
states_from k (suc n) es ps = state_at k es ps ∷ states_from (suc k) n es ps

-- the wallet of an own list, n states below the present one, and the pool's entries and payments
abbrev pub view_of : List ℕ → ℕ → List Held → List Payment → States.Wallet
view_of own n es ps = record { own = own; present = state_at 0 es ps; below = states_from 1 n es ps }

abbrev pub view : Pool → States.Wallet
view w = view_of (take w.owns w.own) w.below (entries_of w) (payments_of w)
