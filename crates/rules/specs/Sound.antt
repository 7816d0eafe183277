-- Sound: what a wallet state handed in must fulfil. Clause by clause in the paper's order; unused places belong to the
-- code's arrays and are not seen in the rules' lists.
use Rattle.std.specs.Prelude.{Bool, not, ◌&&◌, ◌||◌, List, [], ◌∷◌, ◌++◌, leb, length}
use Rattle.sets.specs.Sets.{every, all, has, ascending, gather}
use Rattle.rules.specs.declared.Entry.{Entry}
use Rattle.rules.specs.Sizes.{largest_amount, most_states, most_payments, most_references}
use Rattle.rules.specs.Chain.{same_number, same_entry, before_entry, same_value, Transaction, same_transaction, before_transaction, made, shaped_transaction, shaped_own, is_own}
use Rattle.rules.specs.States.{State, Wallet, states, with_entries, with_payments}

-- all that stands in the UTxO and expected sets of all held states, and all their pending payments
abbrev pub held_entries : Wallet → List Entry
held_entries w = gather (λ s. s.utxo ++ s.expected) (states w)

abbrev pub held_payments : Wallet → List Transaction
held_payments w = gather (λ s. s.pending) (states w)

-- The last two sizes: different pending payments and different references over all held states.
unfoldable pub too_many : Wallet → Bool
too_many w =
    not (leb (length (with_payments [] (held_payments w))) most_payments)
    || not (leb (length (with_entries [] (held_entries w))) most_references)

-- not one reference with two addresses or amounts
abbrev pub agree : Entry → Entry → Bool
agree a b = not (same_entry a b) || same_value a b

-- not one number with two contents
abbrev pub agreeing : Transaction → Transaction → Bool
agreeing a b = not (same_number a.number b.number) || same_transaction a b

unfoldable pub within_sizes : Wallet → Bool
within_sizes w =
    leb (length (states w)) most_states
    && not (too_many w)
    && all (λ e. leb e.amount largest_amount) (held_entries w)

unfoldable pub sets_in_order : State → Bool
sets_in_order s =
    ascending before_entry s.utxo
    && ascending before_transaction s.pending
    && ascending before_entry s.expected

abbrev pub sets_apart : State → Bool
sets_apart s = all (λ e. not (has same_entry e s.expected)) s.utxo

unfoldable pub sound : Wallet → Bool
sound w =
    every
    (within_sizes w
    -- the own addresses: their count, and that they ascend
    ∷ shaped_own w.own
    -- each set free of repeats in one fixed order
    ∷ all sets_in_order (states w)
    ∷ all shaped_transaction (held_payments w)
    -- every UTxO and expected reference own
    ∷ all (is_own w.own) (held_entries w)
    -- no reference in both sets of one state
    ∷ all sets_apart (states w)
    -- one reference has one address and amount throughout all states
    ∷ all (λ e. all (agree e) (held_entries w)) (held_entries w)
    -- pending payments with one number are equal throughout
    ∷ all (λ p. all (agreeing p) (held_payments w)) (held_payments w)
    -- a pending payment's output whose reference stands in a UTxO or expected set has the same address and amount
    ∷ all (λ o. all (agree o) (held_entries w)) (made (held_payments w))
    ∷ [])
