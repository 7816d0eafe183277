-- The parts of the soundness test, as they are asked of one entry and of one payment.
use Rattle.std.specs.Prelude.{ℕ, suc, ◌-◌, ◌^◌, Bool, true, not, cond, ◌&&◌, List, [], ◌∷◌, eqb, leb, ltb, take, drop}
use Rattle.sets.specs.Sets.{every, all, ascending}
use Rattle.rules.specs.declared.Entry.{Entry}
use Rattle.rules.specs.Sizes.{largest_amount, most_own, most_states, most_payments, most_references}
use Rattle.rules.specs.Chain.{is_own, same_entry, same_value, shaped_own}
use Rattle.chain.specs.View.{good_transaction}
use Rattle.pool.specs.declared.Held.{Held}
use Rattle.pool.specs.declared.Payment.{Payment}
use Rattle.pool.specs.declared.Pool.{Pool}
use Rattle.pool.specs.Marks.{apart_marks}
use Rattle.pool.specs.View.{entries_of, payments_of}
use Rattle.pool.specs.Good.{no_held, no_payment, before_held, before_payment}

-- an entry: its marks below the limit and at least one, its amount within the size, own, and not in both sets of a state
abbrev pub held_test : ℕ → List ℕ → Held → Bool
held_test limit own h =
    every
    (ltb h.utxo limit
    ∷ ltb h.expected limit
    ∷ not (eqb h.utxo 0 && eqb h.expected 0)
    ∷ leb h.entry.amount largest_amount
    ∷ is_own own h.entry
    ∷ apart_marks most_states h.utxo h.expected
    ∷ [])

-- a payment: its marks below the limit and at least one, and its transaction laid out and shaped
abbrev pub payment_test : ℕ → Payment → Bool
payment_test limit p = ltb p.pending limit && not (eqb p.pending 0) && good_transaction p.transaction

-- the own list and the entries: all that is asked of them
abbrev pub entries_list : Pool → List Bool
entries_list w =
    leb w.owns most_own
    ∷ leb w.used most_references
    ∷ leb w.below (most_states - 1)
    ∷ shaped_own (take w.owns w.own)
    ∷ all (λ a. eqb a 0) (drop w.owns w.own)
    ∷ all no_held (drop w.used w.entries)
    ∷ ascending before_held (entries_of w)
    ∷ all (held_test (2 ^ suc w.below) (take w.owns w.own)) (entries_of w)
    ∷ []

unfoldable pub entries_part : Pool → Bool
entries_part w = every (entries_list w)

-- the payments: all that is asked of them
abbrev pub payments_list : Pool → List Bool
payments_list w =
    leb w.paying most_payments
    ∷ leb w.below (most_states - 1)
    ∷ all no_payment (drop w.paying w.payments)
    ∷ ascending before_payment (payments_of w)
    ∷ all (payment_test (2 ^ suc w.below)) (payments_of w)
    ∷ []

unfoldable pub payments_part : Pool → Bool
payments_part w = every (payments_list w)

-- an output agrees with the first entry of its reference, if there is one
abbrev pub agrees_first : Entry → List Held → Bool
agrees_first o [] = true
agrees_first o (h ∷ l) = let later = agrees_first o l in cond (same_entry o h.entry) (same_value o h.entry) later
