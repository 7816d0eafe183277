-- When a wallet struct is sound: laid out as the pool asks, and its view sound by the rules. And the test that the code
-- makes of the pool itself, which comes to the same.
use Rattle.std.specs.Prelude.{ℕ, suc, ◌-◌, ◌^◌, Bool, not, ◌&&◌, [], ◌∷◌, map, eqb, leb, ltb, length, take, drop}
use Rattle.sets.specs.Sets.{every, all, ascending}
use Rattle.rules.specs.Sizes.{largest_amount, most_own, most_states, most_payments, most_references}
use Rattle.rules.specs.Chain.{before_entry, before_number, made, is_own, shaped_own, shaped_transaction}
use Rattle.rules.specs.Sound.{sound, agree}
use Rattle.chain.specs.View as ChainView
use Rattle.chain.specs.View.{view_transaction, no_reference, no_transaction}
use Rattle.pool.specs.declared.Held.{Held}
use Rattle.pool.specs.declared.Payment.{Payment}
use Rattle.pool.specs.declared.Pool.{Pool}
use Rattle.pool.specs.Marks.{apart_marks}
use Rattle.pool.specs.View.{entries_of, payments_of, view}

-- what an unused place holds
abbrev pub no_held : Held → Bool
no_held h =
    no_reference h.entry.reference
    && eqb h.entry.address 0
    && eqb h.entry.amount 0
    && eqb h.utxo 0
    && eqb h.expected 0

abbrev pub no_payment : Payment → Bool
no_payment p = no_transaction p.transaction && eqb p.pending 0

-- entries ascend by reference, payments by number
abbrev pub before_held : Held → Held → Bool
before_held a b = before_entry a.entry b.entry

abbrev pub before_payment : Payment → Payment → Bool
before_payment a b = before_number a.transaction.number b.transaction.number

-- at least one mark, and none at or above n
abbrev pub held_fits : ℕ → Held → Bool
held_fits n h = ltb h.utxo (2 ^ n) && ltb h.expected (2 ^ n) && not (eqb h.utxo 0 && eqb h.expected 0)

abbrev pub payment_fits : ℕ → Payment → Bool
payment_fits n p = ltb p.pending (2 ^ n) && not (eqb p.pending 0) && ChainView.laid_out p.transaction

unfoldable pub laid_out : Pool → Bool
laid_out w =
    every
    (eqb (length w.own) most_own
    ∷ leb w.owns most_own
    ∷ all (λ a. eqb a 0) (drop w.owns w.own)
    ∷ leb w.below (most_states - 1)
    ∷ eqb (length w.entries) most_references
    ∷ leb w.used most_references
    ∷ all no_held (drop w.used w.entries)
    ∷ ascending before_held (entries_of w)
    ∷ all (held_fits (suc w.below)) (entries_of w)
    ∷ eqb (length w.payments) most_payments
    ∷ leb w.paying most_payments
    ∷ all no_payment (drop w.paying w.payments)
    ∷ ascending before_payment (payments_of w)
    ∷ all (payment_fits (suc w.below)) (payments_of w)
    ∷ [])

-- A wallet struct is sound.
unfoldable pub good : Pool → Bool
good w = laid_out w && sound (view w)

-- what is left of the paper's paragraph once the layout holds, asked of the pool
unfoldable pub pool_sound : Pool → Bool
pool_sound w =
    every
    (shaped_own (take w.owns w.own)
    ∷ all (λ h. leb h.entry.amount largest_amount) (entries_of w)
    ∷ all (λ h. is_own (take w.owns w.own) h.entry) (entries_of w)
    ∷ all (λ h. apart_marks most_states h.utxo h.expected) (entries_of w)
    ∷ all (λ p. shaped_transaction (view_transaction p.transaction)) (payments_of w)
    ∷ all
    (λ o. all (λ h. agree o h.entry) (entries_of w))
    (made (map (λ p. view_transaction p.transaction) (payments_of w)))
    ∷ [])
