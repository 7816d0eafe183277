-- Wallets that are alike in every place, used or not, and lists that hold nothing in any place.
use Rattle.std.specs.Prelude.{Bool, ◌&&◌, [], ◌∷◌, eqb}
use Rattle.sets.specs.Sets.{every, all, same_list}
use Rattle.rules.specs.declared.Entry.{Entry}
use Rattle.rules.specs.Chain.{same_reference}
use Rattle.chain.specs.declared.Block.{Block}
use Rattle.chain.specs.View.{no_transaction, same_struct}
use Rattle.pool.specs.declared.Held.{Held}
use Rattle.pool.specs.declared.Payment.{Payment}
use Rattle.flat.specs.Flat.{Made}
use Rattle.flat.specs.Flat.{zero_entry}
use Rattle.wallet.specs.declared.Wallet.{Wallet}

abbrev pub alike_entry : Entry → Entry → Bool
alike_entry a b =
    same_reference a.reference b.reference && eqb a.address b.address && eqb a.amount b.amount

abbrev pub alike_held : Held → Held → Bool
alike_held a b = alike_entry a.entry b.entry && eqb a.utxo b.utxo && eqb a.expected b.expected

abbrev pub alike_payment : Payment → Payment → Bool
alike_payment a b = same_struct a.transaction b.transaction && eqb a.pending b.pending

unfoldable pub alike : Wallet → Wallet → Bool
alike w v =
    every
    (same_list eqb w.pool.own v.pool.own
    ∷ same_list alike_held w.pool.entries v.pool.entries
    ∷ same_list alike_payment w.pool.payments v.pool.payments
    ∷ eqb w.pool.owns v.pool.owns
    ∷ eqb w.pool.below v.pool.below
    ∷ eqb w.pool.used v.pool.used
    ∷ eqb w.pool.paying v.pool.paying
    ∷ [])

-- what an unused place of a list of entries holds
abbrev pub no_entry : Entry → Bool
no_entry e = alike_entry e zero_entry

abbrev pub no_entries : Made → Bool
no_entries m = all no_entry m.items && eqb m.count 0

abbrev pub no_payments : Block → Bool
no_payments b = all no_transaction b.transactions && eqb b.count 0
