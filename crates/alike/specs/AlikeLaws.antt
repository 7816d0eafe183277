-- The tests tell no more and no less: a wallet is alike itself, and alike wallets are equal; a list that holds nothing is the
-- list of nothing.
use Rattle.std.specs.Prelude.{ℕ, ◌≡◌, refl, Bool, ◌&&◌, List, [], ◌∷◌, T, eqb, length, replicate}
use Rattle.std.specs.Cmp.Lexicographic.{pointwise}
use Rattle.std.proofs.Common.{subst, eqb→eq, arith}
use Rattle.std.proofs.Math.Dec.{eqb_refl}
use Rattle.sets.specs.Sets.{all, same_list}
use Rattle.sets.specs.Tests.{and_left, and_right, and_both}
use Rattle.sets.specs.Laws.{same_list_refl, same_list_eq}
use Rattle.sets.specs.Walks.{every_facts, every_holds, all_one}
use Rattle.rules.specs.declared.Entry.{Entry}
use Rattle.rules.specs.Sizes.{most_references, most_transactions}
use Rattle.rules.specs.declared.Output.{Output}
use Rattle.rules.specs.declared.Reference.{Reference}
use Rattle.rules.specs.Chain.{same_number, same_output, same_reference}
use Rattle.rules.specs.ChainLaws.{same_reference_refl, same_reference_eq}
use Rattle.chain.specs.declared.Block.{Block}
use Rattle.chain.specs.View.{zero_transaction, no_transaction, same_struct}
use Rattle.chain.specs.ViewLaws.{no_transaction_zero, same_struct_refl, same_struct_eq}
use Rattle.pool.specs.declared.Held.{Held}
use Rattle.pool.specs.declared.Payment.{Payment}
use Rattle.flat.specs.Flat.{Made}
use Rattle.flat.specs.Flat.{zero_entry, made_of, block_of}
use Rattle.wallet.specs.declared.Wallet.{Wallet}
use Rattle.alike.specs.Alike.{alike, alike_entry, alike_held, alike_payment, no_entry, no_entries, no_payments}

alike_entry_eq : (a b : Entry) → T (alike_entry a b) → a ≡ b
alike_entry_eq a b t =
    let sum = eqb a.amount b.amount in
    let to = eqb a.address b.address in
    let first = and_left (same_reference a.reference b.reference && to) sum t in
    let x = same_reference_eq a.reference b.reference (and_left (same_reference a.reference b.reference) to first) in
    let y = eqb→eq a.address b.address (and_right (same_reference a.reference b.reference) to first) in
    let z = eqb→eq a.amount b.amount (and_right (same_reference a.reference b.reference && to) sum t) in
    λ i. record { reference = x i; address = y i; amount = z i }

alike_held_eq : (a b : Held) → T (alike_held a b) → a ≡ b
alike_held_eq a b t =
    let entry = alike_entry a.entry b.entry in
    let utxo = eqb a.utxo b.utxo in
    let expected = eqb a.expected b.expected in
    let first = and_left (entry && utxo) expected t in
    let x = alike_entry_eq a.entry b.entry (and_left entry utxo first) in
    let y = eqb→eq a.utxo b.utxo (and_right entry utxo first) in
    let z = eqb→eq a.expected b.expected (and_right (entry && utxo) expected t) in
    λ i. record { entry = x i; utxo = y i; expected = z i }

alike_payment_eq : (a b : Payment) → T (alike_payment a b) → a ≡ b
alike_payment_eq a b t =
    let transaction = same_struct a.transaction b.transaction in
    let pending = eqb a.pending b.pending in
    let x = same_struct_eq a.transaction b.transaction (and_left transaction pending t) in
    let y = eqb→eq a.pending b.pending (and_right transaction pending t) in
    λ i. record { transaction = x i; pending = y i }

-- all that two wallets are asked
abbrev asked : Wallet → Wallet → List Bool
asked w v =
    same_list eqb w.pool.own v.pool.own
    ∷ same_list alike_held w.pool.entries v.pool.entries
    ∷ same_list alike_payment w.pool.payments v.pool.payments
    ∷ eqb w.pool.owns v.pool.owns
    ∷ eqb w.pool.below v.pool.below
    ∷ eqb w.pool.used v.pool.used
    ∷ eqb w.pool.paying v.pool.paying
    ∷ []

pub alike_eq : (w v : Wallet) → T (alike w v) → w ≡ v
unfolding alike
alike_eq w v t =
    let f = every_facts (asked w v) t in
    let own = same_list_eq eqb eqb→eq w.pool.own v.pool.own f.0 in
    let entries = same_list_eq alike_held alike_held_eq w.pool.entries v.pool.entries f.1.0 in
    let payments = same_list_eq alike_payment alike_payment_eq w.pool.payments v.pool.payments f.1.1.0 in
    let owns = eqb→eq w.pool.owns v.pool.owns f.1.1.1.0 in
    let below = eqb→eq w.pool.below v.pool.below f.1.1.1.1.0 in
    let used = eqb→eq w.pool.used v.pool.used f.1.1.1.1.1.0 in
    let paying = eqb→eq w.pool.paying v.pool.paying f.1.1.1.1.1.1.0 in
    λ i.
    record {
      pool =
          record {
            own = own i;
            owns = owns i;
            below = below i;
            entries = entries i;
            used = used i;
            payments = payments i;
            paying = paying i;
          };
    }

alike_entry_refl : (a : Entry) → T (alike_entry a a)
alike_entry_refl a =
    let to = eqb a.address a.address in
    let sum = eqb a.amount a.amount in
    let same = same_reference a.reference a.reference in
    and_both (same && to) sum
    (and_both same to (same_reference_refl a.reference) (eqb_refl a.address))
    (eqb_refl a.amount)

alike_held_refl : (a : Held) → T (alike_held a a)
alike_held_refl a =
    let entry = alike_entry a.entry a.entry in
    let utxo = eqb a.utxo a.utxo in
    and_both (entry && utxo) (eqb a.expected a.expected)
    (and_both entry utxo (alike_entry_refl a.entry) (eqb_refl a.utxo))
    (eqb_refl a.expected)

alike_payment_refl : (a : Payment) → T (alike_payment a a)
alike_payment_refl a =
    and_both (same_struct a.transaction a.transaction) (eqb a.pending a.pending)
    (same_struct_refl a.transaction)
    (eqb_refl a.pending)

pub alike_refl : (w : Wallet) → T (alike w w)
unfolding alike
alike_refl w =
    let p = w.pool in
    every_holds (asked w w) (
      same_list_refl eqb eqb_refl p.own,
      (
        same_list_refl alike_held alike_held_refl p.entries,
        (
          same_list_refl alike_payment alike_payment_refl p.payments,
          (eqb_refl p.owns, (eqb_refl p.below, (eqb_refl p.used, (eqb_refl p.paying, tt)))),
        ),
      ),
    )

-- arrays of their lengths that hold nothing are those of the empty list

pub no_entries_none : (m : Made) → length m.items ≡ most_references → T (no_entries m) → m ≡ made_of []
no_entries_none m n t =
    let empty = all no_entry m.items in
    let entries : m.items ≡ replicate most_references zero_entry =
    subst (λ (k : ℕ). m.items ≡ replicate k zero_entry) n
    (all_one no_entry zero_entry (λ (e : Entry). alike_entry_eq e zero_entry) m.items (and_left empty (eqb m.count 0) t))
    in
    let count = eqb→eq m.count 0 (and_right empty (eqb m.count 0) t) in
    λ i. record { items = entries i; count = count i }

pub no_payments_none : (b : Block) → length b.transactions ≡ most_transactions → T (no_payments b) → b ≡ block_of []
no_payments_none b n t =
    let empty = all no_transaction b.transactions in
    let transactions : b.transactions ≡ replicate most_transactions zero_transaction =
    subst (λ (k : ℕ). b.transactions ≡ replicate k zero_transaction) n
    (all_one no_transaction zero_transaction no_transaction_zero b.transactions (and_left empty (eqb b.count 0) t))
    in
    let count = eqb→eq b.count 0 (and_right empty (eqb b.count 0) t) in
    λ i. record { transactions = transactions i; count = count i }

-- ── `==` of the structs, place by place, is the test of the definitions

-- lists compared place by place, as `==` compares arrays, are compared as lists are
same_places : {A : Type 0} (e same : A → A → Bool) → ((x y : A) → e x y ≡ same x y) → (l m : List A) → pointwise e l m ≡ same_list same l m
same_places e same one [] [] = refl
same_places e same one [] (y ∷ m) = refl
same_places e same one (x ∷ l) [] = refl
same_places e same one (x ∷ l) (y ∷ m) = rw (one x y, same_places e same one l m) refl

-- of two payments
pub same_payments :
    {number : Bool} {e : Reference → Reference → Bool} {f : Output → Output → Bool} (a b : Payment) →
    number ≡ same_number a.transaction.number b.transaction.number → ((x y : Reference) → e x y ≡ same_reference x y) → ((x y : Output) → f x y ≡ same_output x y) →
    ((number
    && (pointwise e a.transaction.inputs b.transaction.inputs
    && (eqb a.transaction.takes b.transaction.takes
    && (pointwise f a.transaction.outputs b.transaction.outputs && eqb a.transaction.makes b.transaction.makes))))
    && eqb a.pending b.pending)
    ≡ alike_payment a b
unfolding same_struct
same_payments {e = e} {f} a b n p q =
    let inputs = same_places e same_reference p a.transaction.inputs b.transaction.inputs in
    let outputs = same_places f same_output q a.transaction.outputs b.transaction.outputs in
    grind (arith, n, inputs, outputs)

-- of two pools
pub same_pools :
    {r : Bool} {e : ℕ → ℕ → Bool} {f : Held → Held → Bool} {g : Payment → Payment → Bool} (w v : Wallet) →
    r ≡ (pointwise e w.pool.own v.pool.own && (eqb w.pool.owns v.pool.owns && (eqb w.pool.below v.pool.below && (pointwise f w.pool.entries v.pool.entries && (eqb w.pool.used v.pool.used && (pointwise g w.pool.payments v.pool.payments && eqb w.pool.paying v.pool.paying)))))) →
    ((x y : ℕ) → e x y ≡ eqb x y) → ((x y : Held) → f x y ≡ alike_held x y) → ((x y : Payment) → g x y ≡ alike_payment x y) →
    r ≡ alike w v
unfolding alike
same_pools {e = e} {f} {g} w v h p q o =
    let own = same_places e eqb p w.pool.own v.pool.own in
    let entries = same_places f alike_held q w.pool.entries v.pool.entries in
    let payments = same_places g alike_payment o w.pool.payments v.pool.payments in
    grind (arith, h, own, entries, payments)
