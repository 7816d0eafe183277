-- The pool after a step, put together from the lists that the code lays flat, is the booked pool.
use Rattle.std.specs.Prelude.{Option, Some, None, unwrap_or, ℕ, ◌+◌, ◌-◌, ◌*◌, ◌≤◌, min, ◌≡◌, refl, Bool, true, false, not, cond, List, T, ltb, length, take}
use Rattle.std.proofs.Common.{sym, ap, ap₂, subst, ◌∙◌, take_all}
use Rattle.sets.specs.Sets.{keep}
use Rattle.sets.specs.Tests.{cond_true}
use Rattle.sets.specs.Fill.{filled, filled_first, places_filled}
use Rattle.rules.specs.Sizes.{most_states, most_payments, most_references}
use Rattle.rules.specs.declared.Reference.{Reference}
use Rattle.rules.specs.declared.Entry.{Entry}
use Rattle.rules.specs.Chain.{made, spent, is_own}
use Rattle.chain.specs.declared.Transaction.{Transaction}
use Rattle.chain.specs.declared.Block.{Block}
use Rattle.chain.specs.View.{view_block}
use Rattle.pool.specs.declared.Held.{Held}
use Rattle.pool.specs.declared.Payment.{Payment}
use Rattle.pool.specs.declared.Pool.{Pool}
use Rattle.pool.specs.View.{entries_of, payments_of}
use Rattle.pool.specs.Good.{no_held, good}
use Rattle.pool.specs.LayoutLaws.{no_held_lem, good_layout, entries_counted}
use Rattle.pool.specs.Book.{zero_held, entries_after_block, entries_after_rollback, payments_after_block, payments_after_payment, payments_after_rollback, book_block, book_payment, book_rollback}
use Rattle.pool.specs.BlockEntries.{entries_booked, payments_booked}
use Rattle.flat.specs.Flat.{Refs}
use Rattle.flat.specs.Flat.{Made}
use Rattle.flat.specs.Flat.{refs_of, made_of, refs_in, made_in}
use Rattle.flat.specs.Told.{refs_back, made_back}
use Rattle.booking.specs.Lists.{Kept}
use Rattle.booking.specs.Lists.{Merged}
use Rattle.booking.specs.Lists.{Paying}
use Rattle.booking.specs.Lists.{kept_of, merged_of, paying_of, merged_in}

-- a pool with other entries, payments and states below
abbrev pub pool_with : Pool → ℕ → List Held → ℕ → List Payment → ℕ → Pool
pool_with w below entries used payments paying =
    record {
      own = w.own;
      owns = w.owns;
      below = below;
      entries = entries;
      used = used;
      payments = payments;
      paying = paying;
    }

-- ── a payment

-- the entries of a sound pool stand in its array, zeros behind them
entries_filled : (w : Pool) → T (good w) → w.entries ≡ filled most_references zero_held (entries_of w)
entries_filled w g =
    let f = good_layout w g in
    places_filled no_held zero_held no_held_lem most_references w.entries w.used f.entries_length f.few_entries f.entries_rest

-- the pool with the payments after a payment
pub payment_pool :
    (w : Pool) (t : Transaction) (q : Paying) → T (good w) → T (ltb w.paying most_payments) →
    q ≡ paying_of (cond (ltb w.paying most_payments) (payments_after_payment t (payments_of w)) (payments_of w)) →
    pool_with w w.below w.entries w.used q.items q.count ≡ book_payment w t
unfolding book_payment
payment_pool w t q g r e =
    let all : q ≡ paying_of (payments_after_payment t (payments_of w)) =
    e ∙ ap paying_of (cond_true (ltb w.paying most_payments) (payments_after_payment t (payments_of w)) (payments_of w) r)
    in
    let entries = entries_filled w g in
    let used = sym (entries_counted w (good_layout w g)) in
    λ i. pool_with w w.below (entries i) (used i) (all i).items (all i).count

-- ── a rollback

-- the pool with the entries and payments after a rollback, and one state less below
pub rollback_pool :
    (w : Pool) (k : Kept) (q : Paying) → k ≡ kept_of (entries_after_rollback (entries_of w)) →
    q ≡ paying_of (payments_after_rollback (payments_of w)) →
    pool_with w (w.below - 1) k.items k.count q.items q.count ≡ book_rollback w
unfolding book_rollback
rollback_pool w k q e f = λ i. pool_with w (w.below - 1) (e i).items (e i).count (f i).items (f i).count

-- ── a block

-- its own outputs and what it spends, laid flat, lead to the booked entries
pub block_merged :
    (w : Pool) (b : Block) (gone : Refs) (out own : Made) (merged : Merged) → gone ≡ refs_of (spent (view_block b)) →
    out ≡ made_of (made (view_block b)) → own ≡ made_of (keep (is_own (take w.owns w.own)) (made_in out)) →
    merged ≡ merged_of (entries_after_block (made_in own) (refs_in gone) (entries_of w)) →
    merged ≡ merged_of (entries_booked w (view_block b))
block_merged w b gone out own merged e f g h =
    let all : made_in out ≡ made (view_block b) = ap made_in f ∙ made_back (made (view_block b)) in
    let mine : made_in own ≡ keep (is_own (take w.owns w.own)) (made (view_block b)) =
    ap made_in g
    ∙ made_back (keep (is_own (take w.owns w.own)) (made_in out))
    ∙ ap (keep (is_own (take w.owns w.own))) all
    in
    let spends : refs_in gone ≡ spent (view_block b) = ap refs_in e ∙ refs_back (spent (view_block b)) in
    h ∙ ap₂ (λ (l : List Entry) (r : List Reference). merged_of (entries_after_block l r (entries_of w))) mine spends

-- where they have room nothing of them is cut off
pub merged_cut : (l : List Held) (merged : Merged) (kept : Kept) → merged ≡ merged_of l → kept ≡ kept_of (take most_references (merged_in merged)) → length l ≤ most_references → kept ≡ kept_of l
merged_cut l merged kept e f h =
    f
    ∙ ap (λ (m : Merged). kept_of (take most_references (merged_in m))) e
    ∙ ap (λ (r : List Held). kept_of (take most_references r)) (filled_first (2 * most_references) zero_held l)
    ∙ ap kept_of (take_all most_references l h)

-- what the block spends, laid flat, leads to the booked payments
pub block_paying :
    (w : Pool) (b : Block) (gone : Refs) (q : Paying) → gone ≡ refs_of (spent (view_block b)) →
    q ≡ paying_of (payments_after_block (refs_in gone) (payments_of w)) → q ≡ paying_of (payments_booked w (view_block b))
block_paying w b gone q e f =
    f
    ∙ ap (λ (r : List Reference). paying_of (payments_after_block r (payments_of w))) (ap refs_in e ∙ refs_back (spent (view_block b)))

-- the pool with the entries and payments after a block, and one state more below
pub block_pool :
    (w : Pool) (b : Block) (below : ℕ) (k : Kept) (q : Paying) → below ≡ min (most_states - 1) (w.below + 1) →
    k ≡ kept_of (entries_booked w (view_block b)) → q ≡ paying_of (payments_booked w (view_block b)) →
    pool_with w below k.items k.count q.items q.count ≡ book_block w (view_block b)
unfolding book_block
block_pool w b below k q d e f = λ i. pool_with w (d i) (e i).items (e i).count (f i).items (f i).count

some_none : (p : Pool) → Some p ≡ None → ⊥
some_none p e = subst (λ (o : Option Pool). elim o as (λ _. Type 0) [ None ↦ ⊥ | Some q ↦ Unit {0} ]) e tt

-- what the answer after a block says: there was no room
pub next_full : (room : Bool) (p : Pool) (next : Option Pool) → next ≡ cond room (Some p) None → next ≡ None → room ≡ false
next_full true p next e f = absurd (some_none p (sym e ∙ f))
next_full false p next e f = refl

-- or there was, and the pool is booked
pub next_fits_lem : (room : Bool) (p q : Pool) (next : Option Pool) → next ≡ cond room (Some p) None → next ≡ Some q → (room ≡ true) × (q ≡ p)
next_fits_lem true p q next e f = (refl, ap (λ (o : Option Pool). unwrap_or o q) (sym f ∙ e))
next_fits_lem false p q next e f = absurd (some_none q (sym f ∙ e))
