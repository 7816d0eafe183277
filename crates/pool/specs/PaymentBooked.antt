-- A booked payment is the rules' payment on the view, and leaves the pool laid out.
use Rattle.std.specs.Prelude.{ℕ, zero, suc, ◌≤◌, ◌≡◌, refl, Bool, not, T, length, take}
use Rattle.std.proofs.Common.{sym, ap, subst, ◌∙◌, ⊎_elim, arith}
use mathlib.Core.List.{List, [], ◌∷◌, map, Memᴰ}
use Rattle.sets.specs.Sets.{all, has, keep, place, ascending}
use Rattle.sets.specs.Tests.{cond_false}
use Rattle.sets.specs.Laws.{place-length, any_none, all_intro, all_elim, keep_from, place_from, map_elim}
use Rattle.sets.specs.Order.{place-ascending}
use Rattle.sets.specs.Maps.{place_map}
use Rattle.sets.specs.Picks.{keep-place_in, keep-place_out}
use Rattle.rules.specs.Sizes.{most_payments}
use Rattle.chain.specs.View as ChainView
use Rattle.chain.specs.View.{view_transaction}
use Rattle.chain.specs.declared.Transaction.{Transaction}
use Rattle.rules.specs.declared.Number.{Number}
use Rattle.rules.specs.Chain as Chain
use Rattle.rules.specs.Chain.{same_number, same_transaction, before_transaction}
use Rattle.rules.specs.ChainLaws.{same_number_eq}
use Rattle.rules.specs.States.{with_payments, after_payment}
use Rattle.rules.specs.Steps.{number_taken}
use Rattle.soundness.specs.Payment.{not_pending}
use Rattle.soundness.specs.Orders.{same_transaction_number, before_transaction_one}
use Rattle.pool.specs.declared.Held.{Held}
use Rattle.pool.specs.declared.Payment.{Payment}
use Rattle.pool.specs.declared.Pool.{Pool}
use Rattle.pool.specs.Marks.{marked}
use Rattle.pool.specs.MarkLaws.{marked_one, one_fits}
use Rattle.pool.specs.View.{entries_of, payments_of, utxo_at, expected_at, pending_at, states_from, view_of, view}
use Rattle.pool.specs.Good.{before_payment, payment_fits, laid_out, good}
use Rattle.pool.specs.Book.{payments_after_payment, book_payment}
use Rattle.pool.specs.PlaceLaws.{before_payment_trans, payment_fits_lem}
use Rattle.chain.specs.ViewLaws.{good_facts}
use Rattle.pool.specs.LayoutLaws.{laid_out_facts, good_laid_out, entries_counted, pool_view, pool_laid_out}
use Rattle.pool.specs.RoomLaws.{place_payment_held}

-- ── one payment more

-- its number is that of no payment of the pool
number_new :
    (w : Pool) → T (laid_out w) → (n : Number) → T (not (number_taken (view w) n)) → (p : Payment) → Memᴰ p (payments_of w) →
    T (same_number n p.transaction.number) → ⊥
number_new w t n free p m s =
    not_pending (view w) n free (view_transaction p.transaction)
    (place_payment_held (take w.owns w.own) w.below (entries_of w) (payments_of w) (laid_out_facts w t).payments_fit m)
    (same_number_eq n p.transaction.number s)

-- the payments still ascend
pub payment_ascending :
    (w : Pool) → T (laid_out w) → (t : Transaction) → T (not (number_taken (view w) t.number)) →
    T (ascending before_payment (payments_after_payment t (payments_of w)))
unfolding payments_after_payment
payment_ascending w h t free =
    place-ascending before_payment before_payment_trans (record { transaction = t; pending = 1 }) (payments_of w)
    (λ p m.
    before_transaction_one (view_transaction t) (view_transaction p.transaction)
    (λ (s : T (same_number t.number p.transaction.number)). number_new w h t.number free p m s))
    (laid_out_facts w h).payments_ascend

-- they fit as many states as before
pub payment_places_fit :
    (w : Pool) → T (laid_out w) → (t : Transaction) → T (ChainView.laid_out t) →
    T (all (payment_fits (suc w.below)) (payments_after_payment t (payments_of w)))
unfolding payments_after_payment
payment_places_fit w h t g =
    all_intro (payment_fits (suc w.below)) (place before_payment new (payments_of w))
    (λ p m.
    ⊎_elim
    (λ (e : p ≡ new). subst (λ (q : Payment). T (payment_fits (suc w.below) q)) (sym e) new_fits)
    (λ (k : Memᴰ p (payments_of w)). all_elim (payment_fits (suc w.below)) (laid_out_facts w h).payments_fit k)
    (place_from before_payment (payments_of w) m))
  where
    new : Payment
    new = record { transaction = t; pending = 1 }

    new_fits : T (payment_fits (suc w.below) new)
    new_fits = payment_fits_lem (suc w.below) new (one_fits w.below) tt g

-- there is one more
pub payment_length : (t : Transaction) (ps : List Payment) → length (payments_after_payment t ps) ≡ suc (length ps)
unfolding payments_after_payment
payment_length t ps = place-length before_payment (record { transaction = t; pending = 1 }) ps

-- ── what each state has pending

pending_now :
    (t : Transaction) (ps : List Payment) → T (ascending before_payment ps) →
    ((p : Payment) → Memᴰ p ps → T (same_number t.number p.transaction.number) → ⊥) →
    pending_at 0 (payments_after_payment t ps) ≡ with_payments (pending_at 0 ps) (view_transaction t ∷ [])
unfolding payments_after_payment
pending_now t ps h new =
    let p : Payment = record { transaction = t; pending = 1 } in
    let see : Payment → Chain.Transaction = λ q. view_transaction q.transaction in
    let now : Payment → Bool = λ q. marked 0 q.pending in
    ap (map see) (keep-place_in before_payment before_payment_trans now p ps h refl)
    ∙ place_map before_transaction see p (keep now ps)
    ∙ sym
    (cond_false (has same_transaction (view_transaction t) (pending_at 0 ps)) (pending_at 0 ps) (place before_transaction (view_transaction t) (pending_at 0 ps))
    (any_none (same_transaction (view_transaction t)) (pending_at 0 ps)
    (λ u m s.
    let r = map_elim see (keep now ps) m in
    new r.0 (keep_from now ps r.1)
    (subst (λ (v : Chain.Transaction). T (same_number t.number v.number)) r.2 (same_transaction_number (view_transaction t) u s)))))

pending_below : (k : ℕ) (t : Transaction) (ps : List Payment) → pending_at (suc k) (payments_after_payment t ps) ≡ pending_at (suc k) ps
unfolding payments_after_payment
pending_below k t ps =
    ap (map (λ q. view_transaction q.transaction))
    (keep-place_out before_payment (λ q. marked (suc k) q.pending) (record { transaction = t; pending = 1 }) ps (marked_one k))

states_below : (k n : ℕ) (es : List Held) (t : Transaction) (ps : List Payment) → states_from (suc k) n es (payments_after_payment t ps) ≡ states_from (suc k) n es ps
states_below k zero es t ps = refl
states_below k (suc n) es t ps =
    let p = pending_below k t ps in
    let r = states_below (suc k) n es t ps in
    λ i. record { utxo = utxo_at (suc k) es; pending = p i; expected = expected_at (suc k) es } ∷ r i

-- the view of the pool with the payment is the rules' payment on the view
pub payment_view :
    (w : Pool) → T (laid_out w) → (t : Transaction) → T (not (number_taken (view w) t.number)) →
    view_of (take w.owns w.own) w.below (entries_of w) (payments_after_payment t (payments_of w)) ≡ after_payment (view w) (view_transaction t)
unfolding after_payment
payment_view w h t free =
    let p = pending_now t (payments_of w) (laid_out_facts w h).payments_ascend (number_new w h t.number free) in
    let b = states_below 0 w.below (entries_of w) t (payments_of w) in
    λ i.
    record {
      own = take w.owns w.own;
      present = record { utxo = utxo_at 0 (entries_of w); pending = p i; expected = expected_at 0 (entries_of w) };
      below = b i;
    }

-- a booked payment is the rules' payment, and leaves the pool laid out
pub payment_booked :
    (w : Pool) → T (good w) → (t : Transaction) → T (ChainView.good_transaction t) → T (not (number_taken (view w) t.number)) →
    length (payments_after_payment t (payments_of w)) ≤ most_payments →
    (view (book_payment w t) ≡ after_payment (view w) (view_transaction t)) × T (laid_out (book_payment w t))
unfolding book_payment
payment_booked w g t s free room =
    let h : T (laid_out w) = good_laid_out w g in
    let f = laid_out_facts w h in (
      pool_view w w.below (entries_of w) (payments_after_payment t (payments_of w)) ∙ payment_view w h t free,
      pool_laid_out w w.below (entries_of w) (payments_after_payment t (payments_of w)) h
          f.few_below
          (omega (arith, entries_counted w f, f.few_entries))
          f.entries_ascend
          f.entries_fit
          room
          (payment_ascending w h t free)
          (payment_places_fit w h t (good_facts t s).0),
    )
