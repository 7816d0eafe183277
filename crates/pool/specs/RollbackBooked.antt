-- A booked rollback is the rules' rollback on the view, and leaves the pool laid out.
use Rattle.std.specs.Prelude.{ℕ, zero, suc, ◌-◌, ◌^◌, ◌≤◌, ◌<◌, ◌≡◌, refl, Bool, true, false, not, ◌&&◌, ◌||◌, List, ◌∷◌, ◌++◌, map, T, eqb, length, take}
use Rattle.std.proofs.Common.{sym, ap, subst, ◌∙◌, arith}
use Rattle.std.proofs.lemmas.List.{length-map}
use Rattle.sets.specs.Sets.{all, keep, ascending}
use Rattle.sets.specs.Tests.{or_left, or_right}
use Rattle.sets.specs.Laws.{together-append, all_intro, all_elim, keep_from, keep_holds, keep_same, keep-length, map_elim}
use Rattle.sets.specs.Order.{ascending_mapped, ascending-keep}
use Rattle.sets.specs.Marks.{half_fits}
use Rattle.sets.specs.Maps.{all_map, map-keep-map, map-keep_wider}
use Rattle.sets.specs.Picks.{pick_without, pick_together}
use Rattle.rules.specs.declared.Entry.{Entry}
use Rattle.rules.specs.Chain as Chain
use Rattle.rules.specs.Chain.{same_entry, before_entry, same_transaction, before_transaction}
use Rattle.rules.specs.ChainLaws.{same_transaction_refl}
use Rattle.rules.specs.States.{with_entries, with_payments, without_entries, rolled_back, after_rollback}
use Rattle.chain.specs.View as ChainView
use Rattle.chain.specs.View.{view_transaction}
use Rattle.soundness.specs.Orders.{same_entry_refl, same_entry_sym, before_entry_trans, before_entry_never, same_transaction_sym, before_transaction_trans, before_transaction_never}
use Rattle.pool.specs.declared.Held.{Held}
use Rattle.pool.specs.declared.Payment.{Payment}
use Rattle.pool.specs.declared.Pool.{Pool}
use Rattle.pool.specs.Marks.{marked, lowered}
use Rattle.pool.specs.MarkLaws.{marked_some, lowered_present, lowered_below, lowered_fits, word_some}
use Rattle.pool.specs.View.{entries_of, payments_of, utxo_at, expected_at, pending_at, states_from, view_of, view}
use Rattle.pool.specs.Good.{before_held, before_payment, held_fits, payment_fits, laid_out, good}
use Rattle.pool.specs.Book.{held_marked, held_after_rollback, entries_after_rollback, payment_after_rollback, payments_after_rollback, with_pool, book_rollback}
use Rattle.pool.specs.PlaceLaws.{before_held_trans, utxo_marked, expected_marked, held_utxo_fits, held_expected_fits, held_fits_lem, payment_pending_fits, payment_marked_lem, payment_laid_out, payment_fits_lem}
use Rattle.pool.specs.LayoutLaws.{laid_out_facts, good_laid_out, entries_counted, payments_counted, pool_view, pool_laid_out}

-- ── the sets of the states below

-- what bears a mark is not lost with the places that bear none
marked_kept :
    (p : Held → Bool) (es : List Held) → ((h : Held) → T (p h) → T (held_marked h)) →
    map (λ h. h.entry) (keep p (entries_after_rollback es)) ≡ map (λ h. h.entry) (keep (λ h. p (held_after_rollback h)) es)
unfolding entries_after_rollback
marked_kept p es held =
    map-keep_wider (λ (h : Held). h.entry) p held_marked held_after_rollback (λ h. p (held_after_rollback h)) es held (λ h m. refl)

-- each UTxO is that of one state further down
utxo_down : (k : ℕ) (es : List Held) → utxo_at k (entries_after_rollback es) ≡ utxo_at (suc k) es
utxo_down k es = marked_kept (λ h. marked k h.utxo) es (utxo_marked k)

expected_down : (k : ℕ) (es : List Held) → expected_at (suc k) (entries_after_rollback es) ≡ expected_at (suc (suc k)) es
expected_down k es =
    marked_kept (λ h. marked (suc k) h.expected) es (expected_marked (suc k))
    ∙ ap (map (λ h. h.entry))
    (keep_same (λ h. marked (suc k) (held_after_rollback h).expected) (λ h. marked (suc (suc k)) h.expected) es
    (λ h m.
    lowered_below k h.expected
    ((marked 0 h.expected || marked 1 h.expected || marked 0 h.utxo) && not (marked 1 h.utxo))))

pending_down : (k : ℕ) (ps : List Payment) → pending_at (suc k) (payments_after_rollback ps) ≡ pending_at (suc (suc k)) ps
unfolding payments_after_rollback
pending_down k ps =
    map-keep-map (λ p. view_transaction p.transaction) (λ p. marked (suc k) p.pending) payment_after_rollback (λ p. marked (suc (suc k)) p.pending) ps
    (λ p m. lowered_below k p.pending (marked 0 p.pending || marked 1 p.pending))

states_down :
    (k n : ℕ) (es : List Held) (ps : List Payment) →
    states_from (suc k) n (entries_after_rollback es) (payments_after_rollback ps) ≡ states_from (suc (suc k)) n es ps
states_down k zero es ps = refl
states_down k (suc n) es ps =
    let u = utxo_down (suc k) es in
    let p = pending_down k ps in
    let x = expected_down k es in
    let r = states_down (suc k) n es ps in
    λ i. record { utxo = u i; pending = p i; expected = x i } ∷ r i

-- ── the sets of the restored state

-- pending is what was pending in either of the two states
pending_now :
    (ps : List Payment) → T (ascending before_payment ps) →
    pending_at 0 (payments_after_rollback ps) ≡ with_payments (pending_at 1 ps) (pending_at 0 ps)
unfolding payments_after_rollback
pending_now ps t =
    let see : Payment → Chain.Transaction = λ p. view_transaction p.transaction in
    map-keep-map see (λ p. marked 0 p.pending) payment_after_rollback (λ p. marked 1 p.pending || marked 0 p.pending) ps
    (λ p m.
    lowered_present p.pending (marked 0 p.pending || marked 1 p.pending)
    ∙ swap (marked 0 p.pending) (marked 1 p.pending))
    ∙ sym
    (pick_together see same_transaction before_transaction before_transaction_trans same_transaction_refl same_transaction_sym before_transaction_never
    (λ p. marked 1 p.pending) (λ p. marked 0 p.pending) ps t)
  where
    swap : (a b : Bool) → (a || b) ≡ (b || a)
    swap true true = refl
    swap true false = refl
    swap false true = refl
    swap false false = refl

-- expected is what was expected in either, and the UTxO of the state that goes, without the restored UTxO
expected_now :
    (es : List Held) → T (ascending before_held es) →
    expected_at 0 (entries_after_rollback es)
    ≡ without_entries (utxo_at 1 es) (with_entries (expected_at 1 es) (expected_at 0 es ++ utxo_at 0 es))
expected_now es t =
    let see : Held → Entry = λ h. h.entry in
    let x₀ : Held → Bool = λ h. marked 0 h.expected in
    let x₁ : Held → Bool = λ h. marked 1 h.expected in
    let u₀ : Held → Bool = λ h. marked 0 h.utxo in
    let u₁ : Held → Bool = λ h. marked 1 h.utxo in
    let both : with_entries (expected_at 1 es) (expected_at 0 es ++ utxo_at 0 es) ≡ map see (keep (λ h. (x₁ h || u₀ h) || x₀ h) es) =
    together-append same_entry before_entry (expected_at 1 es) (expected_at 0 es) (utxo_at 0 es)
    ∙ ap (λ (l : List Entry). with_entries l (expected_at 0 es))
    (pick_together see same_entry before_entry before_entry_trans same_entry_refl same_entry_sym before_entry_never x₁ u₀ es t)
    ∙ pick_together see same_entry before_entry before_entry_trans same_entry_refl same_entry_sym before_entry_never (λ h. x₁ h || u₀ h) x₀ es t
    in
    marked_kept x₀ es (expected_marked 0)
    ∙ ap (map see)
    (keep_same (λ h. x₀ (held_after_rollback h)) (λ h. ((x₁ h || u₀ h) || x₀ h) && not (u₁ h)) es
    (λ h m.
    lowered_present h.expected ((x₀ h || x₁ h || u₀ h) && not (u₁ h))
    ∙ ap (λ (b : Bool). b && not (u₁ h)) (turn (x₀ h) (x₁ h) (u₀ h))))
    ∙ sym
    (pick_without see same_entry before_entry before_entry_trans same_entry_refl same_entry_sym before_entry_never (λ h. (x₁ h || u₀ h) || x₀ h) u₁ es t)
    ∙ ap (without_entries (utxo_at 1 es)) (sym both)
  where
    turn : (a b c : Bool) → (a || b || c) ≡ ((b || c) || a)
    turn true true c = refl
    turn true false true = refl
    turn true false false = refl
    turn false true c = refl
    turn false false true = refl
    turn false false false = refl

-- ── the view

-- the view of the pool after the rollback is the rules' rollback on the view
pub rollback_view :
    (own : List ℕ) (n : ℕ) (es : List Held) (ps : List Payment) → T (ascending before_held es) → T (ascending before_payment ps) →
    view_of own n (entries_after_rollback es) (payments_after_rollback ps) ≡ after_rollback (view_of own (suc n) es ps)
unfolding after_rollback rolled_back
rollback_view own n es ps t s =
    let u = utxo_down 0 es in
    let p = pending_now ps s in
    let x = expected_now es t in
    let r = states_down 0 n es ps in
    λ i. record { own = own; present = record { utxo = u i; pending = p i; expected = x i }; below = r i }

-- ── the layout

-- the places still ascend
pub rollback_entries_ascending : (es : List Held) → T (ascending before_held es) → T (ascending before_held (entries_after_rollback es))
unfolding entries_after_rollback
rollback_entries_ascending es t =
    ascending-keep before_held before_held_trans held_marked (map held_after_rollback es)
    (ascending_mapped before_held before_held held_after_rollback (λ x y h. h) es t)

pub rollback_payments_ascending : (ps : List Payment) → T (ascending before_payment ps) → T (ascending before_payment (payments_after_rollback ps))
unfolding payments_after_rollback
rollback_payments_ascending ps t = ascending_mapped before_payment before_payment payment_after_rollback (λ x y h. h) ps t

-- they fit one state less
pub rollback_entries_fit : (n : ℕ) (es : List Held) → T (all (held_fits (suc (suc n))) es) → T (all (held_fits (suc n)) (entries_after_rollback es))
unfolding entries_after_rollback
rollback_entries_fit n es t =
    all_intro (held_fits (suc n)) (keep held_marked (map held_after_rollback es))
    (λ h m.
    let r = map_elim held_after_rollback es (keep_from held_marked (map held_after_rollback es) m) in
    subst (λ (g : Held). T (held_fits (suc n) g)) (sym r.2)
    (smaller r.0 (all_elim (held_fits (suc (suc n))) t r.1)
    (subst (λ (g : Held). T (held_marked g)) r.2 (keep_holds held_marked (map held_after_rollback es) m))))
  where
    smaller : (h : Held) → T (held_fits (suc (suc n)) h) → T (held_marked (held_after_rollback h)) → T (held_fits (suc n) (held_after_rollback h))
    smaller h f marks =
        held_fits_lem (suc n) (held_after_rollback h)
        (half_fits (suc n) h.utxo (held_utxo_fits (suc (suc n)) h f))
        (lowered_fits n h.expected
        ((marked 0 h.expected || marked 1 h.expected || marked 0 h.utxo) && not (marked 1 h.utxo))
        (held_expected_fits (suc (suc n)) h f))
        marks

-- no payment is lost with the state that goes
still_pending : (n m : ℕ) → m < 2 ^ n → T (not (eqb m 0)) → T (not (eqb (lowered m (marked 0 m || marked 1 m)) 0))
still_pending n m h t = let k = word_some n m h t in at k.0 k.2
  where
    at : (k : ℕ) → T (marked k m) → T (not (eqb (lowered m (marked 0 m || marked 1 m)) 0))
    at zero t =
        marked_some 0 (lowered m (marked 0 m || marked 1 m))
        (subst (λ (b : Bool). T b) (sym (lowered_present m (marked 0 m || marked 1 m))) (or_left (marked 0 m) (marked 1 m) t))
    at (suc zero) t =
        marked_some 0 (lowered m (marked 0 m || marked 1 m))
        (subst (λ (b : Bool). T b) (sym (lowered_present m (marked 0 m || marked 1 m))) (or_right (marked 0 m) (marked 1 m) t))
    at (suc (suc k)) t =
        marked_some (suc k) (lowered m (marked 0 m || marked 1 m))
        (subst (λ (b : Bool). T b) (sym (lowered_below k m (marked 0 m || marked 1 m))) t)

pub rollback_payments_fit : (n : ℕ) (ps : List Payment) → T (all (payment_fits (suc (suc n))) ps) → T (all (payment_fits (suc n)) (payments_after_rollback ps))
unfolding payments_after_rollback
rollback_payments_fit n ps t =
    subst (λ (b : Bool). T b) (sym (all_map (payment_fits (suc n)) payment_after_rollback ps))
    (all_intro (λ p. payment_fits (suc n) (payment_after_rollback p)) ps
    (λ p m.
    let fits : T (payment_fits (suc (suc n)) p) = all_elim (payment_fits (suc (suc n))) t m in
    let small : p.pending < 2 ^ suc (suc n) = payment_pending_fits (suc (suc n)) p fits in
    payment_fits_lem (suc n) (payment_after_rollback p)
    (lowered_fits n p.pending (marked 0 p.pending || marked 1 p.pending) small)
    (still_pending (suc (suc n)) p.pending small (payment_marked_lem (suc (suc n)) p fits))
    (payment_laid_out (suc (suc n)) p fits)))

-- there are no more of them
pub rollback_entries_length : (es : List Held) → length (entries_after_rollback es) ≤ length es
unfolding entries_after_rollback
rollback_entries_length es = omega (arith, keep-length held_marked (map held_after_rollback es), length-map es held_after_rollback)

pub rollback_payments_length : (ps : List Payment) → length (payments_after_rollback ps) ≡ length ps
unfolding payments_after_rollback
rollback_payments_length ps = length-map ps payment_after_rollback

-- a booked rollback is the rules' rollback, and leaves the pool laid out
pub rollback_booked :
    (w : Pool) → T (good w) → (n : ℕ) → w.below ≡ suc n →
    (view (book_rollback w) ≡ after_rollback (view w)) × T (laid_out (book_rollback w))
unfolding book_rollback
rollback_booked w g n e =
    let h : T (laid_out w) = good_laid_out w g in
    let f = laid_out_facts w h in
    let own : List ℕ = take w.owns w.own in
    let es : List Held = entries_of w in
    let ps : List Payment = payments_of w in
    let down : w.below - 1 ≡ n = omega arith in (
      pool_view w (w.below - 1) (entries_after_rollback es) (payments_after_rollback ps)
          ∙ ap (λ (k : ℕ). view_of own k (entries_after_rollback es) (payments_after_rollback ps)) down
          ∙ rollback_view own n es ps f.entries_ascend f.payments_ascend
          ∙ ap (λ (k : ℕ). after_rollback (view_of own k es ps)) (sym e),
      subst (λ (k : ℕ). T (laid_out (with_pool w k (entries_after_rollback es) (payments_after_rollback ps)))) (sym down)
          (pool_laid_out w n (entries_after_rollback es) (payments_after_rollback ps) h
          (omega (arith, e, f.few_below))
          (omega (arith, rollback_entries_length es, entries_counted w f, f.few_entries))
          (rollback_entries_ascending es f.entries_ascend)
          (rollback_entries_fit n es (subst (λ (k : ℕ). T (all (held_fits (suc k)) es)) e f.entries_fit))
          (omega (arith, rollback_payments_length ps, payments_counted w f, f.few_payments))
          (rollback_payments_ascending ps f.payments_ascend)
          (rollback_payments_fit n ps (subst (λ (k : ℕ). T (all (payment_fits (suc k)) ps)) e f.payments_fit))),
    )
