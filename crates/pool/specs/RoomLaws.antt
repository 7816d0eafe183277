-- The states of a pool's view, and what stands in them: over all states the entries and payments are those of the pool,
-- and so the last two sizes are the lengths of its two lists.
use Rattle.std.specs.Prelude.{◌≡◌, refl, not, ◌||◌, ℕ, zero, suc, ◌+◌, ◌<◌, T, leb, length}
use Rattle.std.proofs.Common.{ap, subst, ◌∙◌, ⊎_elim, arith}
use mathlib.Core.List.Memᴰ
use mathlib.Core.List.{List, [], ◌++◌, map, Memᴰ}
use Rattle.std.proofs.lemmas.List.{length-map}
use Rattle.sets.specs.Sets.{all, ascending}
use Rattle.sets.specs.Laws.{all_elim, map_intro, map_elim, gather_elim}
use Rattle.sets.specs.Count.{ascending_different, set_length}
use Rattle.sets.specs.Order.{ascending_mapped}
use Rattle.sets.specs.Maps.{picked_elim, picked_intro}
use Rattle.sets.specs.Picks.{pick_ascending}
use Rattle.rules.specs.declared.Entry.{Entry}
use Rattle.rules.specs.Sizes.{most_payments, most_references}
use Rattle.rules.specs.Chain as Chain
use Rattle.rules.specs.Chain.{same_entry, before_entry, same_transaction, before_transaction}
use Rattle.rules.specs.ChainLaws.{same_transaction_refl}
use Rattle.rules.specs.States.{State, states, with_entries, with_payments}
use Rattle.rules.specs.Sound.{held_entries, held_payments, too_many}
use Rattle.soundness.specs.Orders.{same_entry_refl, same_entry_sym, same_entry_trans, before_entry_trans, before_entry_never, same_transaction_sym, same_transaction_trans, before_transaction_trans, before_transaction_never}
use Rattle.soundness.specs.Facts.{held_utxo, held_expected, held_pending}
use Rattle.chain.specs.View as ChainView
use Rattle.chain.specs.View.{view_transaction}
use Rattle.pool.specs.declared.Held.{Held}
use Rattle.pool.specs.declared.Payment.{Payment}
use Rattle.pool.specs.Marks.{marked}
use Rattle.pool.specs.View.{utxo_at, expected_at, pending_at, state_at, states_from, view_of}
use Rattle.pool.specs.Good.{before_held, before_payment, held_fits, payment_fits}
use Rattle.pool.specs.PlaceLaws.{entry_in, payment_in, held_some, payment_some}

-- ── order

-- the pool's order is that of its entries and payments, and so of what each state has of them
pub entries_ascending : (es : List Held) → T (ascending before_held es) → T (ascending before_entry (map (λ h. h.entry) es))
entries_ascending es t = ascending_mapped before_held before_entry entry_in (λ x y h. h) es t

pub payments_ascending : (ps : List Payment) → T (ascending before_payment ps) → T (ascending before_transaction (map (λ p. view_transaction p.transaction) ps))
payments_ascending ps t = ascending_mapped before_payment before_transaction payment_in (λ x y h. h) ps t

pub utxo_ascending : (k : ℕ) (es : List Held) → T (ascending before_held es) → T (ascending before_entry (utxo_at k es))
utxo_ascending k es t = pick_ascending entry_in before_entry before_entry_trans (λ h. marked k h.utxo) es t

pub expected_ascending : (k : ℕ) (es : List Held) → T (ascending before_held es) → T (ascending before_entry (expected_at k es))
expected_ascending k es t = pick_ascending entry_in before_entry before_entry_trans (λ h. marked k h.expected) es t

pub pending_ascending : (k : ℕ) (ps : List Payment) → T (ascending before_payment ps) → T (ascending before_transaction (pending_at k ps))
pending_ascending k ps t = pick_ascending payment_in before_transaction before_transaction_trans (λ p. marked k p.pending) ps t

-- ── the states of a view

pub states_count : (k n : ℕ) (es : List Held) (ps : List Payment) → length (states_from k n es ps) ≡ n
states_count k zero es ps = refl
states_count k (suc n) es ps = ap suc (states_count (suc k) n es ps)

from_elim : (k n : ℕ) (es : List Held) (ps : List Payment) {s : State} → Memᴰ s (states_from k n es ps) → (j : ℕ) × (j < k + n) × (s ≡ state_at j es ps)
from_elim k zero es ps m = absurd (Memᴰ.not-nil m)
from_elim k (suc n) es ps {s} m =
    ⊎_elim
    (λ (e : s ≡ state_at k es ps). (k, omega arith, e))
    (λ (h : Memᴰ s (states_from (suc k) n es ps)).
    let r = from_elim (suc k) n es ps h in
    (r.0, omega (arith, r.1), r.2))
    (Memᴰ.cases_cons m)

from_intro : (k n j : ℕ) (es : List Held) (ps : List Payment) → j < n → Memᴰ (state_at (k + j) es ps) (states_from k n es ps)
from_intro k zero j es ps h = absurd (omega arith)
from_intro k (suc n) zero es ps h =
    let e : k + zero ≡ k = omega arith in
    Memᴰ.head (ap (λ (i : ℕ). state_at i es ps) e)
from_intro k (suc n) (suc j) es ps h =
    let e : k + suc j ≡ suc k + j = omega arith in
    Memᴰ.tail (Memᴰ.cast (ap (λ (i : ℕ). state_at i es ps) e) (from_intro (suc k) n j es ps (omega arith)))

-- a state of the view is one of its suc n marks, and the other way round
pub state_elim : (own : List ℕ) (n : ℕ) (es : List Held) (ps : List Payment) {s : State} → Memᴰ s (states (view_of own n es ps)) → (k : ℕ) × (k < suc n) × (s ≡ state_at k es ps)
state_elim own n es ps m = let r = from_elim 0 (suc n) es ps m in (r.0, omega (arith, r.1), r.2)

pub state_intro : (own : List ℕ) (n k : ℕ) (es : List Held) (ps : List Payment) → k < suc n → Memᴰ (state_at k es ps) (states (view_of own n es ps))
state_intro own n k es ps h =
    let e : k ≡ 0 + k = omega arith in
    Memᴰ.cast (ap (λ (i : ℕ). state_at i es ps) e) (from_intro 0 (suc n) k es ps h)

-- ── what stands in some state

-- an entry of a held state stands in a place of the pool
pub held_entry_place :
    (own : List ℕ) (n : ℕ) (es : List Held) (ps : List Payment) {e : Entry} → Memᴰ e (held_entries (view_of own n es ps)) →
    (h : Held) × Memᴰ h es × (e ≡ h.entry)
held_entry_place own n es ps {e} m =
    let r = gather_elim (λ (s : State). s.utxo ++ s.expected) (states (view_of own n es ps)) m in
    let k = state_elim own n es ps r.1 in
    ⊎_elim
    (λ (h : Memᴰ e (utxo_at k.0 es)).
    let x = picked_elim (λ (h : Held). marked k.0 h.utxo) entry_in es h in
    (x.0, x.1, x.3))
    (λ (h : Memᴰ e (expected_at k.0 es)).
    let x = picked_elim (λ (h : Held). marked k.0 h.expected) entry_in es h in
    (x.0, x.1, x.3))
    (Memᴰ.append_cases (utxo_at k.0 es) (subst (λ (s : State). Memᴰ e (s.utxo ++ s.expected)) k.2 r.2))

-- and the entry of every place stands in some held state
pub place_entry_held :
    (own : List ℕ) (n : ℕ) (es : List Held) (ps : List Payment) → T (all (held_fits (suc n)) es) → {h : Held} → Memᴰ h es →
    Memᴰ h.entry (held_entries (view_of own n es ps))
place_entry_held own n es ps t {h} m =
    let k = held_some (suc n) h (all_elim (held_fits (suc n)) t m) in
    let s = state_intro own n k.0 es ps k.1 in
    ⊎_elim
    (λ (q : T (marked k.0 h.utxo)).
    held_utxo (view_of own n es ps) s (picked_intro (λ (h : Held). marked k.0 h.utxo) entry_in es m q))
    (λ (q : T (marked k.0 h.expected)).
    held_expected (view_of own n es ps) s (picked_intro (λ (h : Held). marked k.0 h.expected) entry_in es m q))
    k.2

-- a payment of a held state stands in a place of the pool
pub held_payment_place :
    (own : List ℕ) (n : ℕ) (es : List Held) (ps : List Payment) {q : Chain.Transaction} → Memᴰ q (held_payments (view_of own n es ps)) →
    (p : Payment) × Memᴰ p ps × (q ≡ view_transaction p.transaction)
held_payment_place own n es ps {q} m =
    let r = gather_elim (λ (s : State). s.pending) (states (view_of own n es ps)) m in
    let k = state_elim own n es ps r.1 in
    let x =
    picked_elim (λ (p : Payment). marked k.0 p.pending) payment_in ps
    (subst (λ (s : State). Memᴰ q s.pending) k.2 r.2)
    in
    (x.0, x.1, x.3)

-- and the payment of every place stands in some held state
pub place_payment_held :
    (own : List ℕ) (n : ℕ) (es : List Held) (ps : List Payment) → T (all (payment_fits (suc n)) ps) → {p : Payment} → Memᴰ p ps →
    Memᴰ (view_transaction p.transaction) (held_payments (view_of own n es ps))
place_payment_held own n es ps t {p} m =
    let k = payment_some (suc n) p (all_elim (payment_fits (suc n)) t m) in
    held_pending (view_of own n es ps) (state_intro own n k.0 es ps k.1)
    (picked_intro (λ (p : Payment). marked k.0 p.pending) payment_in ps m k.2)

-- ── room

-- as many different references as the pool has entries
pub references_count :
    (own : List ℕ) (n : ℕ) (es : List Held) (ps : List Payment) → T (ascending before_held es) → T (all (held_fits (suc n)) es) →
    length (with_entries [] (held_entries (view_of own n es ps))) ≡ length es
references_count own n es ps a t =
    set_length same_entry same_entry_sym same_entry_trans before_entry same_entry_refl
    (held_entries (view_of own n es ps)) (map entry_in es)
    (ascending_different before_entry before_entry_trans same_entry before_entry_never (map entry_in es) (entries_ascending es a))
    (λ e m. let h = held_entry_place own n es ps m in Memᴰ.cast h.2 (map_intro entry_in h.1))
    (λ e m. let h = map_elim entry_in es m in Memᴰ.cast h.2 (place_entry_held own n es ps t h.1))
    ∙ length-map es entry_in

-- as many different payments as the pool has
pub payments_count :
    (own : List ℕ) (n : ℕ) (es : List Held) (ps : List Payment) → T (ascending before_payment ps) → T (all (payment_fits (suc n)) ps) →
    length (with_payments [] (held_payments (view_of own n es ps))) ≡ length ps
payments_count own n es ps a t =
    set_length same_transaction same_transaction_sym same_transaction_trans before_transaction same_transaction_refl
    (held_payments (view_of own n es ps)) (map payment_in ps)
    (ascending_different before_transaction before_transaction_trans same_transaction before_transaction_never (map payment_in ps) (payments_ascending ps a))
    (λ q m. let p = held_payment_place own n es ps m in Memᴰ.cast p.2 (map_intro payment_in p.1))
    (λ q m. let p = map_elim payment_in ps m in Memᴰ.cast p.2 (place_payment_held own n es ps t p.1))
    ∙ length-map ps payment_in

-- the last two sizes are asked of the pool's two lists
pub pool_room :
    (own : List ℕ) (n : ℕ) (es : List Held) (ps : List Payment) → T (ascending before_held es) → T (all (held_fits (suc n)) es) →
    T (ascending before_payment ps) → T (all (payment_fits (suc n)) ps) →
    too_many (view_of own n es ps) ≡ (not (leb (length ps) most_payments) || not (leb (length es) most_references))
unfolding too_many
pool_room own n es ps a t b u =
    let p = payments_count own n es ps b u in
    let r = references_count own n es ps a t in
    λ i. not (leb (p i) most_payments) || not (leb (r i) most_references)
