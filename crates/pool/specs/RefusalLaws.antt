-- What the rules ask of a wallet's view, asked of the pool: all that the held states hold is all that the pool holds,
-- the tests of refusals 2, 6 and 8 are tests of the used places, and so is what is available.
use Rattle.std.specs.Prelude.{ℕ, zero, suc, ◌≡◌, refl, Bool, not, ◌&&◌, ◌||◌, List, map, take, T, eqb}
use Rattle.std.proofs.Common.{sym, ap, ◌∙◌}
use Rattle.std.proofs.Math.Dec.{eqb-suc-zero}
use Rattle.sets.specs.Sets.{any, all, has, keep}
use Rattle.sets.specs.Laws.{keep-keep}
use Rattle.sets.specs.Maps.{all_same, any_seen, all_seen, keep-map}
use Rattle.rules.specs.declared.Number.{Number}
use Rattle.rules.specs.declared.Reference.{Reference}
use Rattle.rules.specs.declared.Entry.{Entry}
use Rattle.rules.specs.Chain as Chain
use Rattle.rules.specs.Chain.{same_number, same_reference, made, spent}
use Rattle.rules.specs.Balances.{available}
use Rattle.rules.specs.Sound.{held_entries, held_payments, agree, agreeing}
use Rattle.rules.specs.Steps.{number_taken, contradicts, only_one}
use Rattle.chain.specs.View as ChainView
use Rattle.chain.specs.View.{view_transaction}
use Rattle.pool.specs.declared.Held.{Held}
use Rattle.pool.specs.declared.Payment.{Payment}
use Rattle.pool.specs.declared.Pool.{Pool}
use Rattle.pool.specs.Marks.{marked}
use Rattle.pool.specs.View.{entries_of, payments_of, pending_at, states_from, view_of, view}
use Rattle.pool.specs.Good.{held_fits, payment_fits, laid_out}
use Rattle.pool.specs.LayoutLaws.{laid_out_facts}
use Rattle.pool.specs.RoomLaws.{held_entry_place, place_entry_held, held_payment_place, place_payment_held}

-- ── tests of all that is held

pub any_entry : (own : List ℕ) (n : ℕ) (es : List Held) (ps : List Payment) → T (all (held_fits (suc n)) es) → (p : Entry → Bool) → any p (held_entries (view_of own n es ps)) ≡ any (λ h. p h.entry) es
any_entry own n es ps t p =
    any_seen (λ (h : Held). h.entry) es (held_entries (view_of own n es ps))
    (λ h m. place_entry_held own n es ps t m) (λ e m. held_entry_place own n es ps m) p

pub all_entry : (own : List ℕ) (n : ℕ) (es : List Held) (ps : List Payment) → T (all (held_fits (suc n)) es) → (p : Entry → Bool) → all p (held_entries (view_of own n es ps)) ≡ all (λ h. p h.entry) es
all_entry own n es ps t p =
    all_seen (λ (h : Held). h.entry) es (held_entries (view_of own n es ps))
    (λ h m. place_entry_held own n es ps t m) (λ e m. held_entry_place own n es ps m) p

pub any_payment : (own : List ℕ) (n : ℕ) (es : List Held) (ps : List Payment) → T (all (payment_fits (suc n)) ps) → (p : Chain.Transaction → Bool) → any p (held_payments (view_of own n es ps)) ≡ any (λ q. p (view_transaction q.transaction)) ps
any_payment own n es ps t p =
    any_seen (λ (q : Payment). view_transaction q.transaction) ps (held_payments (view_of own n es ps))
    (λ q m. place_payment_held own n es ps t m) (λ u m. held_payment_place own n es ps m) p

pub all_payment : (own : List ℕ) (n : ℕ) (es : List Held) (ps : List Payment) → T (all (payment_fits (suc n)) ps) → (p : Chain.Transaction → Bool) → all p (held_payments (view_of own n es ps)) ≡ all (λ q. p (view_transaction q.transaction)) ps
all_payment own n es ps t p =
    all_seen (λ (q : Payment). view_transaction q.transaction) ps (held_payments (view_of own n es ps))
    (λ q m. place_payment_held own n es ps t m) (λ u m. held_payment_place own n es ps m) p

-- ── the refusals' tests

-- 2: the number is that of a payment or of an entry of the pool
pub number_taken_lem :
    (w : Pool) → T (laid_out w) → (n : Number) →
    number_taken (view w) n
    ≡ (any (λ p. same_number n p.transaction.number) (payments_of w) || any (λ h. same_number n h.entry.reference.number) (entries_of w))
unfolding number_taken
number_taken_lem w t n =
    let p : any (λ p. same_number n p.number) (held_payments (view w)) ≡ any (λ p. same_number n p.transaction.number) (payments_of w) =
    any_payment (take w.owns w.own) w.below (entries_of w) (payments_of w) (laid_out_facts w t).payments_fit (λ p. same_number n p.number)
    in
    let e : any (λ e. same_number n e.reference.number) (held_entries (view w)) ≡ any (λ h. same_number n h.entry.reference.number) (entries_of w) =
    any_entry (take w.owns w.own) w.below (entries_of w) (payments_of w) (laid_out_facts w t).entries_fit (λ e. same_number n e.reference.number)
    in
    λ i. p i || e i

-- 6: an output disagrees with a place's entry, or a transaction with a payment
pub contradicts_pool :
    (w : Pool) → T (laid_out w) → (b : Chain.Block) →
    contradicts (view w) b
    ≡ (not (all (λ e. all (λ h. agree e h.entry) (entries_of w)) (made b))
    || not (all (λ t. all (λ p. agreeing t (view_transaction p.transaction)) (payments_of w)) b))
unfolding contradicts
contradicts_pool w t b =
    let e : all (λ e. all (agree e) (held_entries (view w))) (made b) ≡ all (λ e. all (λ h. agree e h.entry) (entries_of w)) (made b) =
    all_same (λ e. all (agree e) (held_entries (view w))) (λ e. all (λ h. agree e h.entry) (entries_of w)) (made b)
    (λ e m. all_entry (take w.owns w.own) w.below (entries_of w) (payments_of w) (laid_out_facts w t).entries_fit (agree e))
    in
    let p : all (λ u. all (agreeing u) (held_payments (view w))) b ≡ all (λ u. all (λ p. agreeing u (view_transaction p.transaction)) (payments_of w)) b =
    all_same (λ u. all (agreeing u) (held_payments (view w))) (λ u. all (λ p. agreeing u (view_transaction p.transaction)) (payments_of w)) b
    (λ u m. all_payment (take w.owns w.own) w.below (entries_of w) (payments_of w) (laid_out_facts w t).payments_fit (agreeing u))
    in
    λ i. not (e i) || not (p i)

-- a place of the present UTxO that no pending payment takes
abbrev pub is_available : List Payment → Held → Bool
is_available ps h = marked 0 h.utxo && not (has same_reference h.entry.reference (spent (pending_at 0 ps)))

-- the reference is that of an available place
abbrev pub stands_available : List Held → List Payment → Reference → Bool
stands_available es ps r = any (λ h. same_reference r h.entry.reference && is_available ps h) es

-- the available set is that of the available places
pub available_places : (w : Pool) → available (view w).present ≡ map (λ h. h.entry) (keep (is_available (payments_of w)) (entries_of w))
unfolding available
available_places w =
    let free : Entry → Bool = λ e. not (has same_reference e.reference (spent (pending_at 0 (payments_of w)))) in
    keep-map free (λ h. h.entry) (keep (λ h. marked 0 h.utxo) (entries_of w))
    ∙ ap (map (λ h. h.entry)) (keep-keep (λ h. free h.entry) (λ h. marked 0 h.utxo) (entries_of w))

-- 8: no state lies below the present one
pub only_one_lem : (w : Pool) → only_one (view w).below ≡ eqb w.below 0
only_one_lem w = none_below w.below
  where
    none_below : (n : ℕ) → only_one (states_from 1 n (entries_of w) (payments_of w)) ≡ eqb n 0
    none_below zero = refl
    none_below (suc n) = sym (eqb-suc-zero n)
