-- One view, one struct: two laid out pools that show the same wallet of the rules are equal in every place.
use Rattle.std.specs.Prelude.{◌≡◌, Bool, true, false, cond, List, [], map, ℕ, zero, suc, ◌+◌, ◌<◌, T, eqb, length, get_or}
use Rattle.std.proofs.Common.{sym, ap, subst, ◌∙◌, ⊎_elim, arith, eqb→eq}
use Rattle.sets.specs.Sets.{all, keep, ascending}
use Rattle.sets.specs.Laws.{all_elim}
use Rattle.sets.specs.Walks.{places_one}
use Rattle.sets.specs.Picks.{picks_one}
use Rattle.rules.specs.declared.Entry.{Entry}
use Rattle.rules.specs.Chain as Chain
use Rattle.rules.specs.Chain.{before_number, before_entry}
use Rattle.rules.specs.ChainLaws.{before_number_irrefl}
use Rattle.rules.specs.States as States
use Rattle.rules.specs.States.{State, states}
use Rattle.soundness.specs.Orders.{before_entry_irrefl}
use Rattle.pool.specs.declared.Held.{Held}
use Rattle.pool.specs.declared.Payment.{Payment}
use Rattle.pool.specs.declared.Pool.{Pool}
use Rattle.pool.specs.Marks.{marked}
use Rattle.pool.specs.MarkLaws.{word_one}
use Rattle.pool.specs.View.{entries_of, payments_of, utxo_at, expected_at, pending_at, state_at, states_from, view_of, view}
use Rattle.pool.specs.Good.{no_held, no_payment, before_held, before_payment, held_fits, payment_fits, laid_out}
use Rattle.pool.specs.Book.{zero_held, zero_payment}
use Rattle.chain.specs.ViewLaws.{view_one as transaction-one}
use Rattle.pool.specs.LayoutLaws.{laid_out_facts, no_held_lem, no_payment_lem}
use Rattle.pool.specs.PlaceLaws.{entry_in, payment_in, before_held_trans, before_payment_trans, held_utxo_fits, held_expected_fits, held_some, payment_pending_fits, payment_laid_out, payment_some}
use Rattle.pool.specs.RoomLaws.{states_count}

-- ── entries

-- a mark of the first n states, in the UTxO word or in the expected word
abbrev HeldMark : ℕ → Type 0
HeldMark n = (b : Bool) × (k : ℕ) × (k < n)

abbrev bears : (n : ℕ) → HeldMark n → Held → Bool
bears n i h = cond i.0 (marked i.1 h.utxo) (marked i.1 h.expected)

held_bears : (n : ℕ) (h : Held) → T (held_fits n h) → (i : HeldMark n) × T (bears n i h)
held_bears n h t =
    let k = held_some n h t in
    ⊎_elim
    (λ (q : T (marked k.0 h.utxo)). ((true, k.0, k.1), q))
    (λ (q : T (marked k.0 h.expected)). ((false, k.0, k.1), q))
    k.2

held_whole : (n : ℕ) (a b : Held) → T (held_fits n a) → T (held_fits n b) → a.entry ≡ b.entry → ((i : HeldMark n) → bears n i a ≡ bears n i b) → a ≡ b
held_whole n a b s t e f =
    let u = word_one n a.utxo b.utxo (held_utxo_fits n a s) (held_utxo_fits n b t) (λ k q. f (true, k, q)) in
    let x = word_one n a.expected b.expected (held_expected_fits n a s) (held_expected_fits n b t) (λ k q. f (false, k, q)) in
    λ i. record { entry = e i; utxo = u i; expected = x i }

-- the entries of a pool are determined by the UTxO and expected sets of its states
pub entries_one :
    (n : ℕ) (es fs : List Held) → T (ascending before_held es) → T (ascending before_held fs) → T (all (held_fits n) es) →
    T (all (held_fits n) fs) → ((k : ℕ) → k < n → utxo_at k es ≡ utxo_at k fs) →
    ((k : ℕ) → k < n → expected_at k es ≡ expected_at k fs) → es ≡ fs
entries_one n es fs a b s t u x =
    picks_one before_held before_held_trans entry_in
    (λ (c d : Held) (q : c.entry ≡ d.entry) (r : T (before_held c d)).
    before_entry_irrefl c.entry (subst (λ (e : Entry). T (before_entry c.entry e)) (sym q) r))
    (bears n) es fs a b
    (λ h m. held_bears n h (all_elim (held_fits n) s m))
    (λ h m. held_bears n h (all_elim (held_fits n) t m))
    (λ h g p q. held_whole n h g (all_elim (held_fits n) s p) (all_elim (held_fits n) t q))
    (λ i. picks i.0 i.1 i.2)
  where
    picks : (c : Bool) (k : ℕ) (q : k < n) → map entry_in (keep (bears n (c, k, q)) es) ≡ map entry_in (keep (bears n (c, k, q)) fs)
    picks true k q = u k q
    picks false k q = x k q

-- ── payments

abbrev PaymentMark : ℕ → Type 0
PaymentMark n = (k : ℕ) × (k < n)

payment_whole : (n : ℕ) (a b : Payment) → T (payment_fits n a) → T (payment_fits n b) → payment_in a ≡ payment_in b → ((i : PaymentMark n) → marked i.0 a.pending ≡ marked i.0 b.pending) → a ≡ b
payment_whole n a b s t e f =
    let c = transaction-one a.transaction b.transaction (payment_laid_out n a s) (payment_laid_out n b t) e in
    let p = word_one n a.pending b.pending (payment_pending_fits n a s) (payment_pending_fits n b t) (λ k q. f (k, q)) in
    λ i. record { transaction = c i; pending = p i }

-- the payments of a pool are determined by the pending sets of its states
pub payments_one :
    (n : ℕ) (ps qs : List Payment) → T (ascending before_payment ps) → T (ascending before_payment qs) →
    T (all (payment_fits n) ps) → T (all (payment_fits n) qs) → ((k : ℕ) → k < n → pending_at k ps ≡ pending_at k qs) → ps ≡ qs
payments_one n ps qs a b s t u =
    picks_one before_payment before_payment_trans payment_in
    (λ (c d : Payment) (q : payment_in c ≡ payment_in d) (r : T (before_payment c d)).
    before_number_irrefl c.transaction.number
    (subst (λ (e : Chain.Transaction). T (before_number c.transaction.number e.number)) (sym q) r))
    (λ (i : PaymentMark n) (p : Payment). marked i.0 p.pending)
    ps qs a b
    (λ p m. let k = payment_some n p (all_elim (payment_fits n) s m) in ((k.0, k.1), k.2))
    (λ p m. let k = payment_some n p (all_elim (payment_fits n) t m) in ((k.0, k.1), k.2))
    (λ p q g h. payment_whole n p q (all_elim (payment_fits n) s g) (all_elim (payment_fits n) t h))
    (λ i. u i.0 i.1)

-- ── the whole pool

from_state : (k n j : ℕ) (es : List Held) (ps : List Payment) (d : State) → j < n → get_or (states_from k n es ps) j d ≡ state_at (k + j) es ps
from_state k zero j es ps d h = absurd (omega arith)
from_state k (suc n) zero es ps d h =
    let e : k ≡ k + zero = omega arith in
    ap (λ (i : ℕ). state_at i es ps) e
from_state k (suc n) (suc j) es ps d h =
    let e : suc k + j ≡ k + suc j = omega arith in
    from_state (suc k) n j es ps d (omega arith) ∙ ap (λ (i : ℕ). state_at i es ps) e

-- state k of a view, by its place
pub view_state : (own : List ℕ) (n k : ℕ) (es : List Held) (ps : List Payment) (d : State) → k < suc n → get_or (states (view_of own n es ps)) k d ≡ state_at k es ps
view_state own n k es ps d h =
    let e : 0 + k ≡ k = omega arith in
    from_state 0 (suc n) k es ps d h ∙ ap (λ (i : ℕ). state_at i es ps) e

below_one : (w v : Pool) → view w ≡ view v → w.below ≡ v.below
below_one w v e =
    sym (states_count 1 w.below (entries_of w) (payments_of w))
    ∙ ap (λ (u : States.Wallet). length u.below) e
    ∙ states_count 1 v.below (entries_of v) (payments_of v)

state_one : (w v : Pool) → view w ≡ view v → (k : ℕ) → k < suc w.below → state_at k (entries_of w) (payments_of w) ≡ state_at k (entries_of v) (payments_of v)
state_one w v e k h =
    let d : State = record { utxo = []; pending = []; expected = [] } in
    let b : w.below ≡ v.below = below_one w v e in
    sym (view_state (view w).own w.below k (entries_of w) (payments_of w) d h)
    ∙ ap (λ (u : States.Wallet). get_or (states u) k d) e
    ∙ view_state (view v).own v.below k (entries_of v) (payments_of v) d (omega arith)

-- two laid out pools with one view are one
pub view_one : (w v : Pool) → T (laid_out w) → T (laid_out v) → view w ≡ view v → w ≡ v
view_one w v s t e =
    let f = laid_out_facts w s in
    let g = laid_out_facts v t in
    let b : w.below ≡ v.below = below_one w v e in
    let es : entries_of w ≡ entries_of v =
    entries_one (suc w.below) (entries_of w) (entries_of v) f.entries_ascend g.entries_ascend f.entries_fit
    (subst (λ (n : ℕ). T (all (held_fits (suc n)) (entries_of v))) (sym b) g.entries_fit)
    (λ k h. ap (λ (x : State). x.utxo) (state_one w v e k h))
    (λ k h. ap (λ (x : State). x.expected) (state_one w v e k h))
    in
    let ps : payments_of w ≡ payments_of v =
    payments_one (suc w.below) (payments_of w) (payments_of v) f.payments_ascend g.payments_ascend f.payments_fit
    (subst (λ (n : ℕ). T (all (payment_fits (suc n)) (payments_of v))) (sym b) g.payments_fit)
    (λ k h. ap (λ (x : State). x.pending) (state_one w v e k h))
    in
    let own =
    places_one (λ (a : ℕ). eqb a 0) 0 (λ a z. eqb→eq a 0 z) w.own v.own w.owns v.owns
    (f.own_length ∙ sym g.own_length)
    (omega (arith, f.own_length, f.few_own))
    (omega (arith, g.own_length, g.few_own))
    f.own_rest g.own_rest
    (ap (λ (u : States.Wallet). u.own) e)
    in
    let entries =
    places_one no_held zero_held no_held_lem w.entries v.entries w.used v.used
    (f.entries_length ∙ sym g.entries_length)
    (omega (arith, f.entries_length, f.few_entries))
    (omega (arith, g.entries_length, g.few_entries))
    f.entries_rest g.entries_rest es
    in
    let payments =
    places_one no_payment zero_payment no_payment_lem w.payments v.payments w.paying v.paying
    (f.payments_length ∙ sym g.payments_length)
    (omega (arith, f.payments_length, f.few_payments))
    (omega (arith, g.payments_length, g.few_payments))
    f.payments_rest g.payments_rest ps
    in
    λ i.
    record {
      own = own.1 i;
      owns = own.0 i;
      below = b i;
      entries = entries.1 i;
      used = entries.0 i;
      payments = payments.1 i;
      paying = payments.0 i;
    }
