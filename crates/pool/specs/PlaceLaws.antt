-- One place of the pool: the order of places, that each reference and each number stands in one place, and what a place
-- that fits bears.
use Rattle.std.specs.Prelude.{◌≡◌, ◌⊎◌, not, ◌&&◌, ℕ, ◌^◌, ◌<◌, T, eqb, ltb}
use Rattle.std.proofs.Common.{subst, inl, inr, ⊎_elim, T_not, ltb→lt, lt→ltb}
use mathlib.Core.List.{List, Memᴰ}
use Rattle.std.proofs.Math.Dec.{not_T}
use Rattle.sets.specs.Sets.{ascending}
use Rattle.sets.specs.Tests.{and_left, and_right, and_both, T-cases, one_fails}
use Rattle.sets.specs.Count.{ascending_neither}
use Rattle.rules.specs.declared.Number.{Number}
use Rattle.rules.specs.declared.Entry.{Entry}
use Rattle.rules.specs.Chain as Chain
use Rattle.rules.specs.Chain.{same_number, before_number, same_entry}
use Rattle.rules.specs.ChainLaws.{same_number_eq, before_number_irrefl}
use Rattle.soundness.specs.Orders.{same_entry_sym, before_entry_trans, before_entry_never, before_transaction_trans}
use Rattle.chain.specs.View as ChainView
use Rattle.chain.specs.View.{view_transaction}
use Rattle.pool.specs.declared.Held.{Held}
use Rattle.pool.specs.declared.Payment.{Payment}
use Rattle.pool.specs.Marks.{marked}
use Rattle.pool.specs.MarkLaws.{marked_some, word_some}
use Rattle.pool.specs.Good.{before_held, before_payment, held_fits, payment_fits}
use Rattle.pool.specs.Book.{held_marked, payment_marked}

-- the content of a place of each list
abbrev pub entry_in : Held → Entry
entry_in h = h.entry

abbrev pub payment_in : Payment → Chain.Transaction
payment_in p = view_transaction p.transaction

-- ── one place for each reference and each number

pub before_held_trans : (a b c : Held) → T (before_held a b) → T (before_held b c) → T (before_held a c)
before_held_trans a b c s t = before_entry_trans a.entry b.entry c.entry s t

pub before_payment_trans : (a b c : Payment) → T (before_payment a b) → T (before_payment b c) → T (before_payment a c)
before_payment_trans a b c s t = before_transaction_trans (payment_in a) (payment_in b) (payment_in c) s t

-- two entries of the pool with one reference stand in one place
pub held_once : (es : List Held) → T (ascending before_held es) → (a b : Held) → Memᴰ a es → Memᴰ b es → T (same_entry a.entry b.entry) → a ≡ b
held_once es t a b m n s =
    ascending_neither before_held before_held_trans es t m n
    (before_entry_never a.entry b.entry s)
    (before_entry_never b.entry a.entry (same_entry_sym a.entry b.entry s))

-- two payments of the pool with one number stand in one place
pub payment_once : (ps : List Payment) → T (ascending before_payment ps) → (a b : Payment) → Memᴰ a ps → Memᴰ b ps → T (same_number a.transaction.number b.transaction.number) → a ≡ b
payment_once ps t a b m n s =
    let e : a.transaction.number ≡ b.transaction.number = same_number_eq a.transaction.number b.transaction.number s in
    ascending_neither before_payment before_payment_trans ps t m n
    (λ (h : T (before_payment a b)). before_number_irrefl b.transaction.number (subst (λ (x : Number). T (before_number x b.transaction.number)) e h))
    (λ (h : T (before_payment b a)). before_number_irrefl b.transaction.number (subst (λ (x : Number). T (before_number b.transaction.number x)) e h))

-- ── marks

pub utxo_marked : (k : ℕ) (h : Held) → T (marked k h.utxo) → T (held_marked h)
utxo_marked k h t = one_fails (eqb h.utxo 0) (eqb h.expected 0) (inl (marked_some k h.utxo t))

pub expected_marked : (k : ℕ) (h : Held) → T (marked k h.expected) → T (held_marked h)
expected_marked k h t = one_fails (eqb h.utxo 0) (eqb h.expected 0) (inr (marked_some k h.expected t))

-- ── what a place that fits bears

pub held_utxo_fits : (n : ℕ) (h : Held) → T (held_fits n h) → h.utxo < 2 ^ n
held_utxo_fits n h t =
    ltb→lt h.utxo (2 ^ n)
    (and_left (ltb h.utxo (2 ^ n)) (ltb h.expected (2 ^ n))
    (and_left (ltb h.utxo (2 ^ n) && ltb h.expected (2 ^ n)) (held_marked h) t))

pub held_expected_fits : (n : ℕ) (h : Held) → T (held_fits n h) → h.expected < 2 ^ n
held_expected_fits n h t =
    ltb→lt h.expected (2 ^ n)
    (and_right (ltb h.utxo (2 ^ n)) (ltb h.expected (2 ^ n))
    (and_left (ltb h.utxo (2 ^ n) && ltb h.expected (2 ^ n)) (held_marked h) t))

pub held_marked_lem : (n : ℕ) (h : Held) → T (held_fits n h) → T (held_marked h)
held_marked_lem n h t = and_right (ltb h.utxo (2 ^ n) && ltb h.expected (2 ^ n)) (held_marked h) t

-- and the other way round
pub held_fits_lem : (n : ℕ) (h : Held) → h.utxo < 2 ^ n → h.expected < 2 ^ n → T (held_marked h) → T (held_fits n h)
held_fits_lem n h u x t =
    and_both (ltb h.utxo (2 ^ n) && ltb h.expected (2 ^ n)) (held_marked h)
    (and_both (ltb h.utxo (2 ^ n)) (ltb h.expected (2 ^ n)) (lt→ltb h.utxo (2 ^ n) u) (lt→ltb h.expected (2 ^ n) x))
    t

-- a place has a mark in one of its two words
pub held_some : (n : ℕ) (h : Held) → T (held_fits n h) → (k : ℕ) × (k < n) × (T (marked k h.utxo) ⊎ T (marked k h.expected))
held_some n h t =
    ⊎_elim
    (λ (z : T (eqb h.utxo 0)).
    let r =
    word_some n h.expected (held_expected_fits n h t)
    (not_T (eqb h.expected 0)
    (λ (y : T (eqb h.expected 0)). T_not (eqb h.utxo 0 && eqb h.expected 0) (held_marked_lem n h t) (and_both (eqb h.utxo 0) (eqb h.expected 0) z y)))
    in
    (r.0, r.1, inr r.2))
    (λ (z : T (not (eqb h.utxo 0))).
    let r = word_some n h.utxo (held_utxo_fits n h t) z in
    (r.0, r.1, inl r.2))
    (T-cases (eqb h.utxo 0))

pub payment_pending_fits : (n : ℕ) (p : Payment) → T (payment_fits n p) → p.pending < 2 ^ n
payment_pending_fits n p t =
    ltb→lt p.pending (2 ^ n)
    (and_left (ltb p.pending (2 ^ n)) (payment_marked p)
    (and_left (ltb p.pending (2 ^ n) && payment_marked p) (ChainView.laid_out p.transaction) t))

pub payment_marked_lem : (n : ℕ) (p : Payment) → T (payment_fits n p) → T (payment_marked p)
payment_marked_lem n p t =
    and_right (ltb p.pending (2 ^ n)) (payment_marked p)
    (and_left (ltb p.pending (2 ^ n) && payment_marked p) (ChainView.laid_out p.transaction) t)

pub payment_laid_out : (n : ℕ) (p : Payment) → T (payment_fits n p) → T (ChainView.laid_out p.transaction)
payment_laid_out n p t =
    and_right (ltb p.pending (2 ^ n) && payment_marked p) (ChainView.laid_out p.transaction) t

pub payment_fits_lem : (n : ℕ) (p : Payment) → p.pending < 2 ^ n → T (payment_marked p) → T (ChainView.laid_out p.transaction) → T (payment_fits n p)
payment_fits_lem n p h m t =
    and_both (ltb p.pending (2 ^ n) && payment_marked p) (ChainView.laid_out p.transaction)
    (and_both (ltb p.pending (2 ^ n)) (payment_marked p) (lt→ltb p.pending (2 ^ n) h) m)
    t

pub payment_some : (n : ℕ) (p : Payment) → T (payment_fits n p) → (k : ℕ) × (k < n) × T (marked k p.pending)
payment_some n p t = word_some n p.pending (payment_pending_fits n p t) (payment_marked_lem n p t)
