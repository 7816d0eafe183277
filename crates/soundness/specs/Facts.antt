-- Sound, taken apart into plain facts and put together again; and where the entries and payments that a wallet holds
-- come from.
use Rattle.std.specs.Prelude.{◌≡◌, Bool, not, ◌&&◌, ℕ, ◌≤◌, T, eqb, leb, length}
use Rattle.std.proofs.Common.{subst, ⊎_elim, T_not, leb→le, le→leb, eqb→eq}
use mathlib.Core.List.Memᴰ
use mathlib.Core.List.{List, [], ◌∷◌, ◌++◌, Memᴰ}
use Rattle.std.proofs.Math.Dec.{eqb_refl}
use Rattle.sets.specs.Sets.{all, has, ascending}
use Rattle.sets.specs.Tests.{or_left, or_right, or_cases, and_left, and_right, and_both, T-cases, neither_fails, every_at}
use Rattle.sets.specs.Tests.{none_failed}
use Rattle.sets.specs.Laws.{any_intro, any_none, all_intro, all_elim, gather_intro}
use Rattle.sets.specs.Walks.{every_holds}
use Rattle.rules.specs.declared.Entry.{Entry}
use Rattle.rules.specs.Sizes.{largest_amount, most_states, most_payments, most_references}
use Rattle.rules.specs.Chain.{same_number, same_entry, before_entry, same_value, Transaction, same_transaction, before_transaction, made, shaped_transaction, shaped_own, is_own}
use Rattle.rules.specs.ChainLaws.{same_reference_eq, same_transaction_refl, same_transaction_eq}
use Rattle.rules.specs.States.{State, Wallet, states, with_entries, with_payments}
use Rattle.rules.specs.Sound.{held_entries, held_payments, too_many, agree, agreeing, within_sizes, sets_in_order, sets_apart, sound}

-- ── agreement is equality under one reference, and under one number

pub agree_equal : (a b : Entry) → T (agree a b) → T (same_entry a b) → a ≡ b
agree_equal a b t s =
    let v : T (same_value a b) =
    ⊎_elim
    (λ (n : T (not (same_entry a b))). absurd (T_not (same_entry a b) n s))
    (λ (h : T (same_value a b)). h)
    (or_cases (not (same_entry a b)) (same_value a b) t)
    in
    let r = same_reference_eq a.reference b.reference s in
    let d = eqb→eq a.address b.address (and_left (eqb a.address b.address) (eqb a.amount b.amount) v) in
    let m = eqb→eq a.amount b.amount (and_right (eqb a.address b.address) (eqb a.amount b.amount) v) in
    λ i. record { reference = r i; address = d i; amount = m i }

pub equal_agree : (a b : Entry) → (T (same_entry a b) → a ≡ b) → T (agree a b)
equal_agree a b f =
    ⊎_elim
    (λ (s : T (same_entry a b)).
    or_right (not (same_entry a b)) (same_value a b)
    (subst (λ (c : Entry). T (same_value a c)) (f s)
    (and_both (eqb a.address a.address) (eqb a.amount a.amount) (eqb_refl a.address) (eqb_refl a.amount))))
    (λ (n : T (not (same_entry a b))). or_left (not (same_entry a b)) (same_value a b) n)
    (T-cases (same_entry a b))

pub agreeing_equal : (a b : Transaction) → T (agreeing a b) → T (same_number a.number b.number) → a ≡ b
agreeing_equal a b t s =
    ⊎_elim
    (λ (n : T (not (same_number a.number b.number))). absurd (T_not (same_number a.number b.number) n s))
    (λ (h : T (same_transaction a b)). same_transaction_eq a b h)
    (or_cases (not (same_number a.number b.number)) (same_transaction a b) t)

pub equal_agreeing : (a b : Transaction) → (T (same_number a.number b.number) → a ≡ b) → T (agreeing a b)
equal_agreeing a b f =
    ⊎_elim
    (λ (s : T (same_number a.number b.number)).
    or_right (not (same_number a.number b.number)) (same_transaction a b)
    (subst (λ (c : Transaction). T (same_transaction a c)) (f s) (same_transaction_refl a)))
    (λ (n : T (not (same_number a.number b.number))).
    or_left (not (same_number a.number b.number)) (same_transaction a b) n)
    (T-cases (same_number a.number b.number))

-- ── what a wallet holds

pub held_utxo : (w : Wallet) {s : State} {e : Entry} → Memᴰ s (states w) → Memᴰ e s.utxo → Memᴰ e (held_entries w)
held_utxo w {s} m h = gather_intro (λ (s : State). s.utxo ++ s.expected) m (Memᴰ.append_left s.expected h)

pub held_expected : (w : Wallet) {s : State} {e : Entry} → Memᴰ s (states w) → Memᴰ e s.expected → Memᴰ e (held_entries w)
held_expected w {s} m h = gather_intro (λ (s : State). s.utxo ++ s.expected) m (Memᴰ.append_right s.utxo h)

pub held_pending : (w : Wallet) {s : State} {p : Transaction} → Memᴰ s (states w) → Memᴰ p s.pending → Memᴰ p (held_payments w)
held_pending w m h = gather_intro (λ (s : State). s.pending) m h

-- ── the facts

pub record Sound (w : Wallet) : Type 0 where
  pub few_states : length (states w) ≤ most_states
  pub few_payments : length (with_payments [] (held_payments w)) ≤ most_payments
  pub few_references : length (with_entries [] (held_entries w)) ≤ most_references
  pub amounts : (e : Entry) → Memᴰ e (held_entries w) → e.amount ≤ largest_amount
  pub own_shaped : T (shaped_own w.own)
  pub utxo_ascending : (s : State) → Memᴰ s (states w) → T (ascending before_entry s.utxo)
  pub pending_ascending : (s : State) → Memᴰ s (states w) → T (ascending before_transaction s.pending)
  pub expected_ascending : (s : State) → Memᴰ s (states w) → T (ascending before_entry s.expected)
  pub payments_shaped : (p : Transaction) → Memᴰ p (held_payments w) → T (shaped_transaction p)
  pub entries_own : (e : Entry) → Memᴰ e (held_entries w) → T (is_own w.own e)
  pub apart : (s : State) → Memᴰ s (states w) → (e f : Entry) → Memᴰ e s.utxo → Memᴰ f s.expected → T (same_entry e f) → ⊥
  pub one_value : (e f : Entry) → Memᴰ e (held_entries w) → Memᴰ f (held_entries w) → T (same_entry e f) → e ≡ f
  pub one_content : (p q : Transaction) → Memᴰ p (held_payments w) → Memᴰ q (held_payments w) → T (same_number p.number q.number) → p ≡ q
  pub outputs_agree_lem : (o e : Entry) → Memᴰ o (made (held_payments w)) → Memᴰ e (held_entries w) → T (same_entry o e) → o ≡ e

-- not too many: the last two sizes are kept
pub room_kept : (w : Wallet) → T (not (too_many w)) → (length (with_payments [] (held_payments w)) ≤ most_payments) × (length (with_entries [] (held_entries w)) ≤ most_references)
unfolding too_many
room_kept w t =
    let n : ℕ = length (with_payments [] (held_payments w)) in
    let m : ℕ = length (with_entries [] (held_entries w)) in
    let k = none_failed (leb n most_payments) (leb m most_references) t in
    (leb→le n most_payments k.0, leb→le m most_references k.1)

pub kept_room : (w : Wallet) → length (with_payments [] (held_payments w)) ≤ most_payments → length (with_entries [] (held_entries w)) ≤ most_references → T (not (too_many w))
unfolding too_many
kept_room w p r =
    let n : ℕ = length (with_payments [] (held_payments w)) in
    let m : ℕ = length (with_entries [] (held_entries w)) in
    neither_fails (leb n most_payments) (leb m most_references) (le→leb n most_payments p) (le→leb m most_references r)

-- the clauses of `sound`, in its order
abbrev clauses : Wallet → List Bool
clauses w =
    within_sizes w
    ∷ shaped_own w.own
    ∷ all sets_in_order (states w)
    ∷ all shaped_transaction (held_payments w)
    ∷ all (is_own w.own) (held_entries w)
    ∷ all sets_apart (states w)
    ∷ all (λ e. all (agree e) (held_entries w)) (held_entries w)
    ∷ all (λ p. all (agreeing p) (held_payments w)) (held_payments w)
    ∷ all (λ o. all (agree o) (held_entries w)) (made (held_payments w))
    ∷ []

-- a sound wallet fulfils every fact
pub sound_facts : (w : Wallet) → T (sound w) → Sound w
unfolding sound within_sizes sets_in_order
sound_facts w t =
    let a : T (leb (length (states w)) most_states && not (too_many w) && all (λ e. leb e.amount largest_amount) (held_entries w)) = every_at (clauses w) 0 t in
    let sizes : T (leb (length (states w)) most_states && not (too_many w)) =
    and_left (leb (length (states w)) most_states && not (too_many w)) (all (λ e. leb e.amount largest_amount) (held_entries w)) a
    in
    let room = room_kept w (and_right (leb (length (states w)) most_states) (not (too_many w)) sizes) in
    let order : T (all sets_in_order (states w)) = every_at (clauses w) 2 t in
    record {
      few_states = leb→le (length (states w)) most_states (and_left (leb (length (states w)) most_states) (not (too_many w)) sizes);
      few_payments = room.0;
      few_references = room.1;
      amounts =
          λ e m.
          leb→le e.amount largest_amount
          (all_elim (λ (e : Entry). leb e.amount largest_amount)
          (and_right (leb (length (states w)) most_states && not (too_many w)) (all (λ e. leb e.amount largest_amount) (held_entries w)) a)
          m);
      own_shaped = every_at (clauses w) 1 t;
      utxo_ascending =
          λ s m.
          and_left (ascending before_entry s.utxo) (ascending before_transaction s.pending)
          (and_left (ascending before_entry s.utxo && ascending before_transaction s.pending) (ascending before_entry s.expected)
          (all_elim sets_in_order order m));
      pending_ascending =
          λ s m.
          and_right (ascending before_entry s.utxo) (ascending before_transaction s.pending)
          (and_left (ascending before_entry s.utxo && ascending before_transaction s.pending) (ascending before_entry s.expected)
          (all_elim sets_in_order order m));
      expected_ascending =
          λ s m.
          and_right (ascending before_entry s.utxo && ascending before_transaction s.pending) (ascending before_entry s.expected)
          (all_elim sets_in_order order m);
      payments_shaped = λ p m. all_elim shaped_transaction (every_at (clauses w) 3 t) m;
      entries_own = λ e m. all_elim (is_own w.own) (every_at (clauses w) 4 t) m;
      apart =
          λ s m e f h k q.
          T_not (has same_entry e s.expected)
          (all_elim (λ (e : Entry). not (has same_entry e s.expected)) (all_elim sets_apart (every_at (clauses w) 5 t) m) h)
          (any_intro (same_entry e) k q);
      one_value =
          λ e f m n q.
          agree_equal e f
          (all_elim (agree e) (all_elim (λ (e : Entry). all (agree e) (held_entries w)) (every_at (clauses w) 6 t) m) n)
          q;
      one_content =
          λ p r m n q.
          agreeing_equal p r
          (all_elim (agreeing p) (all_elim (λ (p : Transaction). all (agreeing p) (held_payments w)) (every_at (clauses w) 7 t) m) n)
          q;
      outputs_agree_lem =
          λ o e m n q.
          agree_equal o e
          (all_elim (agree o) (all_elim (λ (o : Entry). all (agree o) (held_entries w)) (every_at (clauses w) 8 t) m) n)
          q;
    }

-- a wallet that fulfils every fact is sound
pub facts_sound : (w : Wallet) → Sound w → T (sound w)
unfolding sound within_sizes sets_in_order
facts_sound w k =
    every_holds (clauses w) (
      and_both (leb (length (states w)) most_states && not (too_many w)) (all (λ e. leb e.amount largest_amount) (held_entries w))
          (and_both (leb (length (states w)) most_states) (not (too_many w))
          (le→leb (length (states w)) most_states k.few_states)
          (kept_room w k.few_payments k.few_references))
          (all_intro (λ e. leb e.amount largest_amount) (held_entries w) (λ e m. le→leb e.amount largest_amount (k.amounts e m))),
      (
        k.own_shaped,
        (
          all_intro sets_in_order (states w)
              (λ s m.
              and_both (ascending before_entry s.utxo && ascending before_transaction s.pending) (ascending before_entry s.expected)
              (and_both (ascending before_entry s.utxo) (ascending before_transaction s.pending) (k.utxo_ascending s m) (k.pending_ascending s m))
              (k.expected_ascending s m)),
          (
            all_intro shaped_transaction (held_payments w) k.payments_shaped,
            (
              all_intro (is_own w.own) (held_entries w) k.entries_own,
              (
                all_intro sets_apart (states w)
                    (λ s m.
                    all_intro (λ e. not (has same_entry e s.expected)) s.utxo
                    (λ e h. any_none (same_entry e) s.expected (λ f n q. k.apart s m e f h n q))),
                (
                  all_intro (λ e. all (agree e) (held_entries w)) (held_entries w)
                      (λ e m. all_intro (agree e) (held_entries w) (λ f n. equal_agree e f (k.one_value e f m n))),
                  (
                    all_intro (λ p. all (agreeing p) (held_payments w)) (held_payments w)
                        (λ p m. all_intro (agreeing p) (held_payments w) (λ q n. equal_agreeing p q (k.one_content p q m n))),
                    (
                      all_intro (λ o. all (agree o) (held_entries w)) (made (held_payments w))
                          (λ o m. all_intro (agree o) (held_entries w) (λ e n. equal_agree o e (k.outputs_agree_lem o e m n))),
                      tt,
                    ),
                  ),
                ),
              ),
            ),
          ),
        ),
      ),
    )
