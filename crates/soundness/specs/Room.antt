-- A rollback never lacks room: all that a wallet holds after it was held before.
use Rattle.std.specs.Prelude.{◌≡◌, refl, ◌⊎◌, not, ℕ, ◌≤◌, T, length}
use Rattle.std.proofs.Common.{subst, ⊎_elim, arith}
use mathlib.Core.List.Memᴰ
use mathlib.Core.List.{List, [], ◌∷◌, ◌++◌, Memᴰ}
use Rattle.sets.specs.Sets.{has}
use Rattle.sets.specs.Laws.{any_intro, keep_from, gather_elim, together_from}
use Rattle.sets.specs.Count.{set_fewer}
use Rattle.rules.specs.declared.Entry.{Entry}
use Rattle.rules.specs.Chain.{same_entry, before_entry, Transaction, same_transaction, before_transaction}
use Rattle.rules.specs.ChainLaws.{same_transaction_refl}
use Rattle.rules.specs.States.{State, Wallet, with_entries, with_payments, rolled_back, back_to, after_rollback}
use Rattle.rules.specs.Sound.{held_entries, held_payments, too_many, sound}
use Rattle.soundness.specs.Orders.{same_entry_refl, same_entry_sym, same_entry_trans, same_transaction_sym, same_transaction_trans}
use Rattle.soundness.specs.Facts.{sound_facts, kept_room, held_utxo, held_expected, held_pending}

-- the wallet whose present state is p and whose states below are given
abbrev pub wallet_of : List ℕ → State → List State → Wallet
wallet_of own p l = record { own = own; present = p; below = l }

-- ── all that is held after a rollback was held before

expected_from : (p q : State) {e : Entry} → Memᴰ e (rolled_back p q).expected → Memᴰ e q.expected ⊎ Memᴰ e (p.expected ++ p.utxo)
unfolding rolled_back
expected_from p q m =
    together_from same_entry before_entry q.expected (p.expected ++ p.utxo)
    (keep_from (λ (e : Entry). not (has same_entry e q.utxo)) (with_entries q.expected (p.expected ++ p.utxo)) m)

back_entry : (own : List ℕ) (p : State) (l : List State) {e : Entry} → Memᴰ e (held_entries (back_to own p l)) → Memᴰ e (held_entries (wallet_of own p l))
unfolding rolled_back
back_entry own p [] m = m
back_entry own p (q ∷ rest) {e} m =
    let r = gather_elim (λ (s : State). s.utxo ++ s.expected) (rolled_back p q ∷ rest) m in
    ⊎_elim
    (λ (d : r.0 ≡ rolled_back p q).
    ⊎_elim
    (λ (h : Memᴰ e q.utxo). held_utxo w (Memᴰ.tail (Memᴰ.head refl)) h)
    (λ (h : Memᴰ e (rolled_back p q).expected).
    ⊎_elim
    (λ (k : Memᴰ e q.expected). held_expected w (Memᴰ.tail (Memᴰ.head refl)) k)
    (λ (k : Memᴰ e (p.expected ++ p.utxo)).
    ⊎_elim
    (λ (n : Memᴰ e p.expected). held_expected w (Memᴰ.head refl) n)
    (λ (n : Memᴰ e p.utxo). held_utxo w (Memᴰ.head refl) n)
    (Memᴰ.append_cases p.expected k))
    (expected_from p q h))
    (Memᴰ.append_cases q.utxo (subst (λ (s : State). Memᴰ e (s.utxo ++ s.expected)) d r.2)))
    (λ (k : Memᴰ r.0 rest).
    ⊎_elim
    (λ (h : Memᴰ e r.0.utxo). held_utxo w (Memᴰ.tail (Memᴰ.tail k)) h)
    (λ (h : Memᴰ e r.0.expected). held_expected w (Memᴰ.tail (Memᴰ.tail k)) h)
    (Memᴰ.append_cases r.0.utxo r.2))
    (Memᴰ.cases_cons r.1)
  where
    w : Wallet
    w = wallet_of own p (q ∷ rest)

back_payment : (own : List ℕ) (p : State) (l : List State) {t : Transaction} → Memᴰ t (held_payments (back_to own p l)) → Memᴰ t (held_payments (wallet_of own p l))
unfolding rolled_back
back_payment own p [] m = m
back_payment own p (q ∷ rest) {t} m =
    let r = gather_elim (λ (s : State). s.pending) (rolled_back p q ∷ rest) m in
    ⊎_elim
    (λ (d : r.0 ≡ rolled_back p q).
    ⊎_elim
    (λ (h : Memᴰ t q.pending). held_pending w (Memᴰ.tail (Memᴰ.head refl)) h)
    (λ (h : Memᴰ t p.pending). held_pending w (Memᴰ.head refl) h)
    (together_from same_transaction before_transaction q.pending p.pending
    (subst (λ (s : State). Memᴰ t s.pending) d r.2)))
    (λ (k : Memᴰ r.0 rest). held_pending w (Memᴰ.tail (Memᴰ.tail k)) r.2)
    (Memᴰ.cases_cons r.1)
  where
    w : Wallet
    w = wallet_of own p (q ∷ rest)

-- an entry held after a rollback was held before
pub rollback_entry : (w : Wallet) {e : Entry} → Memᴰ e (held_entries (after_rollback w)) → Memᴰ e (held_entries w)
unfolding after_rollback
rollback_entry w m = back_entry w.own w.present w.below m

-- a payment held after a rollback was held before
pub rollback_payment : (w : Wallet) {t : Transaction} → Memᴰ t (held_payments (after_rollback w)) → Memᴰ t (held_payments w)
unfolding after_rollback
rollback_payment w m = back_payment w.own w.present w.below m

-- ── so there are no more different ones

-- a rollback of a sound wallet keeps the last two sizes
pub rollback_room : (w : Wallet) → T (sound w) → T (not (too_many (after_rollback w)))
rollback_room w t =
    let k = sound_facts w t in
    let p : length (with_payments [] (held_payments (after_rollback w))) ≤ length (with_payments [] (held_payments w)) =
    set_fewer same_transaction same_transaction_sym same_transaction_trans before_transaction same_transaction_refl
    (held_payments (after_rollback w)) (held_payments w)
    (λ x m. any_intro (same_transaction x) (rollback_payment w m) (same_transaction_refl x))
    in
    let r : length (with_entries [] (held_entries (after_rollback w))) ≤ length (with_entries [] (held_entries w)) =
    set_fewer same_entry same_entry_sym same_entry_trans before_entry same_entry_refl
    (held_entries (after_rollback w)) (held_entries w)
    (λ x m. any_intro (same_entry x) (rollback_entry w m) (same_entry_refl x))
    in
    kept_room (after_rollback w) (omega (arith, p, k.few_payments)) (omega (arith, r, k.few_references))
