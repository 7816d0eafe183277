-- An accepted rollback keeps a wallet sound: it brings in nothing new, and takes the restored UTxO out of expected.
use Rattle.std.specs.Prelude.{◌≡◌, refl, not, ℕ, ◌≤◌, T, length}
use Rattle.std.proofs.Common.{subst, ⊎_elim, arith, T_not}
use mathlib.Core.List.{List, [], ◌∷◌, ◌++◌, Memᴰ}
use Rattle.sets.specs.Sets.{has, ascending}
use Rattle.sets.specs.Laws.{any_intro, keep_holds, gather_intro, gather_elim}
use Rattle.sets.specs.Order.{ascending-keep, together-ascending}
use Rattle.sets.specs.Count.{each_cons}
use Rattle.rules.specs.declared.Entry.{Entry}
use Rattle.rules.specs.Chain.{same_number, same_entry, before_entry, Transaction, same_transaction, before_transaction, makes}
use Rattle.rules.specs.ChainLaws.{same_transaction_refl}
use Rattle.rules.specs.States.{State, Wallet, states, with_entries, rolled_back, back_to, after_rollback}
use Rattle.rules.specs.Sound.{held_payments, sound}
use Rattle.soundness.specs.Orders.{same_entry_sym, before_entry_trans, before_entry_one, before_transaction_trans, before_transaction_one}
use Rattle.soundness.specs.Facts.{Sound, sound_facts, facts_sound, held_pending, room_kept}
use Rattle.soundness.specs.Room.{rollback_entry, rollback_payment, rollback_room}

-- what holds of the restored state, and of each state held before, holds of each state held after
each_state :
    (own : List ℕ) (p : State) (l : List State) (P : State → Type 0) → ((q : State) → Memᴰ q l → P (rolled_back p q)) →
    ((s : State) → Memᴰ s (p ∷ l) → P s) → (s : State) → Memᴰ s (states (back_to own p l)) → P s
each_state own p [] P new old s m = old s m
each_state own p (q ∷ rest) P new old s m =
    each_cons P (rolled_back p q) rest (new q (mathlib.Core.List.Memᴰ.head refl)) (λ u h. old u (mathlib.Core.List.Memᴰ.tail (mathlib.Core.List.Memᴰ.tail h))) s m

fewer_states : (own : List ℕ) (p : State) (l : List State) → length (states (back_to own p l)) ≤ length (p ∷ l)
fewer_states own p [] = omega arith
fewer_states own p (q ∷ rest) = omega arith

same_own : (own : List ℕ) (p : State) (l : List State) → (back_to own p l).own ≡ own
same_own own p [] = refl
same_own own p (q ∷ rest) = refl

-- ── the restored state

-- its expected set ascends where the lower one did
pub rolled_back_expected_ascending : (p q : State) → T (ascending before_entry q.expected) → T (ascending before_entry (rolled_back p q).expected)
unfolding rolled_back
rolled_back_expected_ascending p q t =
    ascending-keep before_entry before_entry_trans (λ e. not (has same_entry e q.utxo)) (with_entries q.expected (p.expected ++ p.utxo))
    (together-ascending before_entry before_entry_trans same_entry q.expected (p.expected ++ p.utxo) (λ x y m n d. before_entry_one x y d) t)

rolled_back_pending_ascending : (w : Wallet) → Sound w → (q : State) → Memᴰ q w.below → T (ascending before_transaction (rolled_back w.present q).pending)
unfolding rolled_back
rolled_back_pending_ascending w k q h =
    together-ascending before_transaction before_transaction_trans same_transaction q.pending w.present.pending
    (λ x y m n d.
    let mx : Memᴰ x (held_payments w) = held_pending w (mathlib.Core.List.Memᴰ.head refl) m in
    let my : Memᴰ y (held_payments w) =
    ⊎_elim
    (λ (g : Memᴰ y q.pending). held_pending w (mathlib.Core.List.Memᴰ.tail h) g)
    (λ (g : Memᴰ y w.present.pending). held_pending w (mathlib.Core.List.Memᴰ.head refl) g)
    n
    in
    before_transaction_one x y
    (λ (s : T (same_number x.number y.number)).
    T_not (same_transaction x y) d
    (subst (λ (t : Transaction). T (same_transaction x t)) (k.one_content x y mx my s) (same_transaction_refl x))))
    (k.pending_ascending q (mathlib.Core.List.Memᴰ.tail h))

rolled_back_apart : (p q : State) (e f : Entry) → Memᴰ e (rolled_back p q).utxo → Memᴰ f (rolled_back p q).expected → T (same_entry e f) → ⊥
unfolding rolled_back
rolled_back_apart p q e f m n s =
    T_not (has same_entry f q.utxo)
    (keep_holds (λ (e : Entry). not (has same_entry e q.utxo)) (with_entries q.expected (p.expected ++ p.utxo)) n)
    (any_intro (same_entry f) m (same_entry_sym e f s))

rolled_back_utxo : (p q : State) → (rolled_back p q).utxo ≡ q.utxo
unfolding rolled_back
rolled_back_utxo p q = refl

-- ── the wallet

rollback_facts : (w : Wallet) → T (sound w) → Sound (after_rollback w)
unfolding after_rollback
rollback_facts w t =
    let k = sound_facts w t in
    let room = room_kept (after_rollback w) (rollback_room w t) in
    record {
      few_states = omega (arith, fewer_states w.own w.present w.below, k.few_states);
      few_payments = room.0;
      few_references = room.1;
      amounts = λ e m. k.amounts e (rollback_entry w m);
      own_shaped = rw (same_own w.own w.present w.below) k.own_shaped;
      utxo_ascending =
          each_state w.own w.present w.below (λ s. T (ascending before_entry s.utxo))
          (λ q h. rw (rolled_back_utxo w.present q) (k.utxo_ascending q (mathlib.Core.List.Memᴰ.tail h)))
          k.utxo_ascending;
      pending_ascending =
          each_state w.own w.present w.below (λ s. T (ascending before_transaction s.pending))
          (rolled_back_pending_ascending w k)
          k.pending_ascending;
      expected_ascending =
          each_state w.own w.present w.below (λ s. T (ascending before_entry s.expected))
          (λ q h. rolled_back_expected_ascending w.present q (k.expected_ascending q (mathlib.Core.List.Memᴰ.tail h)))
          k.expected_ascending;
      payments_shaped = λ p m. k.payments_shaped p (rollback_payment w m);
      entries_own = λ e m. rw (same_own w.own w.present w.below) (k.entries_own e (rollback_entry w m));
      apart =
          each_state w.own w.present w.below
          (λ s. (e f : Entry) → Memᴰ e s.utxo → Memᴰ f s.expected → T (same_entry e f) → ⊥)
          (λ q h. rolled_back_apart w.present q)
          k.apart;
      one_value = λ e f m n s. k.one_value e f (rollback_entry w m) (rollback_entry w n) s;
      one_content = λ p q m n s. k.one_content p q (rollback_payment w m) (rollback_payment w n) s;
      outputs_agree_lem =
          λ o e m n s.
          let r = gather_elim makes (held_payments (after_rollback w)) m in
          k.outputs_agree_lem o e (gather_intro makes (rollback_payment w r.1) r.2) (rollback_entry w n) s;
    }

-- a rollback keeps a wallet sound
pub rollback_sound : (w : Wallet) → T (sound w) → T (sound (after_rollback w))
rollback_sound w t = facts_sound (after_rollback w) (rollback_facts w t)
