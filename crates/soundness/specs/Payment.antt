-- An accepted payment keeps a wallet sound: it adds one pending payment whose number nothing held has.
use Rattle.std.specs.Prelude.{◌≡◌, refl, ◌⊎◌, not, T}
use Rattle.std.proofs.Common.{sym, ap, subst, ◌∙◌, inl, inr, ⊎_elim, T_not}
use mathlib.Core.List.Memᴰ
use mathlib.Core.List.{[], ◌∷◌, Memᴰ}
use Rattle.sets.specs.Sets.{any, ascending}
use Rattle.sets.specs.Tests.{or_left, or_right}
use Rattle.sets.specs.Laws.{any_intro, gather_intro, gather_elim, together_from}
use Rattle.sets.specs.Order.{together-ascending}
use Rattle.sets.specs.Count.{each_cons}
use Rattle.rules.specs.declared.Number.{Number}
use Rattle.rules.specs.declared.Entry.{Entry}
use Rattle.rules.specs.Chain.{same_number, same_entry, before_entry, Transaction, same_transaction, before_transaction, makes, shaped_transaction}
use Rattle.rules.specs.ChainLaws.{same_number_eq, same_transaction_refl, same_number_of}
use Rattle.rules.specs.States.{State, Wallet, states, after_payment}
use Rattle.rules.specs.Sound.{held_entries, held_payments, sound}
use Rattle.rules.specs.Steps.{number_taken}
use Rattle.soundness.specs.Facts.{Sound, sound_facts, facts_sound, held_pending, room_kept}
use Rattle.soundness.specs.Orders.{before_transaction_trans, before_transaction_one}
use Rattle.soundness.specs.Made.{makes_number, same_entry_number}
use Rattle.soundness.specs.Refused.{AcceptedPayment}

-- ── the number is that of nothing held

pub not_pending : (w : Wallet) (n : Number) → T (not (number_taken w n)) → (q : Transaction) → Memᴰ q (held_payments w) → n ≡ q.number → ⊥
unfolding number_taken
not_pending w n t q m e =
    T_not (number_taken w n) t
    (or_left (any (λ q. same_number n q.number) (held_payments w)) (any (λ e. same_number n e.reference.number) (held_entries w))
    (any_intro (λ (q : Transaction). same_number n q.number) m (same_number_of e)))

pub not_held : (w : Wallet) (n : Number) → T (not (number_taken w n)) → (f : Entry) → Memᴰ f (held_entries w) → n ≡ f.reference.number → ⊥
unfolding number_taken
not_held w n t f m e =
    T_not (number_taken w n) t
    (or_right (any (λ q. same_number n q.number) (held_payments w)) (any (λ e. same_number n e.reference.number) (held_entries w))
    (any_intro (λ (e : Entry). same_number n e.reference.number) m (same_number_of e)))

-- ── what the wallet holds after it

payment_payments : (w : Wallet) (p q : Transaction) → Memᴰ q (held_payments (after_payment w p)) → (q ≡ p) ⊎ Memᴰ q (held_payments w)
unfolding after_payment
payment_payments w p q m =
    let r = gather_elim (λ (s : State). s.pending) (states (after_payment w p)) m in
    ⊎_elim
    (λ (e : r.0 ≡ (after_payment w p).present).
    ⊎_elim
    (λ (h : Memᴰ q w.present.pending). inr (held_pending w (Memᴰ.head refl) h))
    (λ (h : Memᴰ q (p ∷ [])). inl (Memᴰ.eq_of_singleton h))
    (together_from same_transaction before_transaction w.present.pending (p ∷ [])
    (subst (λ (s : State). Memᴰ q s.pending) e r.2)))
    (λ (h : Memᴰ r.0 w.below). inr (held_pending w (Memᴰ.tail h) r.2))
    (Memᴰ.cases_cons r.1)

-- what holds of the new present state and of each state held before holds of each state held after
each_state :
    (w : Wallet) (p : Transaction) (P : State → Type 0) → P (after_payment w p).present →
    ((s : State) → Memᴰ s (states w) → P s) → (s : State) → Memᴰ s (states (after_payment w p)) → P s
unfolding after_payment
each_state w p P new old = each_cons P (after_payment w p).present w.below new (λ s h. old s (Memᴰ.tail h))

payment_facts : (w : Wallet) (p : Transaction) → Sound w → AcceptedPayment w p → Sound (after_payment w p)
unfolding after_payment
payment_facts w p k a =
    record {
      few_states = k.few_states;
      few_payments = (room_kept (after_payment w p) a.room).0;
      few_references = (room_kept (after_payment w p) a.room).1;
      amounts = k.amounts;
      own_shaped = k.own_shaped;
      utxo_ascending =
          each_state w p (λ s. T (ascending before_entry s.utxo)) (k.utxo_ascending w.present (Memᴰ.head refl)) k.utxo_ascending;
      pending_ascending =
          each_state w p (λ s. T (ascending before_transaction s.pending))
          (together-ascending before_transaction before_transaction_trans same_transaction w.present.pending (p ∷ [])
          (λ x y m n d.
          before_transaction_one x y
          (λ (s : T (same_number x.number y.number)).
          let e : x ≡ p = Memᴰ.eq_of_singleton m in
          ⊎_elim
          (λ (h : Memᴰ y w.present.pending).
          not_pending w p.number a.number_new y (held_pending w (Memᴰ.head refl) h)
          (sym (ap (λ (t : Transaction). t.number) e) ∙ same_number_eq x.number y.number s))
          (λ (h : Memᴰ y (p ∷ [])).
          T_not (same_transaction x y) d
          (subst (λ (t : Transaction). T (same_transaction x t)) (e ∙ sym (Memᴰ.eq_of_singleton h)) (same_transaction_refl x)))
          n))
          (k.pending_ascending w.present (Memᴰ.head refl)))
          k.pending_ascending;
      expected_ascending =
          each_state w p (λ s. T (ascending before_entry s.expected)) (k.expected_ascending w.present (Memᴰ.head refl)) k.expected_ascending;
      payments_shaped =
          λ q m.
          ⊎_elim
          (λ (e : q ≡ p). subst (λ (t : Transaction). T (shaped_transaction t)) (sym e) a.shaped)
          (λ (h : Memᴰ q (held_payments w)). k.payments_shaped q h)
          (payment_payments w p q m);
      entries_own = k.entries_own;
      apart =
          each_state w p (λ s. (e f : Entry) → Memᴰ e s.utxo → Memᴰ f s.expected → T (same_entry e f) → ⊥)
          (k.apart w.present (Memᴰ.head refl))
          k.apart;
      one_value = k.one_value;
      one_content =
          λ q r m n s.
          let e : q.number ≡ r.number = same_number_eq q.number r.number s in
          ⊎_elim
          (λ (x : q ≡ p).
          ⊎_elim
          (λ (y : r ≡ p). x ∙ sym y)
          (λ (h : Memᴰ r (held_payments w)).
          absurd (not_pending w p.number a.number_new r h (sym (ap (λ (t : Transaction). t.number) x) ∙ e)))
          (payment_payments w p r n))
          (λ (g : Memᴰ q (held_payments w)).
          ⊎_elim
          (λ (y : r ≡ p).
          absurd (not_pending w p.number a.number_new q g (sym (ap (λ (t : Transaction). t.number) y) ∙ sym e)))
          (λ (h : Memᴰ r (held_payments w)). k.one_content q r g h s)
          (payment_payments w p r n))
          (payment_payments w p q m);
      outputs_agree_lem =
          λ o e m n s.
          let t = gather_elim makes (held_payments (after_payment w p)) m in
          ⊎_elim
          (λ (x : t.0 ≡ p).
          absurd
          (not_held w p.number a.number_new e n
          (sym (ap (λ (t : Transaction). t.number) x) ∙ sym (makes_number t.0 o t.2) ∙ same_entry_number o e s)))
          (λ (h : Memᴰ t.0 (held_payments w)). k.outputs_agree_lem o e (gather_intro makes h t.2) n s)
          (payment_payments w p t.0 t.1);
    }

-- an accepted payment keeps a wallet sound
pub payment_sound : (w : Wallet) (p : Transaction) → AcceptedPayment w p → T (sound (after_payment w p))
payment_sound w p a = facts_sound (after_payment w p) (payment_facts w p (sound_facts w a.sound_before) a)
