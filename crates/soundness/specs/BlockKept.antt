-- An accepted block keeps a wallet sound: what it brings in are its own outputs, and they agree with all that is held.
use Rattle.std.specs.Prelude.{◌≡◌, refl, ◌⊎◌, not, ℕ, ◌-◌, T, take}
use Rattle.std.proofs.Common.{sym, subst, ◌∙◌, inl, inr, ⊎_elim, arith, T_not, length-take}
use mathlib.Core.List.Memᴰ
use mathlib.Core.List.{List, ◌++◌, Memᴰ}
use Rattle.sets.specs.Sets.{all, has, ascending}
use Rattle.sets.specs.Laws.{any_intro, all_elim, keep_from, keep_holds, gather_intro, gather_elim, together_from}
use Rattle.sets.specs.Order.{ascending-keep, together-ascending}
use Rattle.sets.specs.Count.{take_from, each_cons}
use Rattle.rules.specs.declared.Entry.{Entry}
use Rattle.rules.specs.Sizes.{most_states}
use Rattle.rules.specs.Chain.{same_reference, same_entry, before_entry, Transaction, before_transaction, Block, makes, made, spent, is_own}
use Rattle.rules.specs.ChainLaws.{same_number_of}
use Rattle.rules.specs.States.{State, Wallet, states, with_entries, own_made, spends, block_utxo, block_pending, block_expected, after_block}
use Rattle.rules.specs.Sound.{held_entries, held_payments, agree, agreeing, sound}
use Rattle.rules.specs.Steps.{already_unspent, contradicts}
use Rattle.soundness.specs.Orders.{same_entry_sym, before_entry_trans, before_entry_one, before_transaction_trans}
use Rattle.sets.specs.Tests.{none_failed}
use Rattle.soundness.specs.Facts.{Sound, sound_facts, facts_sound, agree_equal, agreeing_equal, held_utxo, held_expected, held_pending, room_kept}
use Rattle.soundness.specs.Made.{makes_number, same_entry_number, makes_once, made_once, makes_amounts, block_transactions_shaped}
use Rattle.soundness.specs.Refused.{AcceptedBlock}

-- ── what the refusals 5 and 6 leave

-- nothing that the block makes is in the present UTxO
pub made_not_unspent : (s : State) (b : Block) → T (not (already_unspent s b)) → (e f : Entry) → Memᴰ e (made b) → Memᴰ f s.utxo → T (same_entry e f) → ⊥
unfolding already_unspent
made_not_unspent s b t e f m n q =
    T_not (already_unspent s b) t (any_intro (λ (e : Entry). has same_entry e s.utxo) m (any_intro (same_entry e) n q))

-- what the block makes is equal to the held entry of that reference
pub made_held : (w : Wallet) (b : Block) → T (not (contradicts w b)) → (e f : Entry) → Memᴰ e (made b) → Memᴰ f (held_entries w) → T (same_entry e f) → e ≡ f
unfolding contradicts
made_held w b t e f m n q =
    let c = none_failed (all (λ e. all (agree e) (held_entries w)) (made b)) (all (λ t. all (agreeing t) (held_payments w)) b) t in
    agree_equal e f (all_elim (agree e) (all_elim (λ (e : Entry). all (agree e) (held_entries w)) c.0 m) n) q

-- a transaction of the block is equal to the held payment of that number
pub transaction_held : (w : Wallet) (b : Block) → T (not (contradicts w b)) → (u p : Transaction) → Memᴰ u b → Memᴰ p (held_payments w) → u.number ≡ p.number → u ≡ p
unfolding contradicts
transaction_held w b t u p m n e =
    let c = none_failed (all (λ e. all (agree e) (held_entries w)) (made b)) (all (λ t. all (agreeing t) (held_payments w)) b) t in
    agreeing_equal u p (all_elim (agreeing u) (all_elim (λ (u : Transaction). all (agreeing u) (held_payments w)) c.1 m) n)
    (same_number_of e)

-- ── where what is held after the block comes from

pub utxo_from : (own : List ℕ) (utxo : List Entry) (b : Block) {e : Entry} → Memᴰ e (block_utxo own utxo b) → Memᴰ e utxo ⊎ Memᴰ e (own_made own b)
unfolding block_utxo
utxo_from own utxo b m =
    together_from same_entry before_entry utxo (own_made own b)
    (keep_from (λ (e : Entry). not (has same_reference e.reference (spent b))) (with_entries utxo (own_made own b)) m)

pub expected_from : (own : List ℕ) (expected : List Entry) (b : Block) {e : Entry} → Memᴰ e (block_expected own expected b) → Memᴰ e expected
unfolding block_expected
expected_from own expected b m = keep_from (λ (e : Entry). not (has same_entry e (own_made own b))) expected m

pub pending_from : (pending : List Transaction) (b : Block) {p : Transaction} → Memᴰ p (block_pending pending b) → Memᴰ p pending
unfolding block_pending
pending_from pending b m = keep_from (λ (p : Transaction). not (spends (spent b) p)) pending m

-- an own output of the block is made by it, and is own
pub own_made_lem : (own : List ℕ) (b : Block) {e : Entry} → Memᴰ e (own_made own b) → Memᴰ e (made b)
own_made_lem own b m = keep_from (is_own own) (made b) m

-- an entry held after the block was held before or is an own output of the block
pub block_entry : (w : Wallet) (b : Block) {e : Entry} → Memᴰ e (held_entries (after_block w b)) → Memᴰ e (held_entries w) ⊎ Memᴰ e (own_made w.own b)
unfolding after_block
block_entry w b {e} m =
    let r = gather_elim (λ (s : State). s.utxo ++ s.expected) (states (after_block w b)) m in
    ⊎_elim
    (λ (d : r.0 ≡ (after_block w b).present).
    ⊎_elim
    (λ (h : Memᴰ e (block_utxo w.own w.present.utxo b)).
    ⊎_elim
    (λ (k : Memᴰ e w.present.utxo). inl (held_utxo w (Memᴰ.head refl) k))
    (λ (k : Memᴰ e (own_made w.own b)). inr k)
    (utxo_from w.own w.present.utxo b h))
    (λ (h : Memᴰ e (block_expected w.own w.present.expected b)).
    inl (held_expected w (Memᴰ.head refl) (expected_from w.own w.present.expected b h)))
    (Memᴰ.append_cases (block_utxo w.own w.present.utxo b)
    (subst (λ (s : State). Memᴰ e (s.utxo ++ s.expected)) d r.2)))
    (λ (h : Memᴰ r.0 (take (most_states - 1) (states w))).
    inl (gather_intro (λ (s : State). s.utxo ++ s.expected) (take_from (most_states - 1) (states w) h) r.2))
    (Memᴰ.cases_cons r.1)

-- a payment held after the block was held before
pub block_payment : (w : Wallet) (b : Block) {p : Transaction} → Memᴰ p (held_payments (after_block w b)) → Memᴰ p (held_payments w)
unfolding after_block
block_payment w b {p} m =
    let r = gather_elim (λ (s : State). s.pending) (states (after_block w b)) m in
    ⊎_elim
    (λ (d : r.0 ≡ (after_block w b).present).
    held_pending w (Memᴰ.head refl)
    (pending_from w.present.pending b (subst (λ (s : State). Memᴰ p s.pending) d r.2)))
    (λ (h : Memᴰ r.0 (take (most_states - 1) (states w))).
    held_pending w (take_from (most_states - 1) (states w) h) r.2)
    (Memᴰ.cases_cons r.1)

-- what holds of the new present state and of each state held before holds of each state held after
each_state :
    (w : Wallet) (b : Block) (P : State → Type 0) → P (after_block w b).present →
    ((s : State) → Memᴰ s (states w) → P s) → (s : State) → Memᴰ s (states (after_block w b)) → P s
unfolding after_block
each_state w b P new old =
    each_cons P (after_block w b).present (take (most_states - 1) (states w)) new
    (λ s h. old s (take_from (most_states - 1) (states w) h))

-- ── the new present state

block_utxo_ascending : (own : List ℕ) (utxo : List Entry) (b : Block) → T (ascending before_entry utxo) → T (ascending before_entry (block_utxo own utxo b))
unfolding block_utxo
block_utxo_ascending own utxo b t =
    ascending-keep before_entry before_entry_trans (λ e. not (has same_reference e.reference (spent b))) (with_entries utxo (own_made own b))
    (together-ascending before_entry before_entry_trans same_entry utxo (own_made own b) (λ x y m n d. before_entry_one x y d) t)

block_pending_ascending : (pending : List Transaction) (b : Block) → T (ascending before_transaction pending) → T (ascending before_transaction (block_pending pending b))
unfolding block_pending
block_pending_ascending pending b t =
    ascending-keep before_transaction before_transaction_trans (λ p. not (spends (spent b) p)) pending t

block_expected_ascending : (own : List ℕ) (expected : List Entry) (b : Block) → T (ascending before_entry expected) → T (ascending before_entry (block_expected own expected b))
unfolding block_expected
block_expected_ascending own expected b t =
    ascending-keep before_entry before_entry_trans (λ e. not (has same_entry e (own_made own b))) expected t

block_expected_not_made : (own : List ℕ) (expected : List Entry) (b : Block) (e f : Entry) → Memᴰ e (own_made own b) → Memᴰ f (block_expected own expected b) → T (same_entry e f) → ⊥
unfolding block_expected
block_expected_not_made own expected b e f m n s =
    T_not (has same_entry f (own_made own b))
    (keep_holds (λ (e : Entry). not (has same_entry e (own_made own b))) expected n)
    (any_intro (same_entry f) m (same_entry_sym e f s))

-- ── the wallet

block_facts : (w : Wallet) (b : Block) → Sound w → AcceptedBlock w b → Sound (after_block w b)
unfolding after_block
block_facts w b k a =
    record {
      few_states = omega (arith, length-take (most_states - 1) (states w));
      few_payments = (room_kept (after_block w b) a.room).0;
      few_references = (room_kept (after_block w b) a.room).1;
      amounts =
          λ e m.
          ⊎_elim
          (λ (h : Memᴰ e (held_entries w)). k.amounts e h)
          (λ (h : Memᴰ e (own_made w.own b)).
          let t = gather_elim makes b (own_made_lem w.own b h) in
          makes_amounts t.0 (block_transactions_shaped b a.shaped t.0 t.1) e t.2)
          (block_entry w b m);
      own_shaped = k.own_shaped;
      utxo_ascending =
          each_state w b (λ s. T (ascending before_entry s.utxo))
          (block_utxo_ascending w.own w.present.utxo b (k.utxo_ascending w.present (Memᴰ.head refl)))
          k.utxo_ascending;
      pending_ascending =
          each_state w b (λ s. T (ascending before_transaction s.pending))
          (block_pending_ascending w.present.pending b (k.pending_ascending w.present (Memᴰ.head refl)))
          k.pending_ascending;
      expected_ascending =
          each_state w b (λ s. T (ascending before_entry s.expected))
          (block_expected_ascending w.own w.present.expected b (k.expected_ascending w.present (Memᴰ.head refl)))
          k.expected_ascending;
      payments_shaped = λ p m. k.payments_shaped p (block_payment w b m);
      entries_own =
          λ e m.
          ⊎_elim
          (λ (h : Memᴰ e (held_entries w)). k.entries_own e h)
          (λ (h : Memᴰ e (own_made w.own b)). keep_holds (is_own w.own) (made b) h)
          (block_entry w b m);
      apart =
          each_state w b (λ s. (e f : Entry) → Memᴰ e s.utxo → Memᴰ f s.expected → T (same_entry e f) → ⊥)
          (λ e f m n s.
          ⊎_elim
          (λ (h : Memᴰ e w.present.utxo).
          k.apart w.present (Memᴰ.head refl) e f h (expected_from w.own w.present.expected b n) s)
          (λ (h : Memᴰ e (own_made w.own b)). block_expected_not_made w.own w.present.expected b e f h n s)
          (utxo_from w.own w.present.utxo b m))
          k.apart;
      one_value =
          λ e f m n s.
          ⊎_elim
          (λ (h : Memᴰ e (held_entries w)).
          ⊎_elim
          (λ (g : Memᴰ f (held_entries w)). k.one_value e f h g s)
          (λ (g : Memᴰ f (own_made w.own b)).
          sym (made_held w b a.consistent f e (own_made_lem w.own b g) h (same_entry_sym e f s)))
          (block_entry w b n))
          (λ (h : Memᴰ e (own_made w.own b)).
          ⊎_elim
          (λ (g : Memᴰ f (held_entries w)). made_held w b a.consistent e f (own_made_lem w.own b h) g s)
          (λ (g : Memᴰ f (own_made w.own b)).
          made_once b a.shaped e f (own_made_lem w.own b h) (own_made_lem w.own b g) s)
          (block_entry w b n))
          (block_entry w b m);
      one_content = λ p q m n s. k.one_content p q (block_payment w b m) (block_payment w b n) s;
      outputs_agree_lem =
          λ o e m n s.
          let r = gather_elim makes (held_payments (after_block w b)) m in
          let p : Memᴰ r.0 (held_payments w) = block_payment w b r.1 in
          ⊎_elim
          (λ (h : Memᴰ e (held_entries w)). k.outputs_agree_lem o e (gather_intro makes p r.2) h s)
          (λ (h : Memᴰ e (own_made w.own b)).
          let t = gather_elim makes b (own_made_lem w.own b h) in
          let d : t.0 ≡ r.0 =
          transaction_held w b a.consistent t.0 r.0 t.1 p
          (sym (makes_number t.0 e t.2) ∙ sym (same_entry_number o e s) ∙ makes_number r.0 o r.2)
          in
          makes_once r.0 (k.payments_shaped r.0 p) o e r.2
          (subst (λ (x : Transaction). Memᴰ e (makes x)) d t.2)
          s)
          (block_entry w b n);
    }

-- an accepted block keeps a wallet sound
pub block_sound : (w : Wallet) (b : Block) → AcceptedBlock w b → T (sound (after_block w b))
block_sound w b a = facts_sound (after_block w b) (block_facts w b (sound_facts w a.sound_before) a)
