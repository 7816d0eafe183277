-- How large the balances and the movements of a sound wallet can be.
use Rattle.std.specs.Prelude.{◌≡◌, refl, true, false, not, cond, ℕ, zero, suc, ◌+◌, ◌*◌, ◌-◌, ◌≤◌, T, ltb, length, pos, negsuc, nat_abs, ◌-ℤ◌}
use mathlib.Core.List.{List, ◌++◌, Memᴰ}
use Rattle.std.proofs.Common.{arith}
use Rattle.std.proofs.lemmas.List.{length-map}
use Rattle.sets.specs.Sets.{ascending, has}
use Rattle.sets.specs.Laws.{any_intro, total-append, total-keep, gather_elim}
use Rattle.sets.specs.Laws.{total_bound as sum_bound}
use Rattle.sets.specs.Once.{once-total}
use Rattle.sets.specs.Count.{gather-length, ascending_different, different_fewer_set}
use Rattle.rules.specs.declared.Entry.{Entry}
use Rattle.rules.specs.Sizes.{largest_amount, most_outputs, most_payments, most_references}
use Rattle.rules.specs.Chain.{same_reference, same_entry, before_entry, same_transaction, before_transaction, entry_of, makes, made, spent, worth, is_own}
use Rattle.rules.specs.ChainLaws.{same_transaction_refl}
use Rattle.rules.specs.ShapeLaws.{shaped_facts}
use Rattle.rules.specs.States.{Wallet, own_made}
use Rattle.rules.specs.Balances.{available, change, available_balance, total_balance}
use Rattle.rules.specs.Minimum.{minimum_balance}
use Rattle.rules.specs.Sound.{held_entries, held_payments, sound}
use Rattle.rules.specs.Calls.{Call, step}
use Rattle.soundness.specs.Orders.{same_entry_refl, same_entry_sym, same_entry_trans, before_entry_trans, before_entry_never, same_transaction_sym, same_transaction_trans, before_transaction_trans, before_transaction_never}
use Rattle.future.specs.Between.{minimum_most}
use Rattle.soundness.specs.Facts.{Sound, sound_facts, held_utxo, held_expected, held_pending}
use Rattle.soundness.specs.Made.{makes_amounts}
use Rattle.soundness.specs.Refused.{refused_unchanged, accepted_movement}
use Rattle.soundness.specs.Kept.{step_sound}

-- ── counts of a state

-- entries that ascend and are held by some state are no more than references may be
few_held :
    (w : Wallet) → Sound w → (l : List Entry) → T (ascending before_entry l) → ((e : Entry) → Memᴰ e l → Memᴰ e (held_entries w)) →
    length l ≤ most_references
few_held w k l t held =
    omega (
      arith,
      k.few_references,
      different_fewer_set same_entry same_entry_sym same_entry_trans before_entry same_entry_refl l (held_entries w)
          (ascending_different before_entry before_entry_trans same_entry before_entry_never l t)
          (λ x m. any_intro (same_entry x) (held x m) (same_entry_refl x)),
    )

pub few_utxo : (w : Wallet) → Sound w → length w.present.utxo ≤ most_references
few_utxo w k =
    few_held w k w.present.utxo (k.utxo_ascending w.present (Memᴰ.head refl)) (λ e m. held_utxo w (Memᴰ.head refl) m)

pub few_expected : (w : Wallet) → Sound w → length w.present.expected ≤ most_references
few_expected w k =
    few_held w k w.present.expected (k.expected_ascending w.present (Memᴰ.head refl)) (λ e m. held_expected w (Memᴰ.head refl) m)

pub few_pending : (w : Wallet) → Sound w → length w.present.pending ≤ most_payments
few_pending w k =
    omega (
      arith,
      k.few_payments,
      different_fewer_set same_transaction same_transaction_sym same_transaction_trans before_transaction same_transaction_refl w.present.pending (held_payments w)
          (ascending_different before_transaction before_transaction_trans same_transaction before_transaction_never w.present.pending (k.pending_ascending w.present (Memᴰ.head refl)))
          (λ x m. any_intro (same_transaction x) (held_pending w (Memᴰ.head refl) m) (same_transaction_refl x)),
    )

-- ── balances

-- the UTxO's worth
pub utxo_bound : (w : Wallet) → T (sound w) → worth w.present.utxo ≤ most_references * largest_amount
utxo_bound w t =
    let k = sound_facts w t in
    omega (
      arith,
      few_utxo w k,
      sum_bound (λ (e : Entry). e.amount) largest_amount w.present.utxo (λ e m. k.amounts e (held_utxo w (Memᴰ.head refl) m)),
    )

-- the minimum balance
pub minimum_bound : (w : Wallet) → T (sound w) → minimum_balance w.own w.present ≤ most_references * largest_amount
minimum_bound w t = omega (arith, utxo_bound w t, minimum_most w.own w.present)

-- the available balance
pub available_bound : (w : Wallet) → T (sound w) → available_balance w.present ≤ most_references * largest_amount
unfolding available_balance available
available_bound w t =
    omega (
      arith,
      utxo_bound w t,
      total-keep (λ (e : Entry). e.amount) (λ e. not (has same_reference e.reference (spent w.present.pending))) w.present.utxo,
    )

-- all that the pending payments make
made_bound : (w : Wallet) → Sound w → worth (made w.present.pending) ≤ most_payments * most_outputs * largest_amount
made_bound w k =
    omega (
      arith,
      few_pending w k,
      gather-length makes most_outputs w.present.pending
          (λ p m.
          omega (
            arith,
            length-map p.outputs (entry_of p.number),
            (shaped_facts p (k.payments_shaped p (held_pending w (Memᴰ.head refl) m))).outputs_fit,
          )),
      sum_bound (λ (e : Entry). e.amount) largest_amount (made w.present.pending)
          (λ e m.
          let r = gather_elim makes w.present.pending m in
          makes_amounts r.0 (k.payments_shaped r.0 (held_pending w (Memᴰ.head refl) r.1)) e r.2),
    )

-- the total balance
pub total_bound : (w : Wallet) → T (sound w) → total_balance w.own w.present ≤ (most_references + most_payments * most_outputs) * largest_amount
unfolding total_balance available_balance change
total_bound w t =
    omega (
      arith,
      once-total same_entry (λ (e : Entry). e.amount) (available w.present ++ change w.own w.present),
      total-append (λ (e : Entry). e.amount) (available w.present) (change w.own w.present),
      available_bound w t,
      total-keep (λ (e : Entry). e.amount) (λ e. not (has same_reference e.reference (spent w.present.pending))) (own_made w.own w.present.pending),
      total-keep (λ (e : Entry). e.amount) (is_own w.own) (made w.present.pending),
      made_bound w (sound_facts w t),
    )

-- ── movements

-- the movement is a difference of two balances within the bound
pub movement_difference :
    (w : Wallet) (c : Call) → T (sound w) →
    (a : ℕ) × (b : ℕ) × ((step w c).movement ≡ pos a -ℤ pos b) × (a ≤ most_references * largest_amount) × (b ≤ most_references * largest_amount)
movement_difference w c t = go (step w c).answer refl
  where
    Difference : Type 0
    Difference =
        (a : ℕ) × (b : ℕ) × ((step w c).movement ≡ pos a -ℤ pos b) × (a ≤ most_references * largest_amount) × (b ≤ most_references * largest_amount)

    go : (n : ℕ) → (step w c).answer ≡ n → Difference
    go zero e = (
      available_balance (step w c).wallet.present,
      available_balance w.present,
      accepted_movement w c e,
      available_bound (step w c).wallet (step_sound w c t),
      available_bound w t,
    )
    go (suc n) e = (0, 0, (refused_unchanged w c (λ (z : (step w c).answer ≡ 0). omega (arith, e, z))).1, omega arith, omega arith)

pub difference_bound : (n a b : ℕ) → a ≤ n → b ≤ n → nat_abs (pos a -ℤ pos b) ≤ n
difference_bound n a zero h k = omega arith
difference_bound n a (suc b) h k =
    elim (ltb a (suc b)) as (λ c. nat_abs (cond c (negsuc (suc b - suc a)) (pos (a - suc b))) ≤ n) [ true ↦ omega arith | false ↦ omega arith ]

-- so it lies between minus and plus the bound
pub movement_bound : (w : Wallet) (c : Call) → T (sound w) → nat_abs (step w c).movement ≤ most_references * largest_amount
movement_bound w c t =
    let d = movement_difference w c t in
    rw d.2 (difference_bound (most_references * largest_amount) d.0 d.1 d.3 d.4)
