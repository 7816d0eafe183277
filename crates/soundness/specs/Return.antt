-- A block followed by its rollback: UTxO and pending come back exactly, and expected has gained the block's own outputs
-- that the block does not spend itself.
use Rattle.std.specs.Prelude.{◌≡◌, refl, ◌⊎◌, not, ◌-◌, T, take}
use Rattle.std.proofs.Common.{ap, ◌∙◌, inl, inr, ⊎_elim, T_not}
use mathlib.Core.List.{List, ◌++◌, Memᴰ}
use Rattle.sets.specs.Sets.{has, ascending}
use Rattle.sets.specs.Laws.{any_intro, any_none, keep_from, keep_holds, keep_intro, together_from, together_left, together_right, together_known}
use Rattle.sets.specs.Order.{together-ascending, ascending-keep, ascending_one}
use Rattle.rules.specs.declared.Entry.{Entry}
use Rattle.rules.specs.Sizes.{most_states}
use Rattle.rules.specs.Chain.{same_reference, same_entry, before_entry, Transaction, same_transaction, before_transaction, Block, spent}
use Rattle.rules.specs.ChainLaws.{same_transaction_refl}
use Rattle.rules.specs.States.{Wallet, with_entries, with_payments, without_references, without_entries, own_made, block_utxo, block_pending, block_expected, after_block, rolled_back, after_rollback}
use Rattle.rules.specs.Sound.{held_entries}
use Rattle.rules.specs.Steps.{Step}
use Rattle.rules.specs.Calls.{block_call, back_call, step}
use Rattle.soundness.specs.Orders.{same_entry_refl, same_entry_sym, before_entry_irrefl, before_entry_trans, before_entry_one}
use Rattle.soundness.specs.Facts.{sound_facts, held_utxo, held_expected}
use Rattle.soundness.specs.Made.{made_once}
use Rattle.soundness.specs.Refused.{AcceptedBlock, AcceptedRollback, accepted, accepted_block, accepted_rollback, block_accepted, rollback_accepts}
use Rattle.soundness.specs.BlockKept.{made_not_unspent, utxo_from, expected_from, pending_from, own_made_lem, block_sound}

-- the block's own outputs that the block does not spend itself
abbrev pub gained : Wallet → Block → List Entry
gained w b = without_references (spent b) (own_made w.own b)

-- what a block and its rollback make of a wallet; of the states below, the first six are still held
abbrev pub returned : Wallet → Block → Wallet
returned w b =
    record {
      own = w.own;
      present =
          record {
            utxo = w.present.utxo;
            pending = w.present.pending;
            expected = with_entries w.present.expected (gained w b);
          };
      below = take (most_states - 2) w.below;
    }

-- ── pending comes back

pending_back : (pending : List Transaction) (b : Block) → with_payments pending (block_pending pending b) ≡ pending
pending_back pending b =
    together_known same_transaction before_transaction pending (block_pending pending b)
    (λ x m. any_intro (same_transaction x) (pending_from pending b m) (same_transaction_refl x))

-- ── expected

-- the new UTxO after the block, in two parts
gained_unspent : (w : Wallet) (b : Block) → AcceptedBlock w b → {e : Entry} → Memᴰ e (gained w b) → Memᴰ e (block_utxo w.own w.present.utxo b)
unfolding block_utxo
gained_unspent w b a {e} m =
    let o : Memᴰ e (own_made w.own b) =
    keep_from (λ (e : Entry). not (has same_reference e.reference (spent b))) (own_made w.own b) m
    in
    let z = together_right same_entry before_entry w.present.utxo (own_made w.own b) same_entry_refl o in
    let q : e ≡ z.0 =
    ⊎_elim
    (λ (h : Memᴰ z.0 w.present.utxo).
    absurd (made_not_unspent w.present b a.made_new e z.0 (own_made_lem w.own b o) h z.2))
    (λ (h : Memᴰ z.0 (own_made w.own b)).
    made_once b a.shaped e z.0 (own_made_lem w.own b o) (own_made_lem w.own b h) z.2)
    (together_from same_entry before_entry w.present.utxo (own_made w.own b) z.1)
    in
    keep_intro (λ (e : Entry). not (has same_reference e.reference (spent b))) (with_entries w.present.utxo (own_made w.own b))
    (mathlib.Core.List.Memᴰ.cast q z.1)
    (keep_holds (λ (e : Entry). not (has same_reference e.reference (spent b))) (own_made w.own b) m)

unspent_gained : (w : Wallet) (b : Block) {e : Entry} → Memᴰ e (block_utxo w.own w.present.utxo b) → Memᴰ e w.present.utxo ⊎ Memᴰ e (gained w b)
unfolding block_utxo
unspent_gained w b {e} m =
    ⊎_elim
    (λ (h : Memᴰ e w.present.utxo). inl h)
    (λ (h : Memᴰ e (own_made w.own b)).
    inr
    (keep_intro (λ (e : Entry). not (has same_reference e.reference (spent b))) (own_made w.own b) h
    (keep_holds (λ (e : Entry). not (has same_reference e.reference (spent b))) (with_entries w.present.utxo (own_made w.own b)) m)))
    (utxo_from w.own w.present.utxo b m)

-- all that the two lists are made of is held after the block, so one reference means one entry
after_held_old : (w : Wallet) (b : Block) {e : Entry} → Memᴰ e w.present.expected → Memᴰ e (held_entries (after_block w b))
unfolding after_block
after_held_old w b m = held_expected (after_block w b) (mathlib.Core.List.Memᴰ.tail (mathlib.Core.List.Memᴰ.head refl)) m

after_held_new : (w : Wallet) (b : Block) {e : Entry} → Memᴰ e (block_utxo w.own w.present.utxo b) → Memᴰ e (held_entries (after_block w b))
unfolding after_block
after_held_new w b m = held_utxo (after_block w b) (mathlib.Core.List.Memᴰ.head refl) m

-- the entries that come together at the rollback
abbrev joined : Wallet → Block → List Entry
joined w b = block_expected w.own w.present.expected b ++ block_utxo w.own w.present.utxo b

joined_held : (w : Wallet) (b : Block) {e : Entry} → Memᴰ e (joined w b) → Memᴰ e (held_entries (after_block w b))
joined_held w b {e} m =
    ⊎_elim
    (λ (h : Memᴰ e (block_expected w.own w.present.expected b)).
    after_held_old w b (expected_from w.own w.present.expected b h))
    (λ (h : Memᴰ e (block_utxo w.own w.present.utxo b)). after_held_new w b h)
    (mathlib.Core.List.Memᴰ.append_cases (block_expected w.own w.present.expected b) m)

expected_only : (w : Wallet) (b : Block) → AcceptedBlock w b → (e : Entry) → Memᴰ e (without_entries w.present.utxo (with_entries w.present.expected (joined w b))) → Memᴰ e (with_entries w.present.expected (gained w b))
expected_only w b a e m =
    ⊎_elim
    (λ (h : Memᴰ e w.present.expected). together_left same_entry before_entry w.present.expected (gained w b) h)
    (λ (h : Memᴰ e (joined w b)).
    ⊎_elim
    (λ (g : Memᴰ e (block_expected w.own w.present.expected b)).
    together_left same_entry before_entry w.present.expected (gained w b) (expected_from w.own w.present.expected b g))
    (λ (g : Memᴰ e (block_utxo w.own w.present.utxo b)).
    ⊎_elim
    (λ (f : Memᴰ e w.present.utxo).
    absurd
    (T_not (has same_entry e w.present.utxo)
    (keep_holds (λ (e : Entry). not (has same_entry e w.present.utxo)) (with_entries w.present.expected (joined w b)) m)
    (any_intro (same_entry e) f (same_entry_refl e))))
    (λ (f : Memᴰ e (gained w b)). found f)
    (unspent_gained w b g))
    (mathlib.Core.List.Memᴰ.append_cases (block_expected w.own w.present.expected b) h))
    (together_from same_entry before_entry w.present.expected (joined w b)
    (keep_from (λ (e : Entry). not (has same_entry e w.present.utxo)) (with_entries w.present.expected (joined w b)) m))
  where
    found : Memᴰ e (gained w b) → Memᴰ e (with_entries w.present.expected (gained w b))
    found f =
        let k = sound_facts (after_block w b) (block_sound w b a) in
        let z = together_right same_entry before_entry w.present.expected (gained w b) same_entry_refl f in
        let y : Memᴰ z.0 (held_entries (after_block w b)) =
        ⊎_elim
        (λ (h : Memᴰ z.0 w.present.expected). after_held_old w b h)
        (λ (h : Memᴰ z.0 (gained w b)). after_held_new w b (gained_unspent w b a h))
        (together_from same_entry before_entry w.present.expected (gained w b) z.1)
        in
        mathlib.Core.List.Memᴰ.cast (k.one_value e z.0 (after_held_new w b (gained_unspent w b a f)) y z.2) z.1

expected_all : (w : Wallet) (b : Block) → AcceptedBlock w b → (e : Entry) → Memᴰ e (with_entries w.present.expected (gained w b)) → Memᴰ e (without_entries w.present.utxo (with_entries w.present.expected (joined w b)))
expected_all w b a e m =
    ⊎_elim
    (λ (h : Memᴰ e w.present.expected).
    keep_intro (λ (e : Entry). not (has same_entry e w.present.utxo)) (with_entries w.present.expected (joined w b))
    (together_left same_entry before_entry w.present.expected (joined w b) h)
    (any_none (same_entry e) w.present.utxo
    (λ f n s. (sound_facts w a.sound_before).apart w.present (mathlib.Core.List.Memᴰ.head refl) f e n h (same_entry_sym e f s))))
    (λ (h : Memᴰ e (gained w b)).
    keep_intro (λ (e : Entry). not (has same_entry e w.present.utxo)) (with_entries w.present.expected (joined w b))
    (found h)
    (any_none (same_entry e) w.present.utxo
    (λ f n s.
    made_not_unspent w.present b a.made_new e f
    (own_made_lem w.own b (keep_from (λ (e : Entry). not (has same_reference e.reference (spent b))) (own_made w.own b) h))
    n s)))
    (together_from same_entry before_entry w.present.expected (gained w b) m)
  where
    found : Memᴰ e (gained w b) → Memᴰ e (with_entries w.present.expected (joined w b))
    found f =
        let k = sound_facts (after_block w b) (block_sound w b a) in
        let u : Memᴰ e (joined w b) =
        mathlib.Core.List.Memᴰ.append_right (block_expected w.own w.present.expected b) (gained_unspent w b a f)
        in
        let z = together_right same_entry before_entry w.present.expected (joined w b) same_entry_refl u in
        let y : Memᴰ z.0 (held_entries (after_block w b)) =
        ⊎_elim
        (λ (h : Memᴰ z.0 w.present.expected). after_held_old w b h)
        (λ (h : Memᴰ z.0 (joined w b)). joined_held w b h)
        (together_from same_entry before_entry w.present.expected (joined w b) z.1)
        in
        mathlib.Core.List.Memᴰ.cast (k.one_value e z.0 (joined_held w b u) y z.2) z.1

expected_back : (w : Wallet) (b : Block) → AcceptedBlock w b → without_entries w.present.utxo (with_entries w.present.expected (joined w b)) ≡ with_entries w.present.expected (gained w b)
expected_back w b a =
    let t : T (ascending before_entry w.present.expected) =
    (sound_facts w a.sound_before).expected_ascending w.present (mathlib.Core.List.Memᴰ.head refl)
    in
    ascending_one before_entry before_entry_trans before_entry_irrefl
    (without_entries w.present.utxo (with_entries w.present.expected (joined w b)))
    (with_entries w.present.expected (gained w b))
    (ascending-keep before_entry before_entry_trans (λ e. not (has same_entry e w.present.utxo)) (with_entries w.present.expected (joined w b))
    (together-ascending before_entry before_entry_trans same_entry w.present.expected (joined w b) (λ x y m n d. before_entry_one x y d) t))
    (together-ascending before_entry before_entry_trans same_entry w.present.expected (gained w b) (λ x y m n d. before_entry_one x y d) t)
    (expected_only w b a)
    (expected_all w b a)

-- ── the step

wallet_back : (w : Wallet) (b : Block) → AcceptedBlock w b → after_rollback (after_block w b) ≡ returned w b
unfolding after_rollback after_block rolled_back
wallet_back w b a =
    let p = pending_back w.present.pending b in
    let x = expected_back w b a in
    λ i.
    record {
      own = w.own;
      present = record { utxo = w.present.utxo; pending = p i; expected = x i };
      below = take (most_states - 2) w.below;
    }

back_possible : (w : Wallet) (b : Block) → AcceptedBlock w b → AcceptedRollback (after_block w b)
unfolding after_block
back_possible w b a = record { sound_before = block_sound w b a; more_than_one = tt }

-- the rollback of an accepted block is accepted, and its whole result is this
pub block_and_back :
    (w : Wallet) (b : Block) → (step w (block_call b)).answer ≡ 0 →
    step (step w (block_call b)).wallet back_call ≡ accepted (after_block w b) (returned w b)
block_and_back w b e =
    let a = block_accepted w b e in
    ap (λ (s : Step). step s.wallet back_call) (accepted_block w b e)
    ∙ accepted_rollback (after_block w b) (rollback_accepts (after_block w b) (back_possible w b a))
    ∙ ap (λ (v : Wallet). accepted (after_block w b) v) (wallet_back w b a)
