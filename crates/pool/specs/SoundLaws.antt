-- Soundness asked of the pool: once a pool is laid out, the paper's paragraph on its view comes to six tests of
-- the pool itself.
use Rattle.std.specs.Prelude.{◌≡◌, refl, Bool, true, false, ◌&&◌, ℕ, suc, ◌<◌, T, leb, take}
use Rattle.std.proofs.Common.{sym, ap, subst, ◌∙◌, arith, leb→le, le→leb}
use mathlib.Core.List.Memᴰ
use mathlib.Core.List.{List, [], ◌∷◌, map, Memᴰ}
use Rattle.sets.specs.Sets.{all, ascending}
use Rattle.sets.specs.Tests.{every_at, same_test}
use Rattle.sets.specs.Laws.{holds_at, all_intro, all_elim, map_intro, map_elim, gather_intro, gather_elim}
use Rattle.sets.specs.Walks.{every_holds}
use Rattle.sets.specs.Maps.{picked_elim, picked_intro}
use Rattle.rules.specs.declared.Entry.{Entry}
use Rattle.rules.specs.Sizes.{largest_amount, most_states}
use Rattle.rules.specs.Chain as Chain
use Rattle.rules.specs.Chain.{same_number, same_entry, before_entry, before_transaction, makes, made, is_own, shaped_own, shaped_transaction}
use Rattle.rules.specs.States.{State, states}
use Rattle.rules.specs.Sound.{held_entries, held_payments, agree, sound}
use Rattle.soundness.specs.Orders.{same_entry_refl}
use Rattle.soundness.specs.Facts.{Sound, sound_facts, facts_sound, agree_equal, equal_agree}
use Rattle.chain.specs.View.{view_transaction}
use Rattle.pool.specs.declared.Held.{Held}
use Rattle.pool.specs.declared.Payment.{Payment}
use Rattle.pool.specs.declared.Pool.{Pool}
use Rattle.pool.specs.Marks.{marked, apart_marks}
use Rattle.pool.specs.MarkLaws.{marked_fits, apart_elim, apart_intro}
use Rattle.pool.specs.View.{entries_of, payments_of, utxo_at, expected_at, state_at, view}
use Rattle.pool.specs.Good.{held_fits, laid_out, good, pool_sound}
use Rattle.pool.specs.LayoutLaws.{LaidOut, laid_out_facts, entries_counted, payments_counted}
use Rattle.pool.specs.PlaceLaws.{entry_in, payment_in, held_once, payment_once, held_utxo_fits}
use Rattle.pool.specs.RoomLaws.{utxo_ascending, expected_ascending, pending_ascending, states_count, state_elim, state_intro, held_entry_place, place_entry_held, held_payment_place, place_payment_held, references_count, payments_count}

-- the tests of `pool_sound`, in its order
abbrev pub sound_tests : Pool → List Bool
sound_tests w =
    shaped_own (take w.owns w.own)
    ∷ all (λ h. leb h.entry.amount largest_amount) (entries_of w)
    ∷ all (λ h. is_own (take w.owns w.own) h.entry) (entries_of w)
    ∷ all (λ h. apart_marks most_states h.utxo h.expected) (entries_of w)
    ∷ all (λ p. shaped_transaction (view_transaction p.transaction)) (payments_of w)
    ∷ all
    (λ o. all (λ h. agree o h.entry) (entries_of w))
    (made (map (λ p. view_transaction p.transaction) (payments_of w)))
    ∷ []

-- ── what the view holds, in the pool's places

held_in : (w : Pool) → LaidOut w → (h : Held) → Memᴰ h (entries_of w) → Memᴰ h.entry (held_entries (view w))
held_in w f h m = place_entry_held (take w.owns w.own) w.below (entries_of w) (payments_of w) f.entries_fit m

held_place : (w : Pool) (e : Entry) → Memᴰ e (held_entries (view w)) → (h : Held) × Memᴰ h (entries_of w) × (e ≡ h.entry)
held_place w e m = held_entry_place (take w.owns w.own) w.below (entries_of w) (payments_of w) m

pending_in : (w : Pool) → LaidOut w → (p : Payment) → Memᴰ p (payments_of w) → Memᴰ (payment_in p) (held_payments (view w))
pending_in w f p m = place_payment_held (take w.owns w.own) w.below (entries_of w) (payments_of w) f.payments_fit m

pending_place : (w : Pool) (q : Chain.Transaction) → Memᴰ q (held_payments (view w)) → (p : Payment) × Memᴰ p (payments_of w) × (q ≡ payment_in p)
pending_place w q m = held_payment_place (take w.owns w.own) w.below (entries_of w) (payments_of w) m

-- what holds of every state by its mark holds of every state of the view
each_state : (w : Pool) (P : State → Type 0) → ((k : ℕ) → k < suc w.below → P (state_at k (entries_of w) (payments_of w))) → (s : State) → Memᴰ s (states (view w)) → P s
each_state w P f s m =
    let k = state_elim (take w.owns w.own) w.below (entries_of w) (payments_of w) m in
    subst P (sym k.2) (f k.0 k.1)

-- ── sound views have sound pools

view_apart : (w : Pool) → LaidOut w → Sound (view w) → (h : Held) → Memᴰ h (entries_of w) → T (apart_marks most_states h.utxo h.expected)
view_apart w f g h m =
    apart_intro most_states h.utxo h.expected
    (λ k q u x.
    let s = state_at k (entries_of w) (payments_of w) in
    let j : k < suc w.below =
    marked_fits (suc w.below) k h.utxo (held_utxo_fits (suc w.below) h (all_elim (held_fits (suc w.below)) f.entries_fit m)) u
    in
    g.apart s (state_intro (take w.owns w.own) w.below k (entries_of w) (payments_of w) j) h.entry h.entry
    (picked_intro (λ (a : Held). marked k a.utxo) entry_in (entries_of w) m u)
    (picked_intro (λ (a : Held). marked k a.expected) entry_in (entries_of w) m x)
    (same_entry_refl h.entry))

view_sound_pool : (w : Pool) → LaidOut w → Sound (view w) → T (pool_sound w)
unfolding pool_sound
view_sound_pool w f g =
    every_holds (sound_tests w) (
      g.own_shaped,
      (
        all_intro (λ h. leb h.entry.amount largest_amount) (entries_of w)
            (λ h m. le→leb h.entry.amount largest_amount (g.amounts h.entry (held_in w f h m))),
        (
          all_intro (λ h. is_own (take w.owns w.own) h.entry) (entries_of w) (λ h m. g.entries_own h.entry (held_in w f h m)),
          (
            all_intro (λ h. apart_marks most_states h.utxo h.expected) (entries_of w) (view_apart w f g),
            (
              all_intro (λ p. shaped_transaction (view_transaction p.transaction)) (payments_of w)
                  (λ p m. g.payments_shaped (payment_in p) (pending_in w f p m)),
              (
                all_intro (λ o. all (λ h. agree o h.entry) (entries_of w)) (made (map payment_in (payments_of w)))
                    (λ o m.
                    let r = gather_elim makes (map payment_in (payments_of w)) m in
                    let p = map_elim payment_in (payments_of w) r.1 in
                    all_intro (λ h. agree o h.entry) (entries_of w)
                    (λ h n.
                    equal_agree o h.entry
                    (g.outputs_agree_lem o h.entry (gather_intro makes (Memᴰ.cast p.2 (pending_in w f p.0 p.1)) r.2) (held_in w f h n)))),
                tt,
              ),
            ),
          ),
        ),
      ),
    )

-- ── sound pools have sound views

pool_apart : (w : Pool) → LaidOut w → T (pool_sound w) → (k : ℕ) → k < suc w.below → (e d : Entry) → Memᴰ e (utxo_at k (entries_of w)) → Memᴰ d (expected_at k (entries_of w)) → T (same_entry e d) → ⊥
unfolding pool_sound
pool_apart w f t k q e d m n s =
    let a = picked_elim (λ (h : Held). marked k h.utxo) entry_in (entries_of w) m in
    let b = picked_elim (λ (h : Held). marked k h.expected) entry_in (entries_of w) n in
    let c : a.0 ≡ b.0 = held_once (entries_of w) f.entries_ascend a.0 b.0 a.1 b.1 (same_at a.3 b.3 s) in
    apart_elim most_states a.0.utxo a.0.expected k
    (all_elim (λ (h : Held). apart_marks most_states h.utxo h.expected) (every_at (sound_tests w) 3 t) a.1)
    (omega (arith, f.few_below))
    a.2
    (subst (λ (h : Held). T (marked k h.expected)) (sym c) b.2)
  where
    same_at : {x y : Entry} → e ≡ x → d ≡ y → T (same_entry e d) → T (same_entry x y)
    same_at {x} {y} g h r = subst (λ (z : Entry). T (same_entry x z)) h (subst (λ (z : Entry). T (same_entry z d)) g r)

pool_sound_view : (w : Pool) → LaidOut w → T (pool_sound w) → Sound (view w)
unfolding pool_sound
pool_sound_view w f t =
    let own : List ℕ = take w.owns w.own in
    let es : List Held = entries_of w in
    let ps : List Payment = payments_of w in
    record {
      few_states = omega (arith, states_count 1 w.below es ps, f.few_below);
      few_payments =
          omega (
            arith,
            payments_count own w.below es ps f.payments_ascend f.payments_fit,
            payments_counted w f,
            f.few_payments,
          );
      few_references =
          omega (
            arith,
            references_count own w.below es ps f.entries_ascend f.entries_fit,
            entries_counted w f,
            f.few_entries,
          );
      amounts =
          λ e m.
          let h = held_place w e m in
          leb→le e.amount largest_amount
          (holds_at (λ (x : Entry). leb x.amount largest_amount) h.0.entry e (sym h.2)
          (all_elim (λ (x : Held). leb x.entry.amount largest_amount) (every_at (sound_tests w) 1 t) h.1));
      own_shaped = every_at (sound_tests w) 0 t;
      utxo_ascending =
          each_state w (λ s. T (ascending before_entry s.utxo)) (λ k q. utxo_ascending k es f.entries_ascend);
      pending_ascending =
          each_state w (λ s. T (ascending before_transaction s.pending)) (λ k q. pending_ascending k ps f.payments_ascend);
      expected_ascending =
          each_state w (λ s. T (ascending before_entry s.expected)) (λ k q. expected_ascending k es f.entries_ascend);
      payments_shaped =
          λ q m.
          let p = pending_place w q m in
          holds_at shaped_transaction (payment_in p.0) q (sym p.2)
          (all_elim (λ (x : Payment). shaped_transaction (payment_in x)) (every_at (sound_tests w) 4 t) p.1);
      entries_own =
          λ e m.
          let h = held_place w e m in
          holds_at (is_own own) h.0.entry e (sym h.2)
          (all_elim (λ (x : Held). is_own own x.entry) (every_at (sound_tests w) 2 t) h.1);
      apart =
          each_state w (λ s. (e d : Entry) → Memᴰ e s.utxo → Memᴰ d s.expected → T (same_entry e d) → ⊥)
          (pool_apart w f t);
      one_value =
          λ e d m n s.
          let a = held_place w e m in
          let b = held_place w d n in
          a.2
          ∙ ap entry_in
          (held_once es f.entries_ascend a.0 b.0 a.1 b.1
          (subst (λ (z : Entry). T (same_entry a.0.entry z)) b.2 (subst (λ (z : Entry). T (same_entry z d)) a.2 s)))
          ∙ sym b.2;
      one_content =
          λ p q m n s.
          let a = pending_place w p m in
          let b = pending_place w q n in
          a.2
          ∙ ap payment_in
          (payment_once ps f.payments_ascend a.0 b.0 a.1 b.1
          (subst (λ (z : Chain.Transaction). T (same_number (payment_in a.0).number z.number)) b.2
          (subst (λ (z : Chain.Transaction). T (same_number z.number q.number)) a.2 s)))
          ∙ sym b.2;
      outputs_agree_lem =
          λ o e m n s.
          let r = gather_elim makes (held_payments (view w)) m in
          let p = pending_place w r.0 r.1 in
          let h = held_place w e n in
          agree_equal o e
          (holds_at (agree o) h.0.entry e (sym h.2)
          (all_elim (λ (x : Held). agree o x.entry)
          (all_elim (λ (x : Entry). all (λ h. agree x h.entry) es) (every_at (sound_tests w) 5 t)
          (gather_intro makes (Memᴰ.cast p.2 (map_intro payment_in p.1)) r.2))
          h.1))
          s;
    }

-- the view of a laid out pool is sound when the pool is
pub sound_pool : (w : Pool) → T (laid_out w) → sound (view w) ≡ pool_sound w
sound_pool w t =
    let f = laid_out_facts w t in
    same_test (sound (view w)) (pool_sound w)
    (λ s. view_sound_pool w f (sound_facts (view w) s))
    (λ s. facts_sound (view w) (pool_sound_view w f s))

-- a pool is good when it is laid out and sound
pub sound_good : (w : Pool) → good w ≡ (laid_out w && pool_sound w)
unfolding good
sound_good w = under (laid_out w) (sound (view w)) (pool_sound w) (sound_pool w)
  where
    under : (a b c : Bool) → (T a → b ≡ c) → (a && b) ≡ (a && c)
    under true b c e = e tt
    under false b c e = refl
