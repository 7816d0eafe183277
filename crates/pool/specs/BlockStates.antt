-- The pool after a block, read state by state: its states below are the old ones, and its present state is the rule's.
use Rattle.std.specs.Prelude.{ℕ, zero, suc, ◌+◌, ◌≤◌, ◌<◌, min, ◌≡◌, refl, Bool, false, not, ◌&&◌, ◌||◌, take}
use Rattle.std.proofs.Common.{sym, ◌∙◌, arith}
use Rattle.std.proofs.Math.Path.{ap, subst}
use Rattle.std.proofs.Math.Logic.{⊎_elim}
use mathlib.Core.List.Memᴰ
use mathlib.Core.List.{List, ◌∷◌, map, Memᴰ}
use Rattle.std.proofs.Math.Dec.{T}
use Rattle.sets.specs.Sets.{has, keep}
use Rattle.sets.specs.Tests.{or_left, or_right, or_cases, and_left, and_right, and_both, T-cases}
use Rattle.sets.specs.Laws.{any_intro, any_elim, keep_from, keep_holds, keep_intro, keep-keep, map_intro, map_elim, together_from, together_left, together_right}
use Rattle.sets.specs.Order.{ascending-keep, together-ascending, ascending_one}
use Rattle.sets.specs.Maps.{keep-map, picked_intro, map-keep_wider}
use Rattle.rules.specs.declared.Reference.{Reference}
use Rattle.rules.specs.declared.Entry.{Entry}
use Rattle.rules.specs.Chain as Chain
use Rattle.rules.specs.Chain.{same_reference, same_entry, before_entry, spent, shaped_block}
use Rattle.rules.specs.States.{State, with_entries, own_made, spends, block_utxo}
use Rattle.rules.specs.Steps.{already_unspent, contradicts}
use Rattle.soundness.specs.Orders.{same_entry_refl, same_entry_sym, before_entry_irrefl, before_entry_trans, before_entry_one}
use Rattle.soundness.specs.Made.{made_once}
use Rattle.soundness.specs.BlockKept.{made_not_unspent, made_held, own_made_lem}
use Rattle.chain.specs.View.{view_transaction}
use Rattle.pool.specs.declared.Held.{Held}
use Rattle.pool.specs.declared.Payment.{Payment}
use Rattle.pool.specs.declared.Pool.{Pool}
use Rattle.pool.specs.Marks.{marked}
use Rattle.pool.specs.MarkLaws.{marked_some, marked_zero, marked_one, raised_present, raised_below}
use Rattle.pool.specs.View.{entries_of, payments_of, utxo_at, expected_at, pending_at, state_at, states_from, view}
use Rattle.pool.specs.Good.{before_held, good}
use Rattle.pool.specs.Book.{held_marked, payment_marked, held_after_block, is_fresh, fresh_held, entries_after_block, payment_after_block, payments_after_block}
use Rattle.pool.specs.PlaceLaws.{utxo_marked, expected_marked}
use Rattle.pool.specs.LayoutLaws.{good_layout}
use Rattle.pool.specs.RoomLaws.{utxo_ascending, place_entry_held}
use Rattle.pool.specs.BlockMerge.{merge_from, merge_left, merge_right, merge_keep}
use Rattle.pool.specs.BlockEntries.{entries_booked, held_from, fresh_from, block_entries_ascend}

-- ── marks

unmarked : (b : Bool) → b ≡ false → T (not b)
unmarked b e = subst (λ (c : Bool). T (not c)) (sym e) tt

-- ── what a test that sees no new output keeps of the places after a block

after_keep :
    (outputs : List Entry) (gone : List Reference) (es : List Held) (p q : Held → Bool) → ((h : Held) → T (p h) → T (held_marked h)) →
    ((e : Entry) → T (not (p (fresh_held e)))) → ((g : Held) → p (held_after_block outputs gone g) ≡ q g) →
    map (λ h. h.entry) (keep p (entries_after_block outputs gone es)) ≡ map (λ h. h.entry) (keep q es)
unfolding entries_after_block
after_keep outputs gone es p q marks old same =
    let new : List Held = map fresh_held (keep (is_fresh es gone) outputs) in
    ap (λ (l : List Held). map (λ h. h.entry) l)
    (merge_keep before_held p (keep held_marked (map (held_after_block outputs gone) es)) new
    (λ y m. let e = map_elim fresh_held (keep (is_fresh es gone) outputs) m in subst (λ (h : Held). T (not (p h))) (sym e.2) (old e.0)))
    ∙ map-keep_wider (λ (h : Held). h.entry) p held_marked (held_after_block outputs gone) q es marks (λ g m. same g)

payments_keep :
    (gone : List Reference) (ps : List Payment) (p q : Payment → Bool) → ((x : Payment) → T (p x) → T (payment_marked x)) →
    ((x : Payment) → p (payment_after_block gone x) ≡ q x) →
    map (λ x. view_transaction x.transaction) (keep p (payments_after_block gone ps)) ≡ map (λ x. view_transaction x.transaction) (keep q ps)
unfolding payments_after_block
payments_keep gone ps p q marks same =
    map-keep_wider (λ (x : Payment). view_transaction x.transaction) p payment_marked (payment_after_block gone) q ps marks (λ x m. same x)

-- ── the states below

module _ (outputs : List Entry) (gone : List Reference) (es : List Held) (ps : List Payment) where
  -- state k before the block is state k + 1 after it
  pub state_below : (k : ℕ) → k < 7 → state_at (suc k) (entries_after_block outputs gone es) (payments_after_block gone ps) ≡ state_at k es ps
  state_below k h =
      let u =
      after_keep outputs gone es (λ h. marked (suc k) h.utxo) (λ h. marked k h.utxo)
      (utxo_marked (suc k))
      (λ e. unmarked (marked (suc k) 1) (marked_one k))
      (λ g. raised_below k g.utxo ((marked 0 g.utxo || has same_entry g.entry outputs) && not (has same_reference g.entry.reference gone)) h)
      in
      let x =
      after_keep outputs gone es (λ h. marked (suc k) h.expected) (λ h. marked k h.expected)
      (expected_marked (suc k))
      (λ e. unmarked (marked (suc k) 0) (marked_zero (suc k)))
      (λ g. raised_below k g.expected (marked 0 g.expected && not (has same_entry g.entry outputs)) h)
      in
      let p =
      payments_keep gone ps (λ x. marked (suc k) x.pending) (λ x. marked k x.pending)
      (λ x t. marked_some (suc k) x.pending t)
      (λ x. raised_below k x.pending (marked 0 x.pending && not (spends gone (view_transaction x.transaction))) h)
      in
      λ i. record { utxo = u i; pending = p i; expected = x i }

  pub states_below :
      (k n : ℕ) → k + n ≤ 7 →
      states_from (suc k) n (entries_after_block outputs gone es) (payments_after_block gone ps) ≡ states_from k n es ps
  states_below k zero h = refl
  states_below k (suc n) h =
      let first = state_below k (omega arith) in
      let rest = states_below (suc k) n (omega arith) in
      λ i. first i ∷ rest i

-- the first j of some states
pub take_states : (j k n : ℕ) (es : List Held) (ps : List Payment) → take j (states_from k n es ps) ≡ states_from k (min j n) es ps
take_states zero k n es ps = ap (λ (m : ℕ). states_from k m es ps) (sym none)
  where
    none : min 0 n ≡ 0
    none = omega arith
take_states (suc j) k zero es ps = ap (λ (m : ℕ). states_from k m es ps) (sym none)
  where
    none : min (suc j) 0 ≡ 0
    none = omega arith
take_states (suc j) k (suc n) es ps =
    ap (λ (l : List State). state_at k es ps ∷ l) (take_states j (suc k) n es ps)
    ∙ ap (λ (m : ℕ). states_from k m es ps) more
  where
    more : suc (min j n) ≡ min (suc j) (suc n)
    more = omega arith

-- ── the present pending and expected sets

module _ (outputs : List Entry) (gone : List Reference) where
  -- the expected entries that the block does not make
  pub expected_now :
      (es : List Held) → expected_at 0 (entries_after_block outputs gone es) ≡ keep (λ e. not (has same_entry e outputs)) (expected_at 0 es)
  expected_now es =
      after_keep outputs gone es (λ h. marked 0 h.expected)
      (λ h. marked 0 h.expected && not (has same_entry h.entry outputs))
      (expected_marked 0) (λ e. tt)
      (λ g. raised_present g.expected (marked 0 g.expected && not (has same_entry g.entry outputs)))
      ∙ ap (λ (l : List Held). map (λ h. h.entry) l)
      (sym (keep-keep (λ (h : Held). not (has same_entry h.entry outputs)) (λ h. marked 0 h.expected) es))
      ∙ sym (keep-map (λ (e : Entry). not (has same_entry e outputs)) (λ (h : Held). h.entry) (keep (λ h. marked 0 h.expected) es))

  -- the pending payments of which the block spends no input
  pub pending_now : (ps : List Payment) → pending_at 0 (payments_after_block gone ps) ≡ keep (λ p. not (spends gone p)) (pending_at 0 ps)
  pending_now ps =
      payments_keep gone ps (λ x. marked 0 x.pending)
      (λ x. marked 0 x.pending && not (spends gone (view_transaction x.transaction)))
      (λ x t. marked_some 0 x.pending t)
      (λ x. raised_present x.pending (marked 0 x.pending && not (spends gone (view_transaction x.transaction))))
      ∙ ap (λ (l : List Payment). map (λ x. view_transaction x.transaction) l)
      (sym (keep-keep (λ (x : Payment). not (spends gone (view_transaction x.transaction))) (λ x. marked 0 x.pending) ps))
      ∙ sym
      (keep-map (λ (p : Chain.Transaction). not (spends gone p)) (λ (x : Payment). view_transaction x.transaction)
      (keep (λ x. marked 0 x.pending) ps))

-- ── the present UTxO

module _
    (w : Pool)
    (b : Chain.Block)
    (sound_before : T (good w))
    (shaped : T (shaped_block b))
    (made_new : T (not (already_unspent (view w).present b)))
    (consistent : T (not (contradicts (view w) b)))
  where
    abbrev es : List Held
    es = entries_of w

    abbrev own : List ℕ
    own = take w.owns w.own

    abbrev outputs : List Entry
    outputs = own_made own b

    abbrev stays : Entry → Bool
    stays e = not (has same_reference e.reference (spent b))

    -- the block's own output that a place stands for is that place's entry
    output_held : (e : Entry) (g : Held) → Memᴰ e outputs → Memᴰ g es → T (same_entry e g.entry) → e ≡ g.entry
    output_held e g m n s = made_held (view w) b consistent e g.entry (own_made_lem own b m) (place_entry_held own w.below es (payments_of w) (good_layout w sound_before).entries_fit n) s

    -- every own output is in the UTxO with them, since none was in it before
    output_in : {e : Entry} → Memᴰ e outputs → Memᴰ e (with_entries (utxo_at 0 es) outputs)
    output_in {e} m =
        let z = together_right same_entry before_entry (utxo_at 0 es) outputs same_entry_refl m in
        Memᴰ.cast
        (⊎_elim
        (λ (k : Memᴰ z.0 (utxo_at 0 es)). absurd (made_not_unspent (view w).present b made_new e z.0 (own_made_lem own b m) k z.2))
        (λ (k : Memᴰ z.0 outputs). made_once b shaped e z.0 (own_made_lem own b m) (own_made_lem own b k) z.2)
        (together_from same_entry before_entry (utxo_at 0 es) outputs z.1))
        z.1

    old_in : (g : Held) → Memᴰ g es → T (marked 0 (held_after_block outputs (spent b) g).utxo) → Memᴰ g.entry (block_utxo own (utxo_at 0 es) b)
    unfolding block_utxo
    old_in g m t =
        let mark : T ((marked 0 g.utxo || has same_entry g.entry outputs) && stays g.entry) =
        subst (λ (c : Bool). T c) (raised_present g.utxo ((marked 0 g.utxo || has same_entry g.entry outputs) && stays g.entry)) t
        in
        keep_intro stays (with_entries (utxo_at 0 es) outputs)
        (⊎_elim
        (λ (h : T (marked 0 g.utxo)).
        together_left same_entry before_entry (utxo_at 0 es) outputs
        (picked_intro (λ (h : Held). marked 0 h.utxo) (λ (h : Held). h.entry) es m h))
        (λ (h : T (has same_entry g.entry outputs)).
        let o = any_elim (same_entry g.entry) outputs h in
        output_in (Memᴰ.cast (sym (output_held o.0 g o.1 m (same_entry_sym g.entry o.0 o.2))) o.1))
        (or_cases (marked 0 g.utxo) (has same_entry g.entry outputs)
        (and_left (marked 0 g.utxo || has same_entry g.entry outputs) (stays g.entry) mark)))
        (and_right (marked 0 g.utxo || has same_entry g.entry outputs) (stays g.entry) mark)

    fresh_in : (e : Entry) → Memᴰ e outputs → T (is_fresh es (spent b) e) → Memᴰ e (block_utxo own (utxo_at 0 es) b)
    unfolding block_utxo
    fresh_in e m t =
        keep_intro stays (with_entries (utxo_at 0 es) outputs) (output_in m)
        (and_left (stays e) (not (has same_entry e (map (λ h. h.entry) es))) t)

    utxo_sound : (e : Entry) → Memᴰ e (utxo_at 0 (entries_booked w b)) → Memᴰ e (block_utxo own (utxo_at 0 es) b)
    unfolding entries_after_block
    utxo_sound e m =
        let x = map_elim (λ (h : Held). h.entry) (keep (λ (h : Held). marked 0 h.utxo) (entries_booked w b)) m in
        let t : T (marked 0 x.0.utxo) = keep_holds (λ (h : Held). marked 0 h.utxo) (entries_booked w b) x.1 in
        ⊎_elim
        (λ (k : Memᴰ x.0 (keep held_marked (map (held_after_block outputs (spent b)) es))).
        let g = held_from outputs (spent b) es k in
        Memᴰ.cast (x.2 ∙ ap (λ (h : Held). h.entry) g.2)
        (old_in g.0 g.1 (subst (λ (h : Held). T (marked 0 h.utxo)) g.2 t)))
        (λ (k : Memᴰ x.0 (map fresh_held (keep (is_fresh es (spent b)) outputs))).
        let o = fresh_from outputs (spent b) es k in
        Memᴰ.cast (x.2 ∙ ap (λ (h : Held). h.entry) o.3) (fresh_in o.0 o.1 o.2))
        (merge_from before_held
        (keep held_marked (map (held_after_block outputs (spent b)) es))
        (map fresh_held (keep (is_fresh es (spent b)) outputs))
        (keep_from (λ (h : Held). marked 0 h.utxo) (entries_booked w b) x.1))

    marked_in : (h : Held) → Memᴰ h (entries_booked w b) → T (marked 0 h.utxo) → Memᴰ h.entry (utxo_at 0 (entries_booked w b))
    marked_in h m t =
        picked_intro (λ (x : Held). marked 0 x.utxo) (λ (x : Held). x.entry) (entries_booked w b) m t

    -- a place that is unspent or made, and stays, is in the new UTxO
    old_placed : (g : Held) → Memᴰ g es → T (marked 0 g.utxo || has same_entry g.entry outputs) → T (stays g.entry) → Memᴰ g.entry (utxo_at 0 (entries_booked w b))
    unfolding entries_after_block
    old_placed g m t s =
        let after : Held = held_after_block outputs (spent b) g in
        let mark : T (marked 0 after.utxo) =
        subst (λ (c : Bool). T c)
        (sym (raised_present g.utxo ((marked 0 g.utxo || has same_entry g.entry outputs) && stays g.entry)))
        (and_both (marked 0 g.utxo || has same_entry g.entry outputs) (stays g.entry) t s)
        in
        marked_in after
        (merge_left before_held
        (keep held_marked (map (held_after_block outputs (spent b)) es))
        (map fresh_held (keep (is_fresh es (spent b)) outputs))
        (keep_intro held_marked (map (held_after_block outputs (spent b)) es) (map_intro (held_after_block outputs (spent b)) m) (utxo_marked 0 after mark)))
        mark

    fresh_placed : (e : Entry) → Memᴰ e outputs → T (is_fresh es (spent b) e) → Memᴰ e (utxo_at 0 (entries_booked w b))
    unfolding entries_after_block
    fresh_placed e m t =
        marked_in (fresh_held e)
        (merge_right before_held
        (keep held_marked (map (held_after_block outputs (spent b)) es))
        (map fresh_held (keep (is_fresh es (spent b)) outputs))
        (picked_intro (is_fresh es (spent b)) fresh_held outputs m t))
        tt

    utxo_whole : (e : Entry) → Memᴰ e (block_utxo own (utxo_at 0 es) b) → Memᴰ e (utxo_at 0 (entries_booked w b))
    unfolding block_utxo
    utxo_whole e m =
        let s : T (stays e) = keep_holds stays (with_entries (utxo_at 0 es) outputs) m in
        ⊎_elim
        (λ (k : Memᴰ e (utxo_at 0 es)).
        let g = map_elim (λ (h : Held). h.entry) (keep (λ (h : Held). marked 0 h.utxo) es) k in
        Memᴰ.cast g.2
        (old_placed g.0 (keep_from (λ (h : Held). marked 0 h.utxo) es g.1)
        (or_left (marked 0 g.0.utxo) (has same_entry g.0.entry outputs) (keep_holds (λ (h : Held). marked 0 h.utxo) es g.1))
        (subst (λ (x : Entry). T (stays x)) g.2 s)))
        (λ (k : Memᴰ e outputs).
        ⊎_elim
        (λ (t : T (has same_entry e (map (λ h. h.entry) es))).
        let f = any_elim (same_entry e) (map (λ h. h.entry) es) t in
        let g = map_elim (λ (h : Held). h.entry) es f.1 in
        let same : T (same_entry e g.0.entry) = subst (λ (x : Entry). T (same_entry e x)) g.2 f.2 in
        let d : e ≡ g.0.entry = output_held e g.0 k g.1 same in
        Memᴰ.cast d
        (old_placed g.0 g.1
        (or_right (marked 0 g.0.utxo) (has same_entry g.0.entry outputs)
        (any_intro (same_entry g.0.entry) k (same_entry_sym e g.0.entry same)))
        (subst (λ (x : Entry). T (stays x)) d s)))
        (λ (t : T (not (has same_entry e (map (λ h. h.entry) es)))).
        fresh_placed e k (and_both (stays e) (not (has same_entry e (map (λ h. h.entry) es))) s t))
        (T-cases (has same_entry e (map (λ h. h.entry) es))))
        (together_from same_entry before_entry (utxo_at 0 es) outputs (keep_from stays (with_entries (utxo_at 0 es) outputs) m))

    -- the new present UTxO is the rule's
    pub utxo_now : utxo_at 0 (entries_booked w b) ≡ block_utxo own (utxo_at 0 es) b
    unfolding block_utxo
    utxo_now =
        ascending_one before_entry before_entry_trans before_entry_irrefl (utxo_at 0 (entries_booked w b)) (block_utxo own (utxo_at 0 es) b)
        (utxo_ascending 0 (entries_booked w b) (block_entries_ascend w b sound_before shaped))
        (ascending-keep before_entry before_entry_trans stays (with_entries (utxo_at 0 es) outputs)
        (together-ascending before_entry before_entry_trans same_entry (utxo_at 0 es) outputs (λ x y m n d. before_entry_one x y d)
        (utxo_ascending 0 es (good_layout w sound_before).entries_ascend)))
        utxo_sound utxo_whole
