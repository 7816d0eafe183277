-- The pool's places after a block: entries ascend by reference, payments by number, and each place has at least one mark
-- and none above the states that are held then.
use Rattle.std.specs.Prelude.{ℕ, suc, ◌+◌, ◌-◌, ◌^◌, ◌≤◌, ◌<◌, min, ◌≡◌, ◌⊎◌, Bool, not, ◌&&◌, ◌||◌, T, leb, take}
use Rattle.std.proofs.Common.{sym, subst, ⊎_elim, arith, T_not, leb→le, pow_pos}
use mathlib.Core.List.{List, map, Memᴰ}
use Rattle.std.proofs.Math.Dec.{nleb→lt, not_T}
use Rattle.sets.specs.Sets.{all, has, keep, ascending}
use Rattle.sets.specs.Tests.{and_right, T-cases}
use Rattle.sets.specs.Laws.{any_intro, all_intro, all_elim, keep_from, keep_holds, map_intro, map_elim}
use Rattle.sets.specs.Maps.{picked_elim}
use Rattle.sets.specs.Order.{ascending_mapped, ascending-keep}
use Rattle.rules.specs.declared.Reference.{Reference}
use Rattle.rules.specs.declared.Entry.{Entry}
use Rattle.rules.specs.Sizes.{most_states}
use Rattle.rules.specs.Chain as Chain
use Rattle.rules.specs.Chain.{same_reference, same_entry, before_entry, spent, shaped_block}
use Rattle.rules.specs.States.{own_made, spends}
use Rattle.soundness.specs.Orders.{same_entry_sym, before_entry_trans, before_entry_one}
use Rattle.chain.specs.View.{view_transaction}
use Rattle.pool.specs.declared.Held.{Held}
use Rattle.pool.specs.declared.Payment.{Payment}
use Rattle.pool.specs.declared.Pool.{Pool}
use Rattle.pool.specs.Marks.{marked, raised}
use Rattle.pool.specs.MarkLaws.{one_fits, raised_fits, raised_eight}
use Rattle.pool.specs.View.{entries_of, payments_of}
use Rattle.pool.specs.Good.{before_held, before_payment, held_fits, payment_fits, good}
use Rattle.pool.specs.Book.{held_marked, payment_marked, held_after_block, is_fresh, fresh_held, entries_after_block, payment_after_block, payments_after_block}
use Rattle.pool.specs.PlaceLaws.{before_held_trans, before_payment_trans, held_utxo_fits, held_expected_fits, held_fits_lem, payment_pending_fits, payment_laid_out, payment_fits_lem}
use Rattle.pool.specs.LayoutLaws.{good_layout}
use Rattle.pool.specs.MadeLaws.{own_made_ascending}
use Rattle.pool.specs.BlockMerge.{merge_all, merge_ascending}

-- what a block leaves of a pool's places, and how many states lie below then
abbrev pub entries_booked : Pool → Chain.Block → List Held
entries_booked w b = entries_after_block (own_made (take w.owns w.own) b) (spent b) (entries_of w)

abbrev pub payments_booked : Pool → Chain.Block → List Payment
payments_booked w b = payments_after_block (spent b) (payments_of w)

abbrev pub below_booked : Pool → ℕ
below_booked w = min (most_states - 1) (w.below + 1)

-- ── order

-- where a place after the block comes from: from a place before it, or from a new own output
pub held_from : (outputs : List Entry) (gone : List Reference) (es : List Held) {h : Held} → Memᴰ h (keep held_marked (map (held_after_block outputs gone) es)) → (g : Held) × Memᴰ g es × (h ≡ held_after_block outputs gone g)
held_from outputs gone es m =
    map_elim (held_after_block outputs gone) es (keep_from held_marked (map (held_after_block outputs gone) es) m)

pub fresh_from : (outputs : List Entry) (gone : List Reference) (es : List Held) {h : Held} → Memᴰ h (map fresh_held (keep (is_fresh es gone) outputs)) → (e : Entry) × Memᴰ e outputs × T (is_fresh es gone e) × (h ≡ fresh_held e)
fresh_from outputs gone es m = picked_elim (is_fresh es gone) fresh_held outputs m

-- no new own output has the reference of a place
fresh_apart : (gone : List Reference) (es : List Held) (e : Entry) (g : Held) → T (is_fresh es gone e) → Memᴰ g es → T (same_entry e g.entry) → ⊥
fresh_apart gone es e g t m s =
    T_not (has same_entry e (map (λ h. h.entry) es))
    (and_right (not (has same_reference e.reference gone)) (not (has same_entry e (map (λ h. h.entry) es))) t)
    (any_intro (same_entry e) (map_intro (λ (h : Held). h.entry) m) s)

pub entries_after_ascend :
    (outputs : List Entry) (gone : List Reference) (es : List Held) → T (ascending before_entry outputs) → T (ascending before_held es) →
    T (ascending before_held (entries_after_block outputs gone es))
unfolding entries_after_block
entries_after_ascend outputs gone es s t =
    merge_ascending before_held before_held_trans
    (keep held_marked (map (held_after_block outputs gone) es))
    (map fresh_held (keep (is_fresh es gone) outputs))
    (λ x y m n.
    let g = held_from outputs gone es m in
    let e = fresh_from outputs gone es n in
    subst (λ (u : Held). T (before_held u y) ⊎ T (before_held y u)) (sym g.2)
    (subst (λ (v : Held). T (before_held g.0 v) ⊎ T (before_held v g.0)) (sym e.3)
    (before_entry_one g.0.entry e.0
    (not_T (same_entry g.0.entry e.0)
    (λ q. fresh_apart gone es e.0 g.0 e.2 g.1 (same_entry_sym g.0.entry e.0 q))))))
    (ascending-keep before_held before_held_trans held_marked (map (held_after_block outputs gone) es)
    (ascending_mapped before_held before_held (held_after_block outputs gone) (λ x y h. h) es t))
    (ascending_mapped before_entry before_held fresh_held (λ x y h. h) (keep (is_fresh es gone) outputs)
    (ascending-keep before_entry before_entry_trans (is_fresh es gone) outputs s))

-- the entries after a block ascend by reference
pub block_entries_ascend : (w : Pool) (b : Chain.Block) → T (good w) → T (shaped_block b) → T (ascending before_held (entries_booked w b))
block_entries_ascend w b g h =
    entries_after_ascend (own_made (take w.owns w.own) b) (spent b) (entries_of w)
    (own_made_ascending (take w.owns w.own) b h) (good_layout w g).entries_ascend

-- the payments after a block ascend by number
pub block_payments_ascend : (w : Pool) (b : Chain.Block) → T (good w) → T (ascending before_payment (payments_booked w b))
unfolding payments_after_block
block_payments_ascend w b g =
    ascending-keep before_payment before_payment_trans payment_marked (map (payment_after_block (spent b)) (payments_of w))
    (ascending_mapped before_payment before_payment (payment_after_block (spent b)) (λ x y h. h) (payments_of w) (good_layout w g).payments_ascend)

-- ── marks

-- with n states below, one state more and never more than eight
raised_within : (n m : ℕ) (b : Bool) → n ≤ 7 → m < 2 ^ suc n → raised m b < 2 ^ suc (min 7 (n + 1))
raised_within n m b h k =
    ⊎_elim
    (λ (t : T (leb n 6)).
    let e : suc n ≡ min 7 (n + 1) = omega (arith, leb→le n 6 t) in
    subst (λ (j : ℕ). raised m b < 2 ^ suc j) e (raised_fits (suc n) m b k))
    (λ (t : T (not (leb n 6))).
    let e : 7 ≡ min 7 (n + 1) = omega (arith, nleb→lt n 6 t) in
    subst (λ (j : ℕ). raised m b < 2 ^ suc j) e (raised_eight m b))
    (T-cases (leb n 6))

held_within :
    (outputs : List Entry) (gone : List Reference) (n : ℕ) (g : Held) → n ≤ 7 → T (held_fits (suc n) g) →
    T (held_marked (held_after_block outputs gone g)) → T (held_fits (suc (min 7 (n + 1))) (held_after_block outputs gone g))
held_within outputs gone n g h t marks =
    held_fits_lem (suc (min 7 (n + 1))) (held_after_block outputs gone g)
    (raised_within n g.utxo ((marked 0 g.utxo || has same_entry g.entry outputs) && not (has same_reference g.entry.reference gone)) h
    (held_utxo_fits (suc n) g t))
    (raised_within n g.expected (marked 0 g.expected && not (has same_entry g.entry outputs)) h (held_expected_fits (suc n) g t))
    marks

fresh_within : (n : ℕ) (e : Entry) → T (held_fits (suc n) (fresh_held e))
fresh_within n e = held_fits_lem (suc n) (fresh_held e) (one_fits n) (pow_pos (suc n)) tt

entries_after_fit :
    (outputs : List Entry) (gone : List Reference) (es : List Held) (n : ℕ) → n ≤ 7 → T (all (held_fits (suc n)) es) →
    T (all (held_fits (suc (min 7 (n + 1)))) (entries_after_block outputs gone es))
unfolding entries_after_block
entries_after_fit outputs gone es n h t =
    let top : ℕ = suc (min 7 (n + 1)) in
    let after : List Held = map (held_after_block outputs gone) es in
    merge_all before_held (held_fits top) (keep held_marked after) (map fresh_held (keep (is_fresh es gone) outputs))
    (all_intro (held_fits top) (keep held_marked after)
    (λ x m.
    let g = held_from outputs gone es m in
    subst (λ (v : Held). T (held_fits top v)) (sym g.2)
    (held_within outputs gone n g.0 h (all_elim (held_fits (suc n)) t g.1)
    (subst (λ (v : Held). T (held_marked v)) g.2 (keep_holds held_marked after m)))))
    (all_intro (held_fits top) (map fresh_held (keep (is_fresh es gone) outputs))
    (λ x m.
    let e = fresh_from outputs gone es m in
    subst (λ (v : Held). T (held_fits top v)) (sym e.3) (fresh_within (min 7 (n + 1)) e.0)))

-- each entry after a block has a mark, and none above the states held then
pub block_entries_fit : (w : Pool) (b : Chain.Block) → T (good w) → T (all (held_fits (suc (below_booked w))) (entries_booked w b))
block_entries_fit w b g =
    entries_after_fit (own_made (take w.owns w.own) b) (spent b) (entries_of w) w.below (good_layout w g).few_below (good_layout w g).entries_fit

payment_within :
    (gone : List Reference) (n : ℕ) (p : Payment) → n ≤ 7 → T (payment_fits (suc n) p) →
    T (payment_marked (payment_after_block gone p)) → T (payment_fits (suc (min 7 (n + 1))) (payment_after_block gone p))
payment_within gone n p h t marks =
    payment_fits_lem (suc (min 7 (n + 1))) (payment_after_block gone p)
    (raised_within n p.pending (marked 0 p.pending && not (spends gone (view_transaction p.transaction))) h (payment_pending_fits (suc n) p t))
    marks
    (payment_laid_out (suc n) p t)

-- each payment after a block is laid out and has a mark, and none above the states held then
pub block_payments_fit : (w : Pool) (b : Chain.Block) → T (good w) → T (all (payment_fits (suc (below_booked w))) (payments_booked w b))
unfolding payments_after_block
block_payments_fit w b g =
    let top : ℕ = suc (below_booked w) in
    let after : List Payment = map (payment_after_block (spent b)) (payments_of w) in
    all_intro (payment_fits top) (keep payment_marked after)
    (λ x m.
    let p = map_elim (payment_after_block (spent b)) (payments_of w) (keep_from payment_marked after m) in
    subst (λ (v : Payment). T (payment_fits top v)) (sym p.2)
    (payment_within (spent b) w.below p.0 (good_layout w g).few_below (all_elim (payment_fits (suc w.below)) (good_layout w g).payments_fit p.1)
    (subst (λ (v : Payment). T (payment_marked v)) p.2 (keep_holds payment_marked after m))))
