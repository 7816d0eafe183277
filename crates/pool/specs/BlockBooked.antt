-- The block's booking on the pool is the rule's doing on the view, and its struct is laid out as the pool asks.
use Rattle.std.specs.Prelude.{ℕ, suc, ◌+◌, ◌-◌, ◌≤◌, min, ◌≡◌, not, List, T, length, take}
use Rattle.std.proofs.Common.{sym, ap, ◌∙◌, arith}
use Rattle.rules.specs.Sizes.{most_states, most_payments, most_references}
use Rattle.rules.specs.Chain as Chain
use Rattle.rules.specs.Chain.{spent, shaped_block}
use Rattle.rules.specs.States.{states, own_made, block_pending, block_expected, after_block}
use Rattle.rules.specs.Steps.{already_unspent, contradicts}
use Rattle.pool.specs.declared.Held.{Held}
use Rattle.pool.specs.declared.Payment.{Payment}
use Rattle.pool.specs.declared.Pool.{Pool}
use Rattle.pool.specs.View.{entries_of, payments_of, states_from, view_of, view}
use Rattle.pool.specs.Good.{laid_out, good}
use Rattle.pool.specs.Book.{book_block}
use Rattle.pool.specs.LayoutLaws.{good_laid_out, pool_view, pool_laid_out}
use Rattle.pool.specs.BlockEntries.{entries_booked, payments_booked, below_booked, block_entries_ascend, block_entries_fit, block_payments_ascend, block_payments_fit}
use Rattle.pool.specs.BlockStates.{states_below, take_states, expected_now, pending_now, utxo_now}

-- ── the equation of lists

-- the pool after a block, read as the rules' wallet, is the rule's wallet after the block
pub block_view :
    (w : Pool) (b : Chain.Block) → T (good w) → T (shaped_block b) → T (not (already_unspent (view w).present b)) →
    T (not (contradicts (view w) b)) →
    view_of (take w.owns w.own) (below_booked w) (entries_booked w b) (payments_booked w b) ≡ after_block (view w) b
unfolding after_block block_pending block_expected
block_view w b sound_before shaped made_new consistent =
    let es : List Held = entries_of w in
    let ps : List Payment = payments_of w in
    let outputs = own_made (take w.owns w.own) b in
    let u = utxo_now w b sound_before shaped made_new consistent in
    let p = pending_now outputs (spent b) ps in
    let x = expected_now outputs (spent b) es in
    let count : min 7 (w.below + 1) ≡ min 7 (suc w.below) = omega arith in
    let below : states_from 1 (below_booked w) (entries_booked w b) (payments_booked w b) ≡ take (most_states - 1) (states (view w)) =
    states_below outputs (spent b) es ps 0 (below_booked w) (omega arith)
    ∙ ap (λ (m : ℕ). states_from 0 m es ps) count
    ∙ sym (take_states 7 0 (suc w.below) es ps)
    in
    λ i.
    record {
      own = take w.owns w.own;
      present = record { utxo = u i; pending = p i; expected = x i };
      below = below i;
    }

-- ── the block's booking

-- where the places suffice, the booked pool is read as the rule's wallet after the block, and is laid out
pub block_booked :
    (w : Pool) (b : Chain.Block) → T (good w) → T (shaped_block b) → T (not (already_unspent (view w).present b)) →
    T (not (contradicts (view w) b)) →
    length (entries_booked w b) ≤ most_references → length (payments_booked w b) ≤ most_payments →
    (view (book_block w b) ≡ after_block (view w) b) × T (laid_out (book_block w b))
unfolding book_block
block_booked w b sound_before shaped made_new consistent room space = (
  pool_view w (below_booked w) (entries_booked w b) (payments_booked w b) ∙ block_view w b sound_before shaped made_new consistent,
  pool_laid_out w (below_booked w) (entries_booked w b) (payments_booked w b) (good_laid_out w sound_before) (omega arith)
      room (block_entries_ascend w b sound_before shaped) (block_entries_fit w b sound_before)
      space (block_payments_ascend w b sound_before) (block_payments_fit w b sound_before),
)
