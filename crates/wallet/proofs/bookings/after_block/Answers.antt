-- The pool after a block is the booked pool, where the entries have room.
use Rattle.std.proofs.Common.{ℕ, ◌≡◌, ◌≤◌, ◌∙◌, T, not, sym, ap, arith, leb, leb→le, le→leb, length, take, List, Some, None, Option}
use Rattle.std.proofs.Math.Dec.{not_T}
use Rattle.sets.specs.Sets.{keep}
use Rattle.sets.specs.Tests.{cond_true, cond_false}
use Rattle.rules.specs.Sizes.{most_references}
use Rattle.rules.specs.Chain.{is_own}
use Rattle.chain.specs.View.{view_block}
use Rattle.pool.specs.declared.Pool.{Pool}
use Rattle.pool.specs.Book.{book_block}
use Rattle.pool.specs.BlockEntries.{entries_booked}
use Rattle.flat.specs.Flat.{made_of, made_in}
use Rattle.booking.specs.Lists.{Merged, merged_of}
use Rattle.wallet.specs.PoolBooked.{block_merged, merged_cut, block_paying, block_pool}
use Rattle.wallet.proofs.bookings.after_block.Goals as goal

pub returns-then-merged-gt-MOST_REFERENCES : goal.returns-then-merged-gt-MOST_REFERENCES
returns-then-merged-gt-MOST_REFERENCES c =
    let booked = entries_booked c.args.w (view_block c.args.b) in
    let mine : c.own_of-made.result ≡ made_of (keep (is_own (take c.args.w.owns c.args.w.own)) (made_in c.made_of.result)) =
    c.own_of-made.ensures ∙ ap (λ (l : List ℕ). made_of (keep (is_own l) (made_in c.made_of.result))) c.own.ensures.own in
    let merged : c.entries_after_block-merged.result ≡ merged_of booked =
    block_merged c.args.w c.args.b _ _ _ _ c.spent_of-gone.ensures c.made_of.ensures mine c.entries_after_block-merged.ensures in
    let many : c.entries_after_block-merged.result.count ≡ length booked = ap (λ (m : Merged). m.count) merged in
    let full : T (not (leb (length booked) most_references)) =
    not_T (leb (length booked) most_references)
    (λ (t : T (leb (length booked) most_references)).
    omega (arith, many, c.if-merged-gt-MOST_REFERENCES.true, leb→le (length booked) most_references t)) in
    sym (cond_false (leb (length booked) most_references) (Some (book_block c.args.w (view_block c.args.b))) None full)

pub returns : goal.returns
returns c =
    let booked = entries_booked c.args.w (view_block c.args.b) in
    let mine : c.own_of-made.result ≡ made_of (keep (is_own (take c.args.w.owns c.args.w.own)) (made_in c.made_of.result)) =
    c.own_of-made.ensures ∙ ap (λ (l : List ℕ). made_of (keep (is_own l) (made_in c.made_of.result))) c.own.ensures.own in
    let merged : c.entries_after_block-merged.result ≡ merged_of booked =
    block_merged c.args.w c.args.b _ _ _ _ c.spent_of-gone.ensures c.made_of.ensures mine c.entries_after_block-merged.ensures in
    let many : c.entries_after_block-merged.result.count ≡ length booked = ap (λ (m : Merged). m.count) merged in
    let few : length booked ≤ most_references = omega (arith, many, c.if-merged-gt-MOST_REFERENCES.false) in
    let kept = merged_cut booked _ _ merged c.cut-kept.ensures few in
    let paying = block_paying c.args.w c.args.b _ _ c.spent_of-gone.ensures c.payments_after_block-paying.ensures in
    ap Some (block_pool c.args.w c.args.b _ _ _ c.more_below.ensures kept paying)
    ∙ sym (cond_true (leb (length booked) most_references) (Some (book_block c.args.w (view_block c.args.b))) None (le→leb (length booked) most_references few))
