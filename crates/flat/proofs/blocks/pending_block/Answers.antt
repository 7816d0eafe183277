use Rattle.std.proofs.Common.{ap, map, ◌∙◌, sym}
use Rattle.sets.specs.Sets.{keep}
use Rattle.pool.specs.Marks.{marked}
use Rattle.pool.specs.declared.Payment.{Payment}
use Rattle.flat.specs.Flat.{as_block}
use Rattle.fixed.specs.Laws.{all_taken, map-keep_pushed, map-keep_passed}
use Rattle.flat.proofs.blocks.pending_block.Goals as goal
use Rattle.flat.proofs.blocks.pending_block.Goals.{then-is_pending, else-is_pending}

pub loop-payment-preserved : goal.loop-payment-preserved
loop-payment-preserved c =
    let xs = c.payments-payment-items.result.now in
    let i = c.loop-payment.payment-index in
    elim c.if-is_pending.branch [
      | then-is_pending w ↦
          map-keep_pushed _ _ (λ p. p.transaction) (λ (p : Payment). marked 0 p.pending) xs i _ _ _ c.loop-payment.invariant
          c.loop-payment-test.true c.payments-payment-items.ensures.most (sym c.is_pending.ensures ∙ w.if-is_pending.true)
          (w.pending-is ∙ w.push.ensures)
      | else-is_pending w ↦
          map-keep_passed _ _ (λ p. p.transaction) (λ (p : Payment). marked 0 p.pending) xs i _ _ (w.pending-is ∙ c.loop-payment.invariant)
          c.loop-payment-test.true (sym c.is_pending.ensures ∙ w.if-is_pending.false)
    ]

pub returns : goal.returns
returns c =
    c.as_block.ensures
    ∙ ap as_block
    (all_taken _ _ (λ l. map (λ p. p.transaction) (keep (λ (p : Payment). marked 0 p.pending) l)) _ _ c.loop-payment.payment-index _ c.loop-payment.invariant c.loop-payment-test.false
    c.payments-payment-items.ensures.payments)
