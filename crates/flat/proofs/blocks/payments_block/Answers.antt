use Rattle.std.proofs.Common.{ap, ◌∙◌, map}
use Rattle.flat.specs.Flat.{as_block}
use Rattle.fixed.specs.Laws.{all_taken, map_pushed}
use Rattle.flat.proofs.blocks.payments_block.Goals as goal

pub loop-payment-preserved : goal.loop-payment-preserved
loop-payment-preserved c =
    map_pushed _ _ (λ p. p.transaction) c.payments-payment-items.result.now c.loop-payment.payment-index _ _ _ c.loop-payment.invariant
    c.loop-payment-test.true c.payments-payment-items.ensures.most c.push.ensures

pub returns : goal.returns
returns c =
    c.as_block.ensures
    ∙ ap as_block
    (all_taken _ _ (map (λ p. p.transaction)) _ _ c.loop-payment.payment-index _ c.loop-payment.invariant c.loop-payment-test.false
    c.payments-payment-items.ensures.payments)
