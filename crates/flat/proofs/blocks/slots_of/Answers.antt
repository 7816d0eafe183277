use Rattle.std.proofs.Common.{rules, arith, refl}
use Rattle.pool.specs.declared.Payment.{Payment}
use Rattle.chain.specs.View.{zero_reference}
use Rattle.fixed.specs.Laws.{gather_none, gather_extended, all_gathered}
use Rattle.flat.proofs.blocks.slots_of.Goals as goal

pub loop-payment-init : goal.loop-payment-init
loop-payment-init c = gather_none 128 zero_reference 8 (λ (p : Payment). p.transaction.inputs) _ _ (search rules)

pub loop-payment-preserved : goal.loop-payment-preserved
loop-payment-preserved c =
    gather_extended 128 zero_reference 8 (λ (p : Payment). p.transaction.inputs) c.payments-payment-items.result.now
    c.loop-payment.payment-index _ _ _ _ c.loop-payment.invariant c.loop-payment-test.true
    (omega (arith, c.payments-payment-items.ensures.most)) refl c.push_slots.ensures.most c.push_slots.ensures.refs

pub returns : goal.returns
returns c =
    all_gathered 128 zero_reference 8 (λ (p : Payment). p.transaction.inputs) _ _ _ _ c.loop-payment.invariant
    c.loop-payment-test.false c.payments-payment-items.ensures.payments
