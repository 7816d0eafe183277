use Rattle.fixed.specs.Laws.{Gathered}
use Rattle.chain.specs.View.{zero_reference}
use Rattle.pool.specs.declared.Payment.{Payment}
use Rattle.flat.proofs.blocks.slots_of.Given as goal

abbrev pub invariant-loop-payment : goal.invariant-loop-payment
invariant-loop-payment l = Gathered 128 zero_reference 8 (λ (p : Payment). p.transaction.inputs) l.payment-items l.payment-index l.slots
