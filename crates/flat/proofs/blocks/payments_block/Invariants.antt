use Rattle.std.proofs.Common.{◌≡◌, map, take}
use Rattle.chain.specs.View.{zero_transaction}
use Rattle.pool.specs.declared.Payment.{Payment}
use Rattle.fixed.specs.Filled.{filled_of}
use Rattle.flat.proofs.blocks.payments_block.Given as goal

abbrev pub invariant-loop-payment : goal.invariant-loop-payment
invariant-loop-payment l =
    l.list ≡ filled_of 16 zero_transaction (map {A = Payment} (λ p. p.transaction) (take l.payment-index l.payment-items))
