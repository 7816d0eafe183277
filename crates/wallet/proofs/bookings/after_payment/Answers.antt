use Rattle.wallet.specs.PoolBooked.{payment_pool}
use Rattle.wallet.proofs.bookings.after_payment.Goals as goal

pub returns : goal.returns
returns c = payment_pool c.args.w c.args.t _ c.requires.0 c.requires.1 c.payments_after_payment-paying.ensures
