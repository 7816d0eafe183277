use Rattle.wallet.specs.PoolBooked.{rollback_pool}
use Rattle.wallet.proofs.bookings.after_rollback.Goals as goal

pub returns : goal.returns
returns c = rollback_pool c.args.w _ _ c.entries_after_rollback-kept.ensures c.payments_after_rollback-paying.ensures
