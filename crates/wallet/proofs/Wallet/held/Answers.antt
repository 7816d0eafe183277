-- How many states are held: one more than lie below, where the wallet is sound.
use Rattle.std.proofs.Common.{refl}
use Rattle.pool.specs.Good.{good}
use Rattle.wallet.specs.Told.{told_amount_one}
use Rattle.wallet.specs.HeldStates.{held_states}
use Rattle.wallet.proofs.Wallet.held.Goals as goal

pub returns : goal.returns
returns c =
    told_amount_one (good c.args.self.pool) c.amount.ensures refl
    (λ g. held_states c.args.self.pool c.min-below.result g c.min-below.ensures)
