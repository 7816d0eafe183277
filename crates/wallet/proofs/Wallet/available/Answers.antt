-- The available balance, where the wallet is sound.
use Rattle.std.proofs.Common.{refl}
use Rattle.pool.specs.Good.{good}
use Rattle.wallet.specs.Told.{told_amount_one}
use Rattle.wallet.specs.Sums.{free_worth}
use Rattle.wallet.proofs.Wallet.available.Goals as goal

pub returns : goal.returns
returns c =
    told_amount_one (good c.args.self.pool) c.amount.ensures refl
    (λ g. free_worth c.args.self.pool _ _ g c.available_of.ensures c.worth_of.ensures)
