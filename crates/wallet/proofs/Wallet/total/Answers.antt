-- The total balance, where the wallet is sound: the available balance and the change.
use Rattle.std.proofs.Common.{rules, ◌≡◌, refl, length}
use Rattle.sets.specs.Fill.{mapped_length}
use Rattle.rules.specs.Sizes.{most_references}
use Rattle.pool.specs.Good.{good}
use Rattle.wallet.specs.Told.{told_amount_one}
use Rattle.wallet.specs.Sums.{sums_small, total_is}
use Rattle.wallet.proofs.Wallet.total.Goals as goal

pub overflow_add-free : goal.overflow_add-free
overflow_add-free c =
    let these : length c.available_of.result.items ≡ most_references = search (rules, mapped_length) in
    let those : length c.change_of.result.items ≡ most_references = search (rules, mapped_length) in
    record { fits = sums_small c.available_of.result c.change_of.result these c.worth_of-free.ensures those c.worth_of-change.ensures }

pub returns : goal.returns
returns c =
    told_amount_one (good c.args.self.pool) c.amount.ensures refl
    (λ g.
    total_is c.args.self.pool _ _ _ _ g c.available_of.ensures c.worth_of-free.ensures c.change_of.ensures c.worth_of-change.ensures)
