use Rattle.std.proofs.Common.{rules, ◌∙◌, Bool, ap, cond}
use Rattle.pool.specs.Good.{good}
use Rattle.wallet.specs.Told.{told_amount_from}
use Rattle.wallet.proofs.Wallet.amount.Goals as goal

pub returns : goal.returns
returns c =
    told_amount_from (good c.args.self.now.pool) c.args.value c.told-answer.result
    (c.told-answer.ensures 0 (λ x h. search rules)
    ∙ ap (λ (b : Bool). cond b (0, c.args.value) (9, 0)) c.good_pool.ensures)
