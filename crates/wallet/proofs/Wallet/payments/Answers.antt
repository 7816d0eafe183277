use Rattle.std.proofs.Common.{rules, ◌∙◌, Bool, [], ap, cond}
use Rattle.flat.specs.Flat.{block_of}
use Rattle.pool.specs.Good.{good}
use Rattle.wallet.specs.Told.{told_pending_from}
use Rattle.wallet.proofs.Wallet.payments.Goals as goal

pub returns : goal.returns
returns c =
    told_pending_from (good c.args.self.now.pool) c.args.value c.told-answer.result
    (c.told-answer.ensures (block_of []) (λ x h. search rules)
    ∙ ap (λ (b : Bool). cond b (0, c.args.value) (9, (block_of []))) c.good_pool.ensures)
