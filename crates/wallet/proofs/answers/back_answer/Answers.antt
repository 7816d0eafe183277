-- A rollback is refused as the paper says: one guard after another.
use Rattle.std.proofs.Common.{sym}
use Rattle.pool.specs.Good.{good}
use Rattle.wallet.specs.Answers.{back_8, back_0}
use Rattle.wallet.specs.Flags.{held}
use Rattle.wallet.proofs.answers.back_answer.Goals as goal

pub returns-then-w-eq0 : goal.returns-then-w-eq0
returns-then-w-eq0 c = sym (back_8 c.args.w (held _ (good c.args.w) c.good_pool.ensures c.if-not-good_pool.false) c.if-w-eq0.true)

pub returns : goal.returns
returns c = sym (back_0 c.args.w (held _ (good c.args.w) c.good_pool.ensures c.if-not-good_pool.false) c.if-w-eq0.false)
