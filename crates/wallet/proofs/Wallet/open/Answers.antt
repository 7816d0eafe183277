-- A list that is shaped opens a wallet with it, another one with none.
use Rattle.std.proofs.Common.{ℕ, sym, subst}
use Rattle.rules.specs.Chain.{shaped_own}
use Rattle.rules.specs.Steps as Steps
use Rattle.pool.specs.declared.Pool.{Pool}
use Rattle.wallet.specs.Contract.{Reads}
use Rattle.wallet.specs.Flags.{held, failed}
use Rattle.wallet.specs.Opened.{opened_step, few_shaped, opened_reads, opened_refused}
use Rattle.wallet.proofs.Wallet.open.Goals as goal

pub returns-then-not-good_own : goal.returns-then-not-good_own
returns-then-not-good_own c =
    let refused = failed _ (shaped_own c.args.own.now) c.good_own.ensures c.if-not-good_own.true in
    subst (λ (n : ℕ). Reads (opened_step c.opened.result n) (Steps.opening c.args.own.now)) (sym c.number.ensures)
    (subst (λ (p : Pool). Reads (opened_step p 1) (Steps.opening c.args.own.now)) (sym c.opened.ensures) (opened_refused c.args.own.now refused))

pub opened-requires-2 : goal.opened-requires-2
opened-requires-2 c = few_shaped c.args.own.now (held _ (shaped_own c.args.own.now) c.good_own.ensures c.if-not-good_own.false)

pub returns : goal.returns
returns c =
    let shaped = held _ (shaped_own c.args.own.now) c.good_own.ensures c.if-not-good_own.false in
    subst (λ (p : Pool). Reads (opened_step p 0) (Steps.opening c.args.own.now)) (sym c.opened-2.ensures) (opened_reads c.args.own.now shaped)
