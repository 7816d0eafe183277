-- A payment is the rules' payment: refused with the paper's number, or booked.
use Rattle.std.proofs.Common.{◌≡◌, ◌∙◌, T, lt→ltb, sym, subst, refl}
use Rattle.rules.specs.Sizes.{most_payments}
use Rattle.rules.specs.Steps as Steps
use Rattle.chain.specs.View as ChainView
use Rattle.chain.specs.View.{view_transaction}
use Rattle.pool.specs.declared.Pool.{Pool}
use Rattle.pool.specs.Good.{good}
use Rattle.wallet.specs.Contract.{Stepped, viewed}
use Rattle.wallet.specs.Moved.{moved}
use Rattle.wallet.specs.Refusals.{number, refusal_some}
use Rattle.wallet.specs.StepsBooked.{pay_refused, payable, pay_booked}
use Rattle.wallet.proofs.Wallet.pay.Goals as goal

pub after_payment-requires : goal.after_payment-requires
after_payment-requires c =
    let k = payable c.args.self.pool c.args.t (sym c.in-Ok.ensures) in
    (k.sound_before, lt→ltb c.args.self.pool.paying most_payments k.room)

pub taken-requires : goal.taken-requires
taken-requires c =
    let k = payable c.args.self.pool c.args.t (sym c.in-Ok.ensures) in
    (k.sound_before, subst (λ (p : Pool). T (good p)) (sym c.after_payment.ensures) k.sound_after)

pub returns-in-Ok : goal.returns-in-Ok
returns-in-Ok c =
    subst (Stepped c.args.self (ChainView.laid_out c.args.t) (Steps.pay (viewed c.args.self) (view_transaction c.args.t)))
    (sym c.taken.ensures)
    (pay_booked c.args.self c.args.t c.after_payment.result (moved c.args.self.pool c.after_payment.result) (sym c.in-Ok.ensures)
    c.after_payment.ensures refl)

pub returns-in-Err : goal.returns-in-Err
returns-in-Err c =
    subst (Stepped c.args.self (ChainView.laid_out c.args.t) (Steps.pay (viewed c.args.self) (view_transaction c.args.t)))
    (sym c.refused.ensures)
    (pay_refused c.args.self c.args.t (number c.in-Err.refusal) c.in-Err.ensures (refusal_some c.in-Err.refusal))
