-- A rollback is the rules' rollback: refused with the paper's number, or booked.
use Rattle.std.proofs.Common.{◌≡◌, T, lt→ltb, true, sym, subst, refl}
use Rattle.rules.specs.Steps as Steps
use Rattle.pool.specs.declared.Pool.{Pool}
use Rattle.pool.specs.Good.{good}
use Rattle.wallet.specs.Contract.{Stepped, viewed}
use Rattle.wallet.specs.Moved.{moved}
use Rattle.wallet.specs.Refusals.{number, refusal_some}
use Rattle.wallet.specs.StepsBooked.{back_refused, returnable, back_booked}
use Rattle.wallet.proofs.Wallet.roll_back.Goals as goal

pub after_rollback-requires : goal.after_rollback-requires
after_rollback-requires c =
    let k = returnable c.args.self.pool (sym c.in-Ok.ensures) in
    (k.sound_before, lt→ltb 0 c.args.self.pool.below k.some_below)

pub taken-requires : goal.taken-requires
taken-requires c =
    let k = returnable c.args.self.pool (sym c.in-Ok.ensures) in
    (k.sound_before, subst (λ (p : Pool). T (good p)) (sym c.after_rollback.ensures) k.sound_after)

pub returns-in-Ok : goal.returns-in-Ok
returns-in-Ok c =
    subst (Stepped c.args.self true (Steps.roll_back (viewed c.args.self))) (sym c.taken.ensures)
    (back_booked c.args.self c.after_rollback.result (moved c.args.self.pool c.after_rollback.result) (sym c.in-Ok.ensures)
    c.after_rollback.ensures refl)

pub returns-in-Err : goal.returns-in-Err
returns-in-Err c =
    subst (Stepped c.args.self true (Steps.roll_back (viewed c.args.self))) (sym c.refused.ensures)
    (back_refused c.args.self (number c.in-Err.refusal) c.in-Err.ensures (refusal_some c.in-Err.refusal))
