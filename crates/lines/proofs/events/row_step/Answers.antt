-- The body is the part of the feed that the row names.
use Prim.Native.Nat.{ℕ}
use mathlib.Core.List.{List}
use mathlib.Core.Path.{subst}
use Rattle.format.specs.Bodies.{read_body}
use Rattle.wallet.specs.Contract.{viewed}
use Rattle.lines.specs.Sheet.{event_step}
use Rattle.lines.specs.Events.{Told}
use Rattle.lines.proofs.events.row_step.Goals as goal

pub returns : goal.returns
returns c =
    subst (λ (b : List ℕ). Told (event_step (viewed c.args.w) (read_body c.args.kind b)) c.event.result) c.body_in.ensures c.event.ensures
