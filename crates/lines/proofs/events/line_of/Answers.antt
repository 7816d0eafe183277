-- A sound wallet has its balances answered; the movement is read back from its bits.
use mathlib.Core.Path.{◌≡◌}
use mir.Syntax.{w64}
use mir.Facts.{to_z-of_z}
use Rattle.std.proofs.Common.{rules}
use Rattle.lines.specs.Text.{held}
use Rattle.lines.specs.Balanced.{line_is}
use Rattle.lines.proofs.events.line_of.Goals as goal

pub returns : goal.returns
returns c =
    let back : held c.args.step.movement ≡ c.args.step.movement = to_z-of_z {w = w64} {z = c.args.step.movement} (record { sfits = search rules }) in
    line_is c.args.row c.args.kind c.args.step c.balances-b.result (held c.args.step.movement) c.requires c.balances-b.ensures back
