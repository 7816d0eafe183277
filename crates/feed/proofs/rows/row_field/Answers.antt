-- A row that is not in the bytes.
use Rattle.std.proofs.Common.{arith}
use native.Mathlib.Nat.{one-le-pow}
use Rattle.feed.specs.Rows.{row_behind}
use Rattle.feed.proofs.rows.row_field.Goals as goal

pub returns-then-feed-before : goal.returns-then-feed-before
returns-then-feed-before c =
    (row_behind c.args.feed.now c.args.n c.args.skip c.args.width (omega arith), one-le-pow c.args.width 256 (omega arith))
