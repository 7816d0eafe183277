-- The rows so far are settled by the brings so far.
use Rattle.std.proofs.Common.{◌≡◌, take}
use Rattle.tables.specs.Tables.{settled_rows}
use Rattle.minimum.proofs.settle.settled_rows.Given as goal

abbrev pub invariant-loop-bring : goal.invariant-loop-bring
invariant-loop-bring l = l.rows ≡ settled_rows (take l.bring-index l.brings) l.initial.rows
