-- The rows one by one. Invariant: the rows still to come, from row n on, decide for all of them.
use Rattle.std.proofs.Common.{◌≡◌, ◌+◌, ◌-◌, ◌*◌, ◌≤◌}
use Rattle.format.specs.Feed.{rows_right}
use Rattle.feed.proofs.rows.rows_right.Given as goal

abbrev pub invariant-loop-n : goal.invariant-loop-n
invariant-loop-n l =
    (l.place ≤ l.table + 65536 * l.n)
    × (rows_right l.feed (l.count + 1 - l.n) l.n l.place ≡ rows_right l.feed l.count 1 l.table)
