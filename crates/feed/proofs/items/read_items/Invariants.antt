-- The items one by one. Invariant: the array holds those read so far, and what is still to be read completes them.
use Rattle.std.proofs.Common.{◌≡◌, ℕ, List, Option, length}
use Rattle.feed.specs.Answers.{ItemReader, before, field_read}
use Rattle.feed.specs.Items.{Progress}
use Rattle.feed.proofs.items.read_items.Given as goal

abbrev pub invariant-loop-i : goal.invariant-loop-i
invariant-loop-i g l =
    (length l.items ≡ g.row.N)
    × ((bytes : List ℕ) (reader : ItemReader g.row.T.Denot) →
    ((at : ℕ) (last : Option g.row.T.Denot) (r : _) → goal.F-post g l.read at last r → field_read r ≡ reader (before last) bytes at) →
    Progress reader l.zero g.row.N bytes l.place l.count l.items l.i (before l.last) l.at)
