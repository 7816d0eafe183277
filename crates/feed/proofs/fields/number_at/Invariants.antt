-- A number put together from its highest byte down. Invariant: what has been made is the number of the bytes from i
-- up.
use Rattle.feed.specs.Numbers.{From}
use Rattle.feed.proofs.fields.number_at.Given as goal

abbrev pub invariant-loop-i : goal.invariant-loop-i
invariant-loop-i l = From l.bytes l.place l.width l.value l.i
