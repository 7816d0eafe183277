-- The items one by one, until the rest is too short for one.
use Rattle.std.proofs.Common.{length}
use Rattle.bodies.proofs.items.Given as goal

abbrev pub decreases-loop-rest : goal.decreases-loop-rest
decreases-loop-rest g l = length l.rest
