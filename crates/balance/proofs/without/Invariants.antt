use Rattle.std.proofs.Common.{◌≡◌, length, take}
use Rattle.rules.specs.States.{without_references}
use Rattle.flat.specs.Flat.{made_in, made_of, refs_in}
use Rattle.balance.proofs.without.Given as goal

abbrev pub invariant-loop-entry : goal.invariant-loop-entry
invariant-loop-entry l = l.kept ≡ made_of (without_references (refs_in l.fn.refs) (take (length l.yielded) (made_in l.fn.made)))
