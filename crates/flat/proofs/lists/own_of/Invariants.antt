use Rattle.std.proofs.Common.{◌≡◌, take}
use Rattle.rules.specs.Chain.{is_own}
use Rattle.sets.specs.Sets.{keep}
use Rattle.flat.specs.Flat.{made_of}
use Rattle.flat.proofs.lists.own_of.Given as goal

abbrev pub invariant-loop-entry : goal.invariant-loop-entry
invariant-loop-entry l = l.kept ≡ made_of (keep (is_own l.own) (take l.entry-index l.entry-items))
