use Rattle.std.proofs.Common.{◌≡◌, map, take}
use Rattle.rules.specs.declared.Entry.{Entry}
use Rattle.flat.specs.Flat.{refs_of}
use Rattle.flat.proofs.lists.made_refs.Given as goal

abbrev pub invariant-loop-entry : goal.invariant-loop-entry
invariant-loop-entry l = l.refs ≡ refs_of (map {A = Entry} (λ e. e.reference) (take l.entry-index l.entry-items))
