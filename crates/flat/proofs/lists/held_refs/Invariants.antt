use Rattle.std.proofs.Common.{◌≡◌, map, take}
use Rattle.pool.specs.declared.Held.{Held}
use Rattle.flat.specs.Flat.{refs_of}
use Rattle.flat.proofs.lists.held_refs.Given as goal

abbrev pub invariant-loop-held : goal.invariant-loop-held
invariant-loop-held l = l.refs ≡ refs_of (map {A = Held} (λ h. h.entry.reference) (take l.held-index l.held-items))
