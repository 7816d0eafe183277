use Rattle.std.proofs.Common.{None, ◌≡◌, map, take}
use Rattle.std.specs.List.{slice_get}
use Rattle.std.specs.Option.{option_map}
use Rattle.rules.specs.declared.Entry.{Entry}
use Rattle.rules.specs.Sizes.{most_references}
use Rattle.fixed.specs.Filled.{filled_of}
use Rattle.flat.specs.Flat.{made_in}
use Rattle.minimum.proofs.takings.amounts_of.Given as goal

abbrev pub invariant-loop-place : goal.invariant-loop-place
invariant-loop-place l =
    l.amounts ≡ filled_of most_references None (map (λ k. option_map (λ (e : Entry). e.amount) (slice_get (made_in l.made) k)) (take l.place-index l.place-items))
