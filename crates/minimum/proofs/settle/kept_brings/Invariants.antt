use Rattle.std.proofs.Common.{◌≡◌, not, take}
use Rattle.sets.specs.Sets.{keep}
use Rattle.rules.specs.Sizes.{most_references}
use Rattle.fixed.specs.Filled.{filled_of}
use Rattle.tables.specs.Tables.{is_single}
use Rattle.minimum.specs.Inputs.{no_bring}
use Rattle.minimum.proofs.settle.kept_brings.Given as goal

abbrev pub invariant-loop-bring : goal.invariant-loop-bring
invariant-loop-bring l = l.left ≡ filled_of most_references no_bring (keep (λ b. not (is_single b)) (take l.bring-index l.brings))
