use Rattle.std.proofs.Common.{◌≡◌, take}
use Rattle.rules.specs.Chain.{same_reference}
use Rattle.rules.specs.declared.Entry.{Entry}
use Rattle.sets.specs.Sets.{has, keep}
use Rattle.flat.specs.Flat.{made_of}
use Rattle.wallet.proofs.tests.worth_taken.Given as goal

abbrev pub invariant-loop-entry : goal.invariant-loop-entry
invariant-loop-entry l =
    l.taken ≡ made_of (keep (λ (e : Entry). has same_reference e.reference l.inputs) (take l.entry-index l.entry-items))
