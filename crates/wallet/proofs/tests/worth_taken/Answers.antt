use Rattle.std.proofs.Common.{Bool, ◌≡◌, ◌∙◌, ap, sym}
use Rattle.rules.specs.Chain.{same_reference}
use Rattle.rules.specs.declared.Entry.{Entry}
use Rattle.sets.specs.Sets.{has, keep}
use Rattle.fixed.specs.Laws.{all_taken, kept_pushed, kept_passed, items-filled}
use Rattle.flat.specs.Flat.{made_in, zero_entry}
use Rattle.balance.specs.Worth.{worth_within}
use Rattle.wallet.proofs.tests.worth_taken.Goals as goal
use Rattle.wallet.proofs.tests.worth_taken.Goals.{then-is_among, else-is_among}

pub loop-entry-preserved : goal.loop-entry-preserved
loop-entry-preserved c =
    let is_input : Entry → Bool = λ e. has same_reference e.reference c.args.inputs.now in
    let xs = c.as_slice-entry-items.result.now in
    let i = c.loop-entry.entry-index in
    elim c.if-is_among.branch [
      | then-is_among w ↦
          kept_pushed _ _ is_input xs i _ _ _ c.loop-entry.invariant c.loop-entry-test.true c.as_slice-entry-items.ensures.most
          (sym c.is_among.ensures ∙ w.if-is_among.true) (w.taken-is ∙ w.push.ensures)
      | else-is_among w ↦
          kept_passed _ _ is_input xs i _ _ (w.taken-is ∙ c.loop-entry.invariant) c.loop-entry-test.true
          (sym c.is_among.ensures ∙ w.if-is_among.false)
    ]

pub returns : goal.returns
returns c =
    let is_input : Entry → Bool = λ e. has same_reference e.reference c.args.inputs.now in
    let taken =
    all_taken _ _ (keep is_input) _ _ c.loop-entry.entry-index _ c.loop-entry.invariant c.loop-entry-test.false
    c.as_slice-entry-items.ensures.items in
    c.worth_of.ensures ∙ ap worth_within (ap made_in taken ∙ items-filled 128 zero_entry (keep is_input (made_in c.args.list)))
