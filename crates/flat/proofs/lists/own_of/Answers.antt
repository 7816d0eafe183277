use Rattle.std.proofs.Common.{◌∙◌, sym}
use Rattle.rules.specs.Chain.{is_own}
use Rattle.sets.specs.Sets.{keep}
use Rattle.fixed.specs.Laws.{all_taken, kept_pushed, kept_passed}
use Rattle.flat.proofs.lists.own_of.Goals as goal
use Rattle.flat.proofs.lists.own_of.Goals.{then-is_own, else-is_own}

pub loop-entry-preserved : goal.loop-entry-preserved
unfolding is_own
loop-entry-preserved c =
    let xs = c.as_slice-entry-items.result.now in
    let i = c.loop-entry.entry-index in
    elim c.if-is_own.branch [
      | then-is_own w ↦
          kept_pushed _ _ (is_own c.args.own.now) xs i _ _ _ c.loop-entry.invariant c.loop-entry-test.true
          c.as_slice-entry-items.ensures.most (sym c.is_own.ensures ∙ w.if-is_own.true) (w.kept-is ∙ w.push.ensures)
      | else-is_own w ↦
          kept_passed _ _ (is_own c.args.own.now) xs i _ _ (w.kept-is ∙ c.loop-entry.invariant) c.loop-entry-test.true
          (sym c.is_own.ensures ∙ w.if-is_own.false)
    ]

pub returns : goal.returns
returns c =
    all_taken _ _ (keep (is_own c.args.own.now)) _ _ c.loop-entry.entry-index _ c.loop-entry.invariant c.loop-entry-test.false
    c.as_slice-entry-items.ensures.items
