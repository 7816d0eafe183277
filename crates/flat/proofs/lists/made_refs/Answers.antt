use Rattle.std.proofs.Common.{map}
use Rattle.fixed.specs.Laws.{all_taken, map_pushed}
use Rattle.flat.proofs.lists.made_refs.Goals as goal

pub loop-entry-preserved : goal.loop-entry-preserved
loop-entry-preserved c =
    map_pushed _ _ (λ e. e.reference) c.as_slice-entry-items.result.now c.loop-entry.entry-index _ _ _ c.loop-entry.invariant
    c.loop-entry-test.true c.as_slice-entry-items.ensures.most c.push.ensures

pub returns : goal.returns
returns c =
    all_taken _ _ (map (λ e. e.reference)) _ _ c.loop-entry.entry-index _ c.loop-entry.invariant c.loop-entry-test.false
    c.as_slice-entry-items.ensures.items
