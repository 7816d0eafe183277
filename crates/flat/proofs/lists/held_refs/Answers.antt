use Rattle.std.proofs.Common.{map}
use Rattle.fixed.specs.Laws.{all_taken, map_pushed}
use Rattle.flat.proofs.lists.held_refs.Goals as goal

pub loop-held-preserved : goal.loop-held-preserved
loop-held-preserved c =
    map_pushed _ _ (λ h. h.entry.reference) c.entries-held-items.result.now c.loop-held.held-index _ _ _ c.loop-held.invariant
    c.loop-held-test.true c.entries-held-items.ensures.most c.push.ensures

pub returns : goal.returns
returns c =
    all_taken _ _ (map (λ h. h.entry.reference)) _ _ c.loop-held.held-index _ c.loop-held.invariant c.loop-held-test.false
    c.entries-held-items.ensures.entries
