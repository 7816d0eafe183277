use Rattle.std.proofs.Common.{map, ◌∙◌, ap}
use Rattle.fixed.specs.Filled.{with_item}
use Rattle.fixed.specs.Laws.{all_taken, map_pushed}
use Rattle.flat.proofs.seek.sought_by.Goals as goal

pub loop-r-preserved : goal.loop-r-preserved
loop-r-preserved g c = λ f h.
    map_pushed 128 0 f c.as_slice-r-items.result.now c.loop-r.r-index _ _ _ (c.loop-r.invariant f h) c.loop-r-test.true
    c.as_slice-r-items.ensures.most (c.push.ensures ∙ ap (with_item c.loop-r.at) (h _ c.place.result c.place.ensures))

pub returns : goal.returns
returns g c = λ f h.
    all_taken 128 0 (map f) _ _ c.loop-r.r-index _ (c.loop-r.invariant f h) c.loop-r-test.false c.as_slice-r-items.ensures.items
