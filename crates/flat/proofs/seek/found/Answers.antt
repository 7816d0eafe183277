use Rattle.std.proofs.Common.{◌∙◌, List, ap, map, ltb, length}
use Rattle.rules.specs.declared.Reference.{Reference}
use Rattle.fixed.specs.Laws.{all_taken, map_pushed, items-filled}
use Rattle.fixed.specs.Filled.{items_in}
use Rattle.flat.specs.Flat.{found_of, refs_in, seek}
use Rattle.flat.specs.SeekLaws.{found_same}
use Rattle.flat.proofs.seek.found.Goals as goal

pub loop-place-preserved : goal.loop-place-preserved
loop-place-preserved c =
    map_pushed _ _ (λ p. ltb p (length c.as_slice-stop.result.now)) c.as_slice-place-items.result.now c.loop-place.place-index _ _ _
    c.loop-place.invariant c.loop-place-test.true c.as_slice-place-items.ensures.most c.push.ensures

pub returns : goal.returns
returns c =
    let these = refs_in c.args.a in
    let those = refs_in c.args.b in
    all_taken _ _ (map (λ p. ltb p (length c.as_slice-stop.result.now))) _ _ c.loop-place.place-index _ c.loop-place.invariant
    c.loop-place-test.false
    (c.as_slice-place-items.ensures.items ∙ ap items_in c.sought.ensures ∙ items-filled 128 0 (map (λ (x : Reference). seek x those) these))
    ∙ ap (λ (l : List Reference). found_of (map (λ p. ltb p (length l)) (map (λ (x : Reference). seek x those) these))) c.as_slice-stop.ensures.items
    ∙ ap found_of (found_same these those)
