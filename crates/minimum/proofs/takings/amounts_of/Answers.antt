use Rattle.std.proofs.Common.{◌∙◌, ap, map, refl}
use Rattle.std.specs.List.{slice_get}
use Rattle.std.specs.Option.{option_map}
use Rattle.rules.specs.declared.Entry.{Entry}
use Rattle.rules.specs.Sizes.{most_references}
use Rattle.fixed.specs.Filled.{filled_of, with_item}
use Rattle.fixed.specs.Laws.{all_taken, map_pushed}
use Rattle.flat.specs.Flat.{made_in}
use Rattle.minimum.specs.Takings.{amounts_told}
use Rattle.minimum.proofs.takings.amounts_of.Goals as goal

pub loop-place-preserved : goal.loop-place-preserved
loop-place-preserved c =
    map_pushed _ _ (λ k. option_map (λ (e : Entry). e.amount) (slice_get (made_in c.args.made) k)) c.as_slice-place-items.result.now c.loop-place.place-index 0 _ _
    c.loop-place.invariant c.loop-place-test.true c.as_slice-place-items.ensures.most
    (c.push.ensures ∙ ap (with_item c.loop-place.amounts) c.amount_at.ensures)

pub returns : goal.returns
returns c =
    all_taken _ _ (map (λ k. option_map (λ (e : Entry). e.amount) (slice_get (made_in c.args.made) k))) _ _ c.loop-place.place-index _ c.loop-place.invariant
    c.loop-place-test.false c.as_slice-place-items.ensures.items
    ∙ ap (filled_of most_references _) (amounts_told c.args.refs c.made_refs.result c.args.made c.sought.result _ c.made_refs.ensures c.sought.ensures refl)
