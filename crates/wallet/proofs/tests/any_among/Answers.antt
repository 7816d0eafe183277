use Rattle.std.proofs.Common.{List, Bool, false, ◌≡◌, ◌∙◌, ap, ap₂, map}
use Rattle.rules.specs.declared.Reference.{Reference}
use Rattle.rules.specs.declared.Entry.{Entry}
use Rattle.rules.specs.Chain.{same_reference}
use Rattle.chain.specs.View.{zero_reference}
use Rattle.sets.specs.Sets.{any, has}
use Rattle.sets.specs.Maps.{any-map}
use Rattle.fixed.specs.Filled.{items_in}
use Rattle.fixed.specs.Laws.{items-filled}
use Rattle.flat.specs.Flat.{made_in, refs_in}
use Rattle.wallet.proofs.tests.any_among.Goals as goal

pub returns : goal.returns
returns c =
    let these = map (λ (e : Entry). e.reference) (made_in c.args.these) in
    let those = map (λ (e : Entry). e.reference) (made_in c.args.list) in
    let a = ap refs_in c.made_refs.ensures ∙ items-filled 128 zero_reference these in
    let b = ap refs_in c.made_refs-2.ensures ∙ items-filled 128 zero_reference those in
    let held =
    c.as_slice.ensures.items ∙ ap items_in c.found.ensures
    ∙ items-filled 128 false (map (λ x. has same_reference x (refs_in c.made_refs-2.result)) (refs_in c.made_refs.result))
    ∙ ap₂ (λ (l m : List Reference). map (λ x. has same_reference x m) l) a b in
    c.any_found.ensures ∙ ap (any (λ (f : Bool). f)) held ∙ any-map (λ (f : Bool). f) (λ x. has same_reference x those) these
