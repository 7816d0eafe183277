use Rattle.std.proofs.Common.{List, ◌≡◌, ◌∙◌, ap, map}
use Rattle.rules.specs.declared.Reference.{Reference}
use Rattle.rules.specs.declared.Entry.{Entry}
use Rattle.rules.specs.Chain.{same_reference}
use Rattle.chain.specs.View.{zero_reference}
use Rattle.sets.specs.Sets.{all, has}
use Rattle.fixed.specs.Filled.{items_in}
use Rattle.fixed.specs.Laws.{items-filled}
use Rattle.flat.specs.Flat.{made_in}
use Rattle.wallet.proofs.tests.all_among.Goals as goal

pub returns : goal.returns
returns c =
    let held =
    c.as_slice.ensures.items ∙ ap items_in c.made_refs.ensures
    ∙ items-filled 128 zero_reference (map (λ (e : Entry). e.reference) (made_in c.args.list)) in
    c.each_among.ensures ∙ ap (λ (l : List Reference). all (λ i. has same_reference i l) c.args.inputs.now) held
