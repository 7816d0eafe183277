use Rattle.std.proofs.Common.{◌∙◌, subst}
use Rattle.std.specs.declared.cmp.Ordering.{Ordering}
use Rattle.std.specs.List.Sorted.{IsBinarySearchResult}
use Rattle.rules.specs.declared.Reference.{Reference}
use Rattle.rules.specs.ChainLaws.{reference_order}
use Rattle.flat.specs.Searches.{by_halves}
use Rattle.flat.proofs.seek.place_by_halves.Goals as goal

pub returns : goal.returns
returns c =
    c.unwrap_or.ensures
    ∙ by_halves c.args.r.now c.args.refs.now c.requires c.binary_search.result c.binary_search.ensures.bound
    (subst (λ (o : Reference → Ordering). IsBinarySearchResult o c.args.refs.now c.binary_search.result) (λ i y. reference_order y c.args.r.now i) c.binary_search.ensures.position)
