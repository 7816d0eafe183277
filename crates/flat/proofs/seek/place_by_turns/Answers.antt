use Rattle.std.proofs.Common.{rules, tests, ap, ◌∙◌, length}
use Rattle.std.proofs.lemmas.Iterator.{YieldsList-from_slice}
use Rattle.std.proofs.lemmas.Iterator.Search.{position_from_yields_List}
use Rattle.std.specs.Option.{unwrap_or}
use Rattle.rules.specs.Chain.{same_reference}
use Rattle.flat.specs.Searches.{by_turns}
use Rattle.flat.proofs.seek.place_by_turns.Goals as goal

pub returns : goal.returns
returns c =
    c.unwrap_or.ensures
    ∙ ap (λ p. unwrap_or p (length c.args.refs.now))
    (position_from_yields_List (same_reference c.args.r.now) _ _ c.position.result c.position.ensures.ran
    (YieldsList-from_slice c.args.refs.now c.iter.ensures.rest) (λ x b q k. search (rules, tests)))
    ∙ by_turns c.args.r.now c.args.refs.now
