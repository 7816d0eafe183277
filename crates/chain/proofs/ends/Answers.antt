-- What `all` answers of the places behind the count.
use Rattle.std.proofs.Common.{rules, arith}
use Rattle.std.specs.Prelude.{drop}
use Rattle.std.proofs.lemmas.Iterator.Search.{all_from_yields_List}
use Rattle.std.proofs.lemmas.Iterator.{YieldsList-from_slice}
use Rattle.std.proofs.lemmas.List.{take_rest}
use Rattle.chain.proofs.ends.Goals as goal

pub returns-then-count-places : goal.returns-then-count-places
returns-then-count-places g c = record {
  cases = λ p acts.
      let behind = drop c.args.count c.args.places.now in
      let told = all_from_yields_List p _ _ c.all.result c.all.ensures.ran (YieldsList-from_slice behind (search (rules, take_rest))) acts in
      grind (arith, told);
}
