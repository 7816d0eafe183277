-- What the look at the unused places answers.
use Rattle.std.proofs.Common.{ℕ, eqb, rules, tests, arith}
use Rattle.std.proofs.lemmas.Iterator.{YieldsList-from_slice}
use Rattle.std.proofs.lemmas.Iterator.Search.{all_from_yields_List}
use Rattle.audit.proofs.own_good.Goals as goal

pub returns-then-good_own : goal.returns-then-good_own
returns-then-good_own c =
    let rest =
    all_from_yields_List (λ (a : ℕ). eqb a 0) _ _ c.all.result c.all.ensures.ran
    (YieldsList-from_slice c.args.unused.now cc) (λ x b q k. search (rules, tests))
    in
    grind (arith, rest)
