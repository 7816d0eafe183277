use Rattle.std.proofs.Common.{◌∙◌, ap, sym}
use Rattle.balance.specs.Worth.{worth_within}
use Rattle.balance.specs.WorthLaws.{sum_fits, sum_within}
use Rattle.balance.proofs.worth_of.Goals as goal

pub sum_of-requires : goal.sum_of-requires
sum_of-requires c = sum_fits c.as_slice-entries.result.now (sym c.is_within.ensures ∙ c.if-is_within.true) c.as_slice-entries.ensures.most

pub returns-then-is_within : goal.returns-then-is_within
returns-then-is_within c =
    c.sum_of.ensures ∙ sum_within c.as_slice-entries.result.now (sym c.is_within.ensures ∙ c.if-is_within.true) ∙ ap worth_within c.as_slice-entries.ensures.items
