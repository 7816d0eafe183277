-- The sum of a list of entries, as far as it can be worked out for any list: amounts over the limit give 0.
use Rattle.std.specs.Prelude.{ℕ, cond, List, leb}
use Rattle.sets.specs.Sets.{all}
use Rattle.rules.specs.declared.Entry.{Entry}
use Rattle.rules.specs.Sizes.{largest_amount}
use Rattle.rules.specs.Chain.{worth}

abbrev pub worth_within : List Entry → ℕ
worth_within l = cond (all (λ e. leb e.amount largest_amount) l) (worth l) 0
