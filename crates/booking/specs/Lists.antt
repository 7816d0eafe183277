-- The pool's lists in fixed memory, zeros behind.
use Rattle.std.specs.Prelude.{◌*◌, List}
use Rattle.fixed.specs.declared.Filled.{Filled}
use Rattle.fixed.specs.Filled.{filled_of, items_in}
use Rattle.rules.specs.Sizes.{most_payments, most_references}
use Rattle.pool.specs.declared.Held.{Held}
use Rattle.pool.specs.declared.Payment.{Payment}
use Rattle.pool.specs.Book.{zero_held, zero_payment}

abbrev pub Kept : Type 0
Kept = Filled Held most_references

abbrev pub Merged : Type 0
Merged = Filled Held (2 * most_references)

abbrev pub Paying : Type 0
Paying = Filled Payment most_payments

abbrev pub kept_of : List Held → Kept
kept_of l = filled_of most_references zero_held l

abbrev pub merged_of : List Held → Merged
merged_of l = filled_of (2 * most_references) zero_held l

abbrev pub paying_of : List Payment → Paying
paying_of l = filled_of most_payments zero_payment l

abbrev pub kept_in : Kept → List Held
kept_in k = items_in k

abbrev pub merged_in : Merged → List Held
merged_in m = items_in m
