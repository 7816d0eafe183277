-- The movement: the difference of two available balances, each below half the range of 64 bits.
use mathlib.Core.Path.{ap₂, ◌∙◌}
use Prim.Native.Nat.{ℕ}
use lib.IntN.{pos, ◌-ℤ◌}
use Rattle.wallet.specs.Moved.{difference_fits, difference_is}
use Rattle.wallet.specs.Sums.{free_worth, free_small}
use Rattle.wallet.proofs.bookings.movement.Goals as goal

pub overflow_cast-result : goal.overflow_cast-result
overflow_cast-result c =
    record { sfits = free_small c.args.after _ _ c.requires.1 c.available_of-2.ensures c.worth_of-new.ensures }

pub overflow_cast-result-2 : goal.overflow_cast-result-2
overflow_cast-result-2 c =
    record { sfits = free_small c.args.before _ _ c.requires.0 c.available_of.ensures c.worth_of-old.ensures }

pub overflow_sub-result : goal.overflow_sub-result
overflow_sub-result c =
    difference_fits c.worth_of-new.result c.worth_of-old.result
    (free_small c.args.after _ _ c.requires.1 c.available_of-2.ensures c.worth_of-new.ensures)
    (free_small c.args.before _ _ c.requires.0 c.available_of.ensures c.worth_of-old.ensures)

pub returns : goal.returns
returns c =
    difference_is c.worth_of-new.result c.worth_of-old.result
    (free_small c.args.after _ _ c.requires.1 c.available_of-2.ensures c.worth_of-new.ensures)
    (free_small c.args.before _ _ c.requires.0 c.available_of.ensures c.worth_of-old.ensures)
    ∙ ap₂ (λ (a b : ℕ). pos a -ℤ pos b)
    (free_worth c.args.after _ _ c.requires.1 c.available_of-2.ensures c.worth_of-new.ensures)
    (free_worth c.args.before _ _ c.requires.0 c.available_of.ensures c.worth_of-old.ensures)
