-- How many states a sound wallet struct holds, as the code counts them.
use Rattle.std.specs.Prelude.{ℕ, ◌+◌, min, ◌≡◌, T, length}
use Rattle.std.proofs.Common.{arith}
use Rattle.rules.specs.Sizes.{most_states}
use Rattle.rules.specs.States.{states}
use Rattle.pool.specs.declared.Pool.{Pool}
use Rattle.pool.specs.View.{entries_of, payments_of, view}
use Rattle.pool.specs.Good.{good}
use Rattle.pool.specs.LayoutLaws.{good_layout}
use Rattle.pool.specs.RoomLaws.{states_count}

-- the present one and those below, of which a sound wallet has fewer than the most states
pub held_states : (w : Pool) (below : ℕ) → T (good w) → below ≡ min w.below most_states → below + 1 ≡ length (states (view w))
held_states w below g e =
    omega (arith, e, (good_layout w g).few_below, states_count 1 w.below (entries_of w) (payments_of w))
