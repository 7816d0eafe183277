-- A search for many at once, one comparison a turn: what is left to compare goes down.
use Rattle.std.specs.Prelude.{ℕ, ◌+◌, ◌-◌, ◌*◌, ◌<◌, ◌≡◌, Bool, true, false, cond}
use Rattle.std.proofs.Common.{arith}
use mir.Val.{bool_byte}

pub turn_less :
    (ends i j next : ℕ) (done : Bool) → i < ends → j < 128 → next ≡ cond done 0 (j + 1) →
    (ends - (i + bool_byte done)) * 128 - next < (ends - i) * 128 - j
turn_less ends i j next true h k e = omega arith
turn_less ends i j next false h k e = omega arith
