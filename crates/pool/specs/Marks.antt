-- Mark words: one bit for each held state, bit 0 for the present one.
use Rattle.std.specs.Prelude.{ℕ, zero, suc, ◌+◌, ◌*◌, ◌/◌, ◌%◌, Bool, true, not, ◌&&◌}
pub use Rattle.sets.specs.Words.{marked, bit}

-- One state more: all marks go up by one, that of the eighth state falls off, and the present mark is new.
abbrev pub raised : ℕ → Bool → ℕ
raised m b = m % 128 * 2 + bit b

-- One state less: all marks go down by one, and the present mark is new.
abbrev pub lowered : ℕ → Bool → ℕ
lowered m b = m / 4 * 2 + bit b

-- no mark of the first n stands in both words
abbrev pub apart_marks : ℕ → ℕ → ℕ → Bool
apart_marks zero a b = true
apart_marks (suc n) a b = not (marked 0 a && marked 0 b) && apart_marks n (a / 2) (b / 2)
