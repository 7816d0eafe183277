-- A movement: the difference of two available balances, as a signed 64-bit number.
use Rattle.std.specs.Prelude.{ℕ, ◌-◌, ◌^◌, ◌≤◌, ◌<◌, ◌≡◌, T, ℤ, pos, negsuc, ◌-ℤ◌, nat_abs}
use Rattle.std.proofs.Common.{arith, sym, ap, ap₂, subst, ◌∙◌, SFits, to_z, of_z, to_z-of_z}
use Rattle.std.specs.Int.Signed.{mag}
use Rattle.std.specs.Int.{w64}
use Rattle.std.proofs.Math.Facts.{to_z_pos}
use Rattle.rules.specs.Balances.{available_balance}
use Rattle.soundness.specs.Bounds.{available_bound, difference_bound}
use Rattle.pool.specs.declared.Pool.{Pool}
use Rattle.pool.specs.View.{view}
use Rattle.pool.specs.Good.{good}
use Rattle.pool.specs.LayoutLaws.{good_view}

mag_most : (z : ℤ) → mag z ≤ nat_abs z
mag_most (pos n) = omega arith
mag_most (negsuc n) = omega arith

-- read as signed, two numbers below half the range are themselves
signed_difference : (a b : ℕ) → a < 2 ^ 63 → b < 2 ^ 63 → to_z w64 a -ℤ to_z w64 b ≡ pos a -ℤ pos b
signed_difference a b h k = ap₂ ◌-ℤ◌ (to_z_pos w64 h) (to_z_pos w64 k)

difference_signed : (a b : ℕ) → a < 2 ^ 63 → b < 2 ^ 63 → SFits w64 (pos a -ℤ pos b)
difference_signed a b h k =
    record { sfits = omega (arith, mag_most (pos a -ℤ pos b), difference_bound (2 ^ 63 - 1) a b (omega arith) (omega arith)) }

-- their difference fits
pub difference_fits : (a b : ℕ) → a < 2 ^ 63 → b < 2 ^ 63 → SFits w64 (to_z w64 a -ℤ to_z w64 b)
difference_fits a b h k =
    subst (SFits w64) (sym (signed_difference a b h k)) (difference_signed a b h k)

-- and its bits, read as signed, are the difference
pub difference_is : (a b : ℕ) → a < 2 ^ 63 → b < 2 ^ 63 → to_z w64 (of_z w64 (to_z w64 a -ℤ to_z w64 b)) ≡ pos a -ℤ pos b
difference_is a b h k = to_z-of_z (difference_fits a b h k) ∙ signed_difference a b h k

-- the movement from one pool to another
abbrev pub moved : Pool → Pool → ℤ
moved old new = pos (available_balance (view new).present) -ℤ pos (available_balance (view old).present)

-- between two sound pools its bits, read as signed, are itself
pub moved_signed : (old new : Pool) (m : ℤ) → T (good old) → T (good new) → m ≡ moved old new → to_z w64 (of_z w64 m) ≡ moved old new
moved_signed old new m g h e =
    ap (λ (z : ℤ). to_z w64 (of_z w64 z)) e
    ∙ to_z-of_z
    (difference_signed (available_balance (view new).present) (available_balance (view old).present)
    (omega (arith, available_bound (view new) (good_view new h)))
    (omega (arith, available_bound (view old) (good_view old g))))
