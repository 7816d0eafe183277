-- Two words of few marks have none in common where no digit is set in both.
use Rattle.std.specs.Prelude.{ℕ, zero, suc, ◌/◌, ◌^◌, ◌<◌, ◌≡◌, refl, Bool, true, false, not, ◌&&◌, ◌||◌, eqb}
use Rattle.std.proofs.Common.{ap, ◌∙◌, sym, arith}
use Rattle.std.proofs.Math.Bool.{not-not}
use Rattle.std.specs.Int.Bits.{bit_and, and_zero_l}
use Rattle.sets.specs.Words.{marked, meets, meets_step}
use Rattle.pool.specs.Marks.{apart_marks}

not_either : (a b : Bool) → not (a || b) ≡ (not a && not b)
not_either true b = refl
not_either false b = refl

-- n marks are apart where the words do not meet
apart_unmet : (n a b : ℕ) → a < 2 ^ n → not (meets a b) ≡ apart_marks n a b
unfolding meets
apart_unmet zero a b h =
    let none : a ≡ 0 = omega arith in
    ap (λ (m : ℕ). not (not (eqb (bit_and m b) 0))) none ∙ ap (λ (m : ℕ). not (not (eqb m 0))) (and_zero_l b)
apart_unmet (suc n) a b h =
    ap not (meets_step a b) ∙ not_either (marked 0 a && marked 0 b) (meets (a / 2) (b / 2))
    ∙ ap (λ (r : Bool). not (marked 0 a && marked 0 b) && r) (apart_unmet n (a / 2) (b / 2) (omega arith))

-- the test of the code
pub apart_common : (n a b : ℕ) → a < 2 ^ n → eqb (bit_and a b) 0 ≡ apart_marks n a b
unfolding meets
apart_common n a b h = sym (not-not (eqb (bit_and a b) 0)) ∙ apart_unmet n a b h
