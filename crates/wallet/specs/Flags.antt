-- A flag that the code has asked for, as it is or turned round: what it says of the test that it stands for, and which
-- of two answers it picks.
use Rattle.std.specs.Prelude.{◌≡◌, Bool, true, false, not, cond, T}
use Rattle.std.proofs.Common.{sym, subst, ◌∙◌}
use Rattle.std.proofs.lemmas.Bool.{not-true, not-false}
use Rattle.sets.specs.Tests.{cond_true, cond_false}

-- a flag that is set says that its test holds, one that is not says that it fails
pub held : (flag test : Bool) → flag ≡ test → flag ≡ true → T test
held flag test e f = subst (λ (b : Bool). T b) (sym f ∙ e) tt

pub failed : (flag test : Bool) → flag ≡ test → flag ≡ false → T (not test)
failed flag test e f = subst (λ (b : Bool). T (not b)) (sym f ∙ e) tt

-- the code goes on only where the test holds, and turns back where it fails
pub flag_holds : (test flag : Bool) → flag ≡ test → not flag ≡ false → T test
flag_holds test flag e f = held flag test e (not-false flag f)

pub flag_fails : (test flag : Bool) → flag ≡ test → not flag ≡ true → T (not test)
flag_fails test flag e f = failed flag test e (not-true flag f)

module _ {A : Type 0} where
  -- the first of two answers where the test holds, the second where it fails
  pub picks_first : (test flag : Bool) (a b r : A) → flag ≡ test → not flag ≡ false → r ≡ a → r ≡ cond test a b
  picks_first test flag a b r e f h = h ∙ sym (cond_true test a b (flag_holds test flag e f))

  pub picks_second : (test flag : Bool) (a b r : A) → flag ≡ test → not flag ≡ true → r ≡ b → r ≡ cond test a b
  picks_second test flag a b r e f h = h ∙ sym (cond_false test a b (flag_fails test flag e f))
