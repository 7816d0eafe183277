-- Laws of tests: a Boolean that holds, as a fact, taken apart and put together.
use Rattle.std.specs.Prelude.{◌≡◌, refl, ◌⊎◌, Bool, true, false, not, cond, ◌&&◌, ◌||◌, List, [], ◌∷◌, ℕ, zero, suc, T, eqb, get_or}
use Rattle.std.proofs.Common.{sym, subst, ◌∙◌, inl, inr, T_not, eqb→eq}
use Rattle.std.proofs.Math.Dec.{not_T, eqb_refl}
use Rattle.sets.specs.Sets.{every}

pub or_left : (a b : Bool) → T a → T (a || b)
or_left true b t = tt
or_left false b t = absurd t

pub or_right : (a b : Bool) → T b → T (a || b)
or_right true b t = tt
or_right false b t = t

pub or_cases : (a b : Bool) → T (a || b) → T a ⊎ T b
or_cases true b t = inl tt
or_cases false b t = inr t

pub and_left : (a b : Bool) → T (a && b) → T a
and_left true b t = tt
and_left false b t = absurd t

pub and_right : (a b : Bool) → T (a && b) → T b
and_right true b t = t
and_right false b t = absurd t

pub and_both : (a b : Bool) → T a → T b → T (a && b)
and_both true b s t = t
and_both false b s t = absurd s

pub T-cases : (b : Bool) → T b ⊎ T (not b)
T-cases true = inl tt
T-cases false = inr tt

pub not_not : (b : Bool) → T (not (not b)) → T b
not_not true t = tt
not_not false t = absurd t

pub not_not_holds : (b : Bool) → T b → T (not (not b))
not_not_holds true t = tt
not_not_holds false t = absurd t

pub is_true : (b : Bool) → T b → b ≡ true
is_true true t = refl
is_true false t = absurd t

pub is_false : (b : Bool) → T (not b) → b ≡ false
is_false true t = absurd t
is_false false t = refl

-- neither of two tests
pub neither : (a b : Bool) → (not b && not a) ≡ not (a || b)
neither true true = refl
neither true false = refl
neither false true = refl
neither false false = refl

-- two tests, neither of which fails
pub none_failed : (a b : Bool) → T (not (not a || not b)) → T a × T b
none_failed true true t = (tt, tt)
none_failed true false t = absurd t
none_failed false b t = absurd t

pub neither_fails : (a b : Bool) → T a → T b → T (not (not a || not b))
neither_fails true true s t = tt
neither_fails true false s t = absurd t
neither_fails false b s t = absurd s

-- two tests, one of which fails
pub one_fails : (a b : Bool) → T (not a) ⊎ T (not b) → T (not (a && b))
one_fails true b (inl t) = absurd t
one_fails true b (inr t) = t
one_fails false b t = tt

-- equal numbers, and others
pub equal_holds : (m n : ℕ) → m ≡ n → T (eqb m n)
equal_holds m n e = subst (λ (k : ℕ). T (eqb m k)) e (eqb_refl m)

pub neqb→ne : (m n : ℕ) → T (not (eqb m n)) → m ≡ n → ⊥
neqb→ne m n t e = T_not (eqb m n) t (equal_holds m n e)

pub ne→neqb : (m n : ℕ) → (m ≡ n → ⊥) → T (not (eqb m n))
ne→neqb m n f = not_T (eqb m n) (λ (t : T (eqb m n)). f (eqb→eq m n t))

-- two tests that imply each other are one
pub same_test : (a b : Bool) → (T a → T b) → (T b → T a) → a ≡ b
same_test true true f g = refl
same_test true false f g = absurd (f tt)
same_test false true f g = absurd (g tt)
same_test false false f g = refl

module _ {A : Type 0} where
  pub cond_true : (b : Bool) (x y : A) → T b → cond b x y ≡ x
  cond_true true x y t = refl
  cond_true false x y t = absurd t

  pub cond_false : (b : Bool) (x y : A) → T (not b) → cond b x y ≡ y
  cond_false true x y t = absurd t
  cond_false false x y t = refl

-- what holds of both outcomes of a test holds of the one that is taken
pub either_way : {A : Type 0} (P : A → Type 0) (b : Bool) (x y : A) → (T b → P x) → (T (not b) → P y) → P (cond b x y)
either_way P true x y f g = f tt
either_way P false x y f g = g tt

-- the i-th of a list of tests that all hold (past the end there is nothing to hold)
pub every_at : (l : List Bool) (i : ℕ) → T (every l) → T (get_or l i true)
every_at [] i t = tt
every_at (b ∷ l) zero t = and_left b (every l) t
every_at (b ∷ l) (suc i) t = every_at l i (and_right b (every l) t)

-- What a contract of one equation lets through: one answer.
pub one_answer : {A : Type 0} {r q answer : A} → r ≡ answer → q ≡ answer → r ≡ q
one_answer e f = e ∙ sym f
