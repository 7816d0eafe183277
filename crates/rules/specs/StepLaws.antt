-- Answers: one refusal after another, and the answer that a step hands back.
use Rattle.std.specs.Prelude.{◌≡◌, refl, Bool, not, List, ◌∷◌, ℕ, zero, suc, T}
use Rattle.sets.specs.Tests.{cond_true, cond_false}
use Rattle.rules.specs.States.{Wallet}
use Rattle.rules.specs.Steps.{Refusal, answer_of, step_to}

-- the first refusal is given
pub given_first : (n : ℕ) (b : Bool) (l : List Refusal) → T b → answer_of (record { number = n; given = b } ∷ l) ≡ n
given_first n b l t = cond_true b n (answer_of l) t

-- it is not: the others answer
pub given_later : (n : ℕ) (b : Bool) (l : List Refusal) → T (not b) → answer_of (record { number = n; given = b } ∷ l) ≡ answer_of l
given_later n b l t = cond_false b n (answer_of l) t

pub answer_of_step : (n : ℕ) (old new : Wallet) → (step_to n old new).answer ≡ n
answer_of_step zero old new = refl
answer_of_step (suc n) old new = refl
