-- The paper's number of each refusal, and the answer of a test that may refuse.
use Rattle.std.specs.Prelude.{ℕ, ◌≡◌, Result, Ok, Err}
use Rattle.std.proofs.Common.{arith}
use Rattle.wallet.specs.declared.refusal.Refusal.{Refusal}
use Rattle.wallet.specs.declared.refusal.Refusal.TheVariants.{NotShaped, NumberTaken, InputMissing, PaysTooMuch, AlreadyUnspent, Contradicts, NoRoom, NothingBelow, NotSound}

abbrev pub number : Refusal → ℕ
number NotShaped = 1
number NumberTaken = 2
number InputMissing = 3
number PaysTooMuch = 4
number AlreadyUnspent = 5
number Contradicts = 6
number NoRoom = 7
number NothingBelow = 8
number NotSound = 9

-- the answer 0 where nothing is refused
abbrev pub answer_in : {A : Type 0} → Result A Refusal → ℕ
answer_in (Ok a) = 0
answer_in (Err r) = number r

pub refusal_some : (r : Refusal) → number r ≡ 0 → ⊥
refusal_some NotShaped e = omega arith
refusal_some NumberTaken e = omega arith
refusal_some InputMissing e = omega arith
refusal_some PaysTooMuch e = omega arith
refusal_some AlreadyUnspent e = omega arith
refusal_some Contradicts e = omega arith
refusal_some NoRoom e = omega arith
refusal_some NothingBelow e = omega arith
refusal_some NotSound e = omega arith
