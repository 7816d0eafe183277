-- A call is either accepted, and then the wallet and the log are the booked ones, or refused, and then a moment goes by
-- and nothing else happens. With one state held a rollback is refused. No call changes the own list.
use Rattle.std.specs.Prelude.{ℕ, zero, suc, ◌≡◌, refl, ◌⊎◌, true, false, not, cond, List, [], ◌∷◌}
use Rattle.std.proofs.Common.{ap, ◌∙◌, inl, inr}
use Rattle.rules.specs.States.{State, Wallet, after_block, after_payment, back_to, after_rollback}
use Rattle.rules.specs.Sound.{sound}
use Rattle.rules.specs.Steps.{Step, step_to, answer_of, payment_refusals, block_refusals, rollback_refusals, pay, block, roll_back}
use Rattle.rules.specs.Calls.{Call, block_call, pay_call, back_call, step}
use Rattle.replay.specs.Log.{Log, Run, accepted_call, noted, called}

-- what a call makes of a wallet where it is accepted
abbrev pub booked : Wallet → Call → Wallet
booked w (block_call b) = after_block w b
booked w (pay_call p) = after_payment w p
booked w back_call = after_rollback w

-- a log after a refused call
abbrev pub passed : Log → Log
passed g = record { now = suc g.now; accepted = g.accepted; standing = g.standing }

-- answered with 0 and booked, or answered with a refusal and unchanged
abbrev pub StepCases : Step → Wallet → Wallet → Type 0
StepCases s old new =
    ((s.answer ≡ 0) × (s.wallet ≡ new)) ⊎ ((n : ℕ) × (s.answer ≡ suc n) × (s.wallet ≡ old))

step_to_cases : (n : ℕ) (old new : Wallet) → StepCases (step_to n old new) old new
step_to_cases zero old new = inl (refl, refl)
step_to_cases (suc n) old new = inr (n, refl, refl)

-- A step is accepted and booked, or refused and without effect.
pub step_cases : (w : Wallet) (c : Call) → StepCases (step w c) w (booked w c)
unfolding pay block roll_back
step_cases w (block_call b) = step_to_cases (answer_of (block_refusals w b)) w (after_block w b)
step_cases w (pay_call p) = step_to_cases (answer_of (payment_refusals w p)) w (after_payment w p)
step_cases w back_call = step_to_cases (answer_of (rollback_refusals w)) w (after_rollback w)

-- With one state held a rollback is refused.
pub rollback_alone :
    (own : List ℕ) (s : State) →
    (n : ℕ) × ((roll_back (record { own = own; present = s; below = [] })).answer ≡ suc n)
unfolding roll_back rollback_refusals
rollback_alone own s =
    let w : Wallet = record { own = own; present = s; below = [] } in
    elim (not (sound w)) as (λ b. (n : ℕ) × ((step_to (cond b 9 8) w (after_rollback w)).answer ≡ suc n))
    [ true ↦ (8, refl) | false ↦ (7, refl) ]

-- the wallet and its log both booked, or only a moment gone by
abbrev pub CalledCases : Run → Call → Type 0
CalledCases r c =
    (((step r.wallet c).answer ≡ 0) × (called r c ≡ record { wallet = booked r.wallet c; log = accepted_call r.log c }))
    ⊎ (called r c ≡ record { wallet = r.wallet; log = passed r.log })

-- A call on a wallet with its log is accepted and booked in both, or refused, and only a moment goes by.
pub called_cases : (r : Run) (c : Call) → CalledCases r c
called_cases r c = cases (step_cases r.wallet c)
  where
    cases : StepCases (step r.wallet c) r.wallet (booked r.wallet c) → CalledCases r c
    cases (inl k) = inl (k.0, λ i. record { wallet = k.1 i; log = noted r.log c (k.0 i) })
    cases (inr k) = inr (λ i. record { wallet = k.2 i; log = noted r.log c (k.1 i) })

-- No call changes the own list.
pub booked_own : (w : Wallet) (c : Call) → (booked w c).own ≡ w.own
unfolding after_block after_payment after_rollback
booked_own w (block_call b) = refl
booked_own w (pay_call p) = refl
booked_own w back_call = back w.below
  where
    back : (below : List State) → (back_to w.own w.present below).own ≡ w.own
    back [] = refl
    back (q ∷ rest) = refl

pub called_own : (r : Run) (c : Call) → (called r c).wallet.own ≡ r.wallet.own
called_own r c = own (step_cases r.wallet c)
  where
    own : StepCases (step r.wallet c) r.wallet (booked r.wallet c) → (called r c).wallet.own ≡ r.wallet.own
    own (inl k) = ap (λ (w : Wallet). w.own) k.1 ∙ booked_own r.wallet c
    own (inr k) = ap (λ (w : Wallet). w.own) k.2
