-- Demand 3, proved: the invariant holds at the opening and after every call, accepted or refused, and it gives the
-- demand.
use Rattle.std.specs.Prelude.{ℕ, ◌≡◌, refl, true, false, cond, List, [], ◌∷◌, pos}
use Rattle.std.proofs.Common.{sym, subst, ◌∙◌, inl, inr}
use Rattle.rules.specs.Chain.{shaped_own}
use Rattle.rules.specs.States.{opened}
use Rattle.rules.specs.Steps.{Step, opening}
use Rattle.rules.specs.Calls.{Call, block_call, pay_call, back_call, step}
use Rattle.replay.specs.Log.{no_log, Run, accepted_call, called, run}
use Rattle.replay.specs.Demand.{StillPending, Demanded, opening_run}
use Rattle.replay.specs.Invariant.{Invariant, invariant_opened, invariant_refused}
use Rattle.replay.specs.Answers.{booked, CalledCases, called_cases, called_own}
use Rattle.replay.specs.Blocks.{invariant_block}
use Rattle.replay.specs.Payments.{invariant_payment}
use Rattle.replay.specs.Rollbacks.{invariant_rollback}

-- Opening, accepted or refused, gives the invariant.
pub invariant_opening : (own : List ℕ) → Invariant (opening_run own)
unfolding opening
invariant_opening own =
    let accepted : Step = record { wallet = opened own; answer = 0; movement = pos 0 } in
    let refused : Step = record { wallet = opened []; answer = 1; movement = pos 0 } in
    elim (shaped_own own) as (λ b. Invariant (record { wallet = (cond b accepted refused).wallet; log = no_log }))
    [ true ↦ invariant_opened own | false ↦ invariant_opened [] ]

-- An accepted call keeps the invariant.
pub invariant_booked :
    (r : Run) (c : Call) → (step r.wallet c).answer ≡ 0 → Invariant r →
    Invariant (record { wallet = booked r.wallet c; log = accepted_call r.log c })
invariant_booked r (block_call b) e v = invariant_block r b v
invariant_booked r (pay_call p) e v = invariant_payment r p v
invariant_booked r back_call e v = invariant_rollback r e v

-- Every call, accepted or refused, keeps the invariant.
pub invariant_called : (r : Run) (c : Call) → Invariant r → Invariant (called r c)
invariant_called r c v = keeps (called_cases r c)
  where
    keeps : CalledCases r c → Invariant (called r c)
    keeps (inl k) = subst (λ (q : Run). Invariant q) (sym k.1) (invariant_booked r c k.0 v)
    keeps (inr k) = subst (λ (q : Run). Invariant q) (sym k) (invariant_refused r v)

-- So do any calls, one after another.
pub invariant_run : (r : Run) (calls : List Call) → Invariant r → Invariant (run r calls)
invariant_run r [] v = v
invariant_run r (c ∷ calls) v = invariant_run (called r c) calls (invariant_called r c v)

-- The invariant gives the demand.
pub invariant_demanded : (r : Run) → Invariant r → Demanded r
invariant_demanded r v =
    record {
      unspent = v.present.unspent;
      pending_only = λ p m. let k = v.present.pending_only p m in (k.0, k.1, k.2, k.4);
      pending_all =
          λ p (k : StillPending r.log p). v.present.pending_all p (k.0, k.1, k.2, v.accepted_before k.0 k.1, k.3);
    }

-- Demand 3 from any wallet with a log that has the invariant.
pub demand_3_from : (r : Run) (calls : List Call) → Invariant r → Demanded (run r calls)
demand_3_from r calls v = invariant_demanded (run r calls) (invariant_run r calls v)

-- Demand 3: from an opening, accepted or refused, on.
pub demand_3 : (own : List ℕ) (calls : List Call) → Demanded (run (opening_run own) calls)
demand_3 own calls = demand_3_from (opening_run own) calls (invariant_opening own)

-- The own list never changes.
pub run_own : (r : Run) (calls : List Call) → (run r calls).wallet.own ≡ r.wallet.own
run_own r [] = refl
run_own r (c ∷ calls) = run_own (called r c) calls ∙ called_own r c
