-- Demand 3 of the code: any wallet struct that comes of an opening and calls that meet their contracts, refused ones
-- too, with a log kept from the calls and their answers alone, has the property that the demand asks of the rules.
use Rattle.std.proofs.Common.{sym, subst, ⊎_elim}
use Rattle.std.specs.Prelude.{Bool, true, not, List, ℕ, T}
use Rattle.sets.specs.Tests.{T-cases}
use Rattle.rules.specs.Steps as Steps
use Rattle.rules.specs.Calls as Calls
use Rattle.rules.specs.Calls.{Call, step}
use Rattle.chain.specs.declared.Transaction.{Transaction}
use Rattle.chain.specs.declared.Block.{Block}
use Rattle.chain.specs.View as ChainView
use Rattle.chain.specs.View.{laid_out_block, view_block, view_transaction}
use Rattle.replay.specs.Log.{Log, no_log, noted, Run}
use Rattle.replay.specs.Demand.{Demanded}
use Rattle.replay.specs.Invariant.{Invariant, invariant_refused}
use Rattle.replay.specs.Proved.{invariant_opening, invariant_called, invariant_demanded}
use Rattle.wallet.specs.declared.Wallet.{Wallet}
use Rattle.wallet.specs.declared.Step.{Step}
use Rattle.wallet.specs.Contract.{viewed, is_sound, Reads, Stepped}
use Rattle.wallet.specs.ContractLaws.{opened_sound, stepped_sound}

-- What is handed in with a call: a block struct, a transaction struct, or nothing.
pub data StructCall : Type 0 where
  block_struct : Block → StructCall
  pay_struct : Transaction → StructCall
  back_struct : StructCall

-- whether it is laid out as the paper asks, and the rules' call that it holds
abbrev pub call_laid_out : StructCall → Bool
call_laid_out (block_struct b) = laid_out_block b
call_laid_out (pay_struct t) = ChainView.laid_out t
call_laid_out back_struct = true

abbrev pub call_viewed : StructCall → Call
call_viewed (block_struct b) = Calls.block_call (view_block b)
call_viewed (pay_struct t) = Calls.pay_call (view_transaction t)
call_viewed back_struct = Calls.back_call

-- a call on a wallet struct meets its contract
abbrev pub Meets : Wallet → StructCall → Step → Type 0
Meets w c r = Stepped w (call_laid_out c) (step (viewed w) (call_viewed c)) r

-- The wallet structs that an opening and calls lead to, each with its log. The log notes a call by its view and its
-- answer. A call that is refused takes up a moment and notes nothing else, and so does one that is refused with 1
-- because its layout is broken.
pub data Reached : Wallet → Log → Type 0 where
  opened : (own : List ℕ) (r : Step) → Reads r (Steps.opening own) → Reached r.wallet no_log
  called : {w : Wallet} {g : Log} → Reached w g → (c : StructCall) (r : Step) → Meets w c r → Reached r.wallet (noted g (call_viewed c) r.answer)

abbrev pub run_of : Wallet → Log → Run
run_of w g = record { wallet = viewed w; log = g }

opened_invariant : (own : List ℕ) (r : Step) → Reads r (Steps.opening own) → Invariant (run_of r.wallet no_log)
opened_invariant own r a =
    subst (λ (q : Run). Invariant q) (λ i. record { wallet = sym a.wallet i; log = no_log }) (invariant_opening own)

called_invariant :
    (w : Wallet) (g : Log) (c : StructCall) (r : Step) → Meets w c r → T (is_sound w) → Invariant (run_of w g) →
    Invariant (run_of r.wallet (noted g (call_viewed c) r.answer))
called_invariant w g c r a s v =
    ⊎_elim
    (λ (t : T (call_laid_out c)).
    let k = a.booked s t in
    subst (λ (q : Run). Invariant q)
    (λ i. record { wallet = sym k.wallet i; log = noted g (call_viewed c) (sym k.answer i) })
    (invariant_called (run_of w g) (call_viewed c) v))
    (λ (t : T (not (call_laid_out c))).
    subst (λ (q : Step). Invariant (run_of q.wallet (noted g (call_viewed c) q.answer))) (sym (a.broken s t))
    (invariant_refused (run_of w g) v))
    (T-cases (call_laid_out c))

-- every wallet struct so reached is sound, and has the invariant of demand 3 with its log
pub reached_invariant : {w : Wallet} {g : Log} → Reached w g → T (is_sound w) × Invariant (run_of w g)
reached_invariant (opened own r a) = (opened_sound own a, opened_invariant own r a)
reached_invariant (called {w} {g} before c r a) =
    let k = reached_invariant before in
    (stepped_sound (call_viewed c) a k.0, called_invariant w g c r a k.0 k.1)

-- Demand 3 of the code: every wallet struct so reached has the demand's property, read as the rules' wallet.
pub code_demand_3 : {w : Wallet} {g : Log} → Reached w g → Demanded (run_of w g)
code_demand_3 {w} {g} k = invariant_demanded (run_of w g) (reached_invariant k).1
