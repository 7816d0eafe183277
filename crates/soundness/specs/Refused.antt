-- No refusal changes anything; an accepted step has exactly one result, and none of its refusals was given.
use Rattle.std.specs.Prelude.{◌≡◌, refl, Bool, not, List, [], ◌∷◌, ℕ, zero, suc, T, eqb, pos, ◌-ℤ◌}
use Rattle.std.proofs.Common.{sym, ap, ◌∙◌, ⊎_elim, arith}
use Rattle.sets.specs.Sets.{all}
use Rattle.sets.specs.Tests.{and_left, and_right, T-cases, not_not, not_not_holds, neqb→ne, cond_true}
use Rattle.rules.specs.Chain.{Transaction, Block, shaped_transaction, shaped_block}
use Rattle.rules.specs.States.{Wallet, after_block, after_payment, after_rollback}
use Rattle.rules.specs.Balances.{available_balance}
use Rattle.rules.specs.Sound.{too_many, sound}
use Rattle.rules.specs.Steps.{Refusal, answer_of, Step, step_to, number_taken, input_missing, pays_too_much, already_unspent, contradicts, only_one, payment_refusals, block_refusals, rollback_refusals, pay, block, roll_back}
use Rattle.rules.specs.StepLaws.{given_first, given_later, answer_of_step}
use Rattle.rules.specs.Calls.{Call, block_call, pay_call, back_call, step}

-- ── refused

refused_step_lem : (n : ℕ) (old new : Wallet) → ((step_to n old new).answer ≡ 0 → ⊥) → ((step_to n old new).wallet ≡ old) × ((step_to n old new).movement ≡ pos 0)
refused_step_lem zero old new h = absurd (h refl)
refused_step_lem (suc n) old new h = (refl, refl)

-- a refused step returns the wallet unchanged and movement 0
pub refused_unchanged : (w : Wallet) (c : Call) → ((step w c).answer ≡ 0 → ⊥) → ((step w c).wallet ≡ w) × ((step w c).movement ≡ pos 0)
unfolding pay block roll_back
refused_unchanged w (block_call b) h = refused_step_lem (answer_of (block_refusals w b)) w (after_block w b) h
refused_unchanged w (pay_call p) h = refused_step_lem (answer_of (payment_refusals w p)) w (after_payment w p) h
refused_unchanged w back_call h = refused_step_lem (answer_of (rollback_refusals w)) w (after_rollback w) h

-- a wallet that is not sound is refused with 9, whatever the call
pub unsound_refused : (w : Wallet) (c : Call) → T (not (sound w)) → step w c ≡ record { wallet = w; answer = 9; movement = pos 0 }
unfolding pay block roll_back payment_refusals block_refusals rollback_refusals
unsound_refused w (block_call b) t = ap (λ (n : ℕ). step_to n w (after_block w b)) (cond_true (not (sound w)) 9 _ t)
unsound_refused w (pay_call p) t = ap (λ (n : ℕ). step_to n w (after_payment w p)) (cond_true (not (sound w)) 9 _ t)
unsound_refused w back_call t = ap (λ (n : ℕ). step_to n w (after_rollback w)) (cond_true (not (sound w)) 9 _ t)

-- ── accepted

-- a new wallet, with the movement from the old one to it
abbrev pub accepted : Wallet → Wallet → Step
accepted old new =
    record {
      wallet = new;
      answer = 0;
      movement = pos (available_balance new.present) -ℤ pos (available_balance old.present);
    }

accepted_step : (n : ℕ) (old new : Wallet) → (step_to n old new).answer ≡ 0 → step_to n old new ≡ accepted old new
accepted_step zero old new e = refl
accepted_step (suc n) old new e = absurd (omega (arith, e))

-- an accepted block: the wallet after it, with its movement
pub accepted_block : (w : Wallet) (b : Block) → (step w (block_call b)).answer ≡ 0 → step w (block_call b) ≡ accepted w (after_block w b)
unfolding block
accepted_block w b e = accepted_step (answer_of (block_refusals w b)) w (after_block w b) e

-- an accepted payment
pub accepted_payment : (w : Wallet) (p : Transaction) → (step w (pay_call p)).answer ≡ 0 → step w (pay_call p) ≡ accepted w (after_payment w p)
unfolding pay
accepted_payment w p e = accepted_step (answer_of (payment_refusals w p)) w (after_payment w p) e

-- an accepted rollback
pub accepted_rollback : (w : Wallet) → (step w back_call).answer ≡ 0 → step w back_call ≡ accepted w (after_rollback w)
unfolding roll_back
accepted_rollback w e = accepted_step (answer_of (rollback_refusals w)) w (after_rollback w) e

moved_step : (n : ℕ) (old new : Wallet) → (step_to n old new).answer ≡ 0 → (step_to n old new).movement ≡ pos (available_balance (step_to n old new).wallet.present) -ℤ pos (available_balance old.present)
moved_step zero old new e = refl
moved_step (suc n) old new e = absurd (omega (arith, e))

-- the movement of an accepted step: the available balance after, less before
pub accepted_movement : (w : Wallet) (c : Call) → (step w c).answer ≡ 0 → (step w c).movement ≡ pos (available_balance (step w c).wallet.present) -ℤ pos (available_balance w.present)
unfolding pay block roll_back
accepted_movement w (block_call b) e = moved_step (answer_of (block_refusals w b)) w (after_block w b) e
accepted_movement w (pay_call p) e = moved_step (answer_of (payment_refusals w p)) w (after_payment w p) e
accepted_movement w back_call e = moved_step (answer_of (rollback_refusals w)) w (after_rollback w) e

-- ── what accepted says of each refusal

-- none of a list of refusals is given
abbrev pub NoneGiven : List Refusal → Type 0
NoneGiven [] = Unit {0}
NoneGiven (r ∷ l) = T (not r.given) × NoneGiven l

-- where no refusal has the number 0, the answer 0 says that none is given
pub none_given : (l : List Refusal) → T (all (λ r. not (eqb r.number 0)) l) → answer_of l ≡ 0 → NoneGiven l
none_given [] k e = tt
none_given (r ∷ l) k e =
    let numbered : Refusal → Bool = λ q. not (eqb q.number 0) in
    ⊎_elim
    (λ (t : T r.given). absurd (neqb→ne r.number 0 (and_left (numbered r) (all numbered l) k) (sym (given_first r.number r.given l t) ∙ e)))
    (λ (t : T (not r.given)). (t, none_given l (and_right (numbered r) (all numbered l) k) (sym (given_later r.number r.given l t) ∙ e)))
    (T-cases r.given)

none_answered : (l : List Refusal) → NoneGiven l → answer_of l ≡ 0
none_answered [] k = refl
none_answered (r ∷ l) k = given_later r.number r.given l k.0 ∙ none_answered l k.1

pub record AcceptedBlock (w : Wallet) (b : Block) : Type 0 where
  pub sound_before : T (sound w)
  pub shaped : T (shaped_block b)
  pub made_new : T (not (already_unspent w.present b))
  pub consistent : T (not (contradicts w b))
  pub room : T (not (too_many (after_block w b)))

pub record AcceptedPayment (w : Wallet) (p : Transaction) : Type 0 where
  pub sound_before : T (sound w)
  pub shaped : T (shaped_transaction p)
  pub number_new : T (not (number_taken w p.number))
  pub inputs_there : T (not (input_missing w.present p))
  pub paid_for : T (not (pays_too_much w.present p))
  pub room : T (not (too_many (after_payment w p)))

pub record AcceptedRollback (w : Wallet) : Type 0 where
  pub sound_before : T (sound w)
  pub more_than_one : T (not (only_one w.below))

-- an accepted block was given none of 9, 1, 5, 6, 7
pub block_accepted : (w : Wallet) (b : Block) → (step w (block_call b)).answer ≡ 0 → AcceptedBlock w b
unfolding block block_refusals
block_accepted w b e =
    let k : NoneGiven (block_refusals w b) =
    none_given (block_refusals w b) tt
    (sym (answer_of_step (answer_of (block_refusals w b)) w (after_block w b)) ∙ e)
    in
    record {
      sound_before = not_not (sound w) k.0;
      shaped = not_not (shaped_block b) k.1.0;
      made_new = k.1.1.0;
      consistent = k.1.1.1.0;
      room = k.1.1.1.1.0;
    }

-- an accepted payment was given none of 9, 1, 2, 3, 4, 7
pub payment_accepted : (w : Wallet) (p : Transaction) → (step w (pay_call p)).answer ≡ 0 → AcceptedPayment w p
unfolding pay payment_refusals
payment_accepted w p e =
    let k : NoneGiven (payment_refusals w p) =
    none_given (payment_refusals w p) tt
    (sym (answer_of_step (answer_of (payment_refusals w p)) w (after_payment w p)) ∙ e)
    in
    record {
      sound_before = not_not (sound w) k.0;
      shaped = not_not (shaped_transaction p) k.1.0;
      number_new = k.1.1.0;
      inputs_there = k.1.1.1.0;
      paid_for = k.1.1.1.1.0;
      room = k.1.1.1.1.1.0;
    }

-- an accepted rollback was given neither 9 nor 8
pub rollback_accepted : (w : Wallet) → (step w back_call).answer ≡ 0 → AcceptedRollback w
unfolding roll_back rollback_refusals
rollback_accepted w e =
    let k : NoneGiven (rollback_refusals w) =
    none_given (rollback_refusals w) tt
    (sym (answer_of_step (answer_of (rollback_refusals w)) w (after_rollback w)) ∙ e)
    in
    record { sound_before = not_not (sound w) k.0; more_than_one = k.1.0 }

-- and the other way round: a block that is given no refusal is accepted
pub block_accepts : (w : Wallet) (b : Block) → AcceptedBlock w b → (step w (block_call b)).answer ≡ 0
unfolding block block_refusals
block_accepts w b k =
    answer_of_step (answer_of (block_refusals w b)) w (after_block w b)
    ∙ none_answered (block_refusals w b) (
      not_not_holds (sound w) k.sound_before,
      (not_not_holds (shaped_block b) k.shaped, (k.made_new, (k.consistent, (k.room, tt)))),
    )

-- a payment that is given no refusal is accepted
pub payment_accepts : (w : Wallet) (p : Transaction) → AcceptedPayment w p → (step w (pay_call p)).answer ≡ 0
unfolding pay payment_refusals
payment_accepts w p k =
    answer_of_step (answer_of (payment_refusals w p)) w (after_payment w p)
    ∙ none_answered (payment_refusals w p) (
      not_not_holds (sound w) k.sound_before,
      (
        not_not_holds (shaped_transaction p) k.shaped,
        (k.number_new, (k.inputs_there, (k.paid_for, (k.room, tt)))),
      ),
    )

-- a rollback that is given no refusal is accepted
pub rollback_accepts : (w : Wallet) → AcceptedRollback w → (step w back_call).answer ≡ 0
unfolding roll_back rollback_refusals
rollback_accepts w k =
    answer_of_step (answer_of (rollback_refusals w)) w (after_rollback w)
    ∙ none_answered (rollback_refusals w) (not_not_holds (sound w) k.sound_before, (k.more_than_one, tt))
