-- What an event does to the wallet of the code: what the rules' step does to the wallet that it holds.
use Rattle.std.specs.Prelude.{ℕ, ◌-◌, ◌≤◌, ◌≡◌, true, List, T, length, take, replicate}
use Rattle.std.proofs.Math.Path.{refl, ap, subst}
use Rattle.std.proofs.Common.{sym, ◌∙◌, arith, length-append}
use Rattle.std.proofs.Math.IntN.{pos}
use Rattle.sets.specs.Tests.{and_left}
use Rattle.rules.specs.Sizes.{most_own}
use Rattle.rules.specs.Chain.{shaped_transaction, shaped_block}
use Rattle.rules.specs.States as States
use Rattle.rules.specs.Steps as Steps
use Rattle.rules.specs.Calls.{block_call, pay_call, back_call}
use Rattle.chain.specs.View.{laid_out, laid_out_block, view_transaction, view_block, good_transaction, good_block}
use Rattle.pool.specs.LayoutLaws.{good_laid_out}
use Rattle.format.specs.Bodies as Format
use Rattle.format.specs.Bodies.{own_body, block_body, pay_body, back_body, fault_at, read_body}
use Rattle.feed.specs.Bodies.{body_read}
use Rattle.feed.specs.Promises.{read_body_good, ordinal}
use Rattle.feed.specs.declared.bodies.Own.{Own}
use Rattle.feed.specs.declared.bodies.BodyRead.{BodyRead}
use Rattle.feed.specs.declared.bodies.Body.TheVariants as Is
use Rattle.wallet.specs.declared.Wallet.{Wallet}
use Rattle.wallet.specs.declared.Step.{Step}
use Rattle.wallet.specs.Contract.{viewed, is_sound, Reads, Stepped}
use Rattle.wallet.specs.ContractLaws.{opened_sound, stepped_sound}
use Rattle.lines.specs.Sheet.{event_step}

-- a step of the code, as the rules' step that it reads as
abbrev pub step_of : Step → Steps.Step
step_of r = record { wallet = viewed r.wallet; answer = r.answer; movement = r.movement }

-- the code's step reads as the rules', and its wallet is sound
pub record Told (s : Steps.Step) (r : Step) : Type 0 where
  pub reads : Reads r s
  pub is_good : T (is_sound r.wallet)

-- an own list whose count is within its places
abbrev pub OwnFits : Own → Type 0
OwnFits own = own.count ≤ length own.addresses

-- ── what was read

own_fits_of : (b : Format.Body) → OwnFits (body_read b).own
own_fits_of (own_body l) = omega (arith, length-append l (replicate (most_own - length l) 0))
own_fits_of (block_body b) = omega arith
own_fits_of (pay_body t) = omega arith
own_fits_of back_body = omega arith
own_fits_of (fault_at p) = omega arith

pub own_fits_lem : (b : Format.Body) (read : BodyRead) → read ≡ body_read b → OwnFits read.own
own_fits_lem b read e = subst (λ (r : BodyRead). OwnFits r.own) (sym e) (own_fits_of b)

-- a rollback and a fault are told apart by their number alone
is_rollback : (b : Format.Body) → ordinal (body_read b).body ≡ 3 → b ≡ back_body
unfolding ordinal
is_rollback (own_body l) h = absurd (omega (arith, h))
is_rollback (block_body b) h = absurd (omega (arith, h))
is_rollback (pay_body t) h = absurd (omega (arith, h))
is_rollback back_body h = refl
is_rollback (fault_at p) h = absurd (omega (arith, h))

-- A step on a fault is the same wherever the fault is.
fault_step : (v : States.Wallet) (b : Format.Body) → ordinal (body_read b).body ≡ 4 →
    event_step v b ≡ record { wallet = v; answer = 1; movement = pos 0 }
unfolding ordinal event_step
fault_step v (own_body l) h = absurd (omega (arith, h))
fault_step v (block_body b) h = absurd (omega (arith, h))
fault_step v (pay_body t) h = absurd (omega (arith, h))
fault_step v back_body h = absurd (omega (arith, h))
fault_step v (fault_at p) h = refl

-- ── each kind of body

module _ (w : Wallet) (sound : T (is_sound w)) (kind : ℕ) (bytes : List ℕ) (read : BodyRead) (e : read ≡ body_read (read_body kind bytes)) (r : Step) where
  pub told_own : read.body ≡ Is.Own → Reads r (Steps.opening (take read.own.count read.own.addresses)) →
      Told (event_step (viewed w) (read_body kind bytes)) r
  unfolding event_step
  told_own h s =
      let g = (read_body_good kind bytes read e).0 h in
      subst (λ (b : Format.Body). Told (event_step (viewed w) b) r) (sym g.held)
      (record { reads = s; is_good = opened_sound (take read.own.count read.own.addresses) s })

  pub told_block : read.body ≡ Is.Block → Stepped w (laid_out_block read.block) (Steps.block (viewed w) (view_block read.block)) r →
      Told (event_step (viewed w) (read_body kind bytes)) r
  unfolding event_step good_block
  told_block h s =
      let g = (read_body_good kind bytes read e).1 h in
      subst (λ (b : Format.Body). Told (event_step (viewed w) b) r) (sym g.held)
      (record {
        reads = s.booked sound (and_left (laid_out_block read.block) (shaped_block (view_block read.block)) g.good);
        is_good = stepped_sound (block_call (view_block read.block)) s sound;
      })

  pub told_payment : read.body ≡ Is.Payment → Stepped w (laid_out read.payment) (Steps.pay (viewed w) (view_transaction read.payment)) r →
      Told (event_step (viewed w) (read_body kind bytes)) r
  unfolding event_step good_transaction
  told_payment h s =
      let g = (read_body_good kind bytes read e).2 h in
      subst (λ (b : Format.Body). Told (event_step (viewed w) b) r) (sym g.held)
      (record {
        reads = s.booked sound (and_left (laid_out read.payment) (shaped_transaction (view_transaction read.payment)) g.good);
        is_good = stepped_sound (pay_call (view_transaction read.payment)) s sound;
      })

  pub told_rollback : read.body ≡ Is.Rollback → Stepped w true (Steps.roll_back (viewed w)) r → Told (event_step (viewed w) (read_body kind bytes)) r
  unfolding event_step ordinal
  told_rollback h s =
      let k = is_rollback (read_body kind bytes) (ap (λ (b : BodyRead). ordinal b.body) (sym e) ∙ ap ordinal h) in
      subst (λ (b : Format.Body). Told (event_step (viewed w) b) r) (sym k)
      (record { reads = s.booked sound tt; is_good = stepped_sound back_call s sound })

  pub told_fault : (place : ℕ) → read.body ≡ Is.Fault place → r ≡ record { wallet = w; answer = 1; movement = pos 0 } →
      Told (event_step (viewed w) (read_body kind bytes)) r
  unfolding ordinal
  told_fault place h s =
      let k = fault_step (viewed w) (read_body kind bytes) (ap (λ (b : BodyRead). ordinal b.body) (sym e) ∙ ap ordinal h) in
      subst (λ (x : Steps.Step). Told x r) (sym k)
      (subst (λ (y : Step). Told (record { wallet = viewed w; answer = 1; movement = pos 0 }) y) (sym s)
      (record {
        reads = record { laid = good_laid_out w.pool sound; wallet = refl; answer = refl; movement = refl };
        is_good = sound;
      }))
