-- From the code's answer to its step: a refusal hands the wallet back, and what is answered with 0 shows the rules'
-- wallet after the step.
use Rattle.std.specs.Prelude.{ℕ, zero, suc, ◌≡◌, refl, Bool, true, false, not, cond, T, ℤ, pos, ◌-ℤ◌}
use Rattle.std.proofs.Common.{arith, sym, ap, subst, ◌∙◌}
use Rattle.sets.specs.Tests.{cond_true, cond_false}
use Rattle.rules.specs.States as States
use Rattle.rules.specs.Steps.{step_to}
use Rattle.rules.specs.Balances.{available_balance}
use Rattle.pool.specs.declared.Pool.{Pool}
use Rattle.pool.specs.View.{view}
use Rattle.pool.specs.Good.{laid_out}
use Rattle.pool.specs.LayoutLaws.{good_laid_out}
use Rattle.wallet.specs.declared.Wallet.{Wallet}
use Rattle.wallet.specs.Contract.{viewed, is_sound, Reads, refused_step, Stepped}

-- the answer to a step whose rule answers n: 9 before 1 before the rule's own
abbrev pub code_answer : Wallet → Bool → ℕ → ℕ
code_answer w laid n = cond (is_sound w) (cond laid n 1) 9

-- which of the three it is
pub answer_unsound : (w : Wallet) (laid : Bool) (n : ℕ) → T (not (is_sound w)) → code_answer w laid n ≡ 9
answer_unsound w laid n g = cond_false (is_sound w) (cond laid n 1) 9 g

pub answer_broken : (w : Wallet) (laid : Bool) (n : ℕ) → T (is_sound w) → T (not laid) → code_answer w laid n ≡ 1
answer_broken w laid n g t = cond_true (is_sound w) (cond laid n 1) 9 g ∙ cond_false laid n 1 t

pub answer_own : (w : Wallet) (laid : Bool) (n : ℕ) → T (is_sound w) → T laid → code_answer w laid n ≡ n
answer_own w laid n g t = cond_true (is_sound w) (cond laid n 1) 9 g ∙ cond_true laid n 1 t

-- 0 is answered only to a sound wallet, a laid out struct and a rule that answers 0
pub answered_0 : (w : Wallet) (laid : Bool) (n : ℕ) → code_answer w laid n ≡ 0 → T (is_sound w) × T laid × (n ≡ 0)
answered_0 w laid n e = go (is_sound w) laid e
  where
    go : (s l : Bool) → cond s (cond l n 1) 9 ≡ 0 → T s × T l × (n ≡ 0)
    go true true e = (tt, tt, e)
    go true false e = absurd (omega (arith, e))
    go false l e = absurd (omega (arith, e))

refused_reads : (w : Wallet) (n : ℕ) (new : States.Wallet) → T (is_sound w) → (n ≡ 0 → ⊥) → Reads (refused_step w n) (step_to n (viewed w) new)
refused_reads w zero new g h = absurd (h refl)
refused_reads w (suc n) new g h = record { laid = good_laid_out w.pool g; wallet = refl; answer = refl; movement = refl }

-- an answer other than 0, the wallet as it came and movement 0 meet the contract
pub stepped_refused :
    (w : Wallet) (laid : Bool) (n : ℕ) (new : States.Wallet) (a : ℕ) → a ≡ code_answer w laid n → (a ≡ 0 → ⊥) →
    Stepped w laid (step_to n (viewed w) new) (refused_step w a)
stepped_refused w laid n new a e h =
    record {
      unsound = λ g. ap (refused_step w) (e ∙ answer_unsound w laid n g);
      broken = λ g t. ap (refused_step w) (e ∙ answer_broken w laid n g t);
      booked =
          λ g t.
          let own : a ≡ n = e ∙ answer_own w laid n g t in
          subst (λ (m : ℕ). Reads (refused_step w m) (step_to n (viewed w) new)) (sym own)
          (refused_reads w n new g (λ (z : n ≡ 0). h (own ∙ z)));
    }

-- the answer 0, a pool that shows the rule's wallet, and the movement to it meet the contract
pub stepped_accepted :
    (w : Wallet) (laid : Bool) (n : ℕ) (new : States.Wallet) (p : Pool) (m : ℤ) → code_answer w laid n ≡ 0 →
    T (laid_out p) → view p ≡ new → m ≡ pos (available_balance (view p).present) -ℤ pos (available_balance (viewed w).present) →
    Stepped w laid (step_to n (viewed w) new) (record { wallet = record { pool = p }; answer = 0; movement = m })
stepped_accepted w laid n new p m e l v d =
    record {
      unsound = λ g. absurd (omega (arith, e, answer_unsound w laid n g));
      broken = λ g t. absurd (omega (arith, e, answer_broken w laid n g t));
      booked =
          λ g t.
          subst (λ (k : ℕ). Reads (record { wallet = record { pool = p }; answer = 0; movement = m }) (step_to k (viewed w) new))
          (sym (answered_0 w laid n e).2)
          (record {
            laid = l;
            wallet = v;
            answer = refl;
            movement = d ∙ ap (λ (x : States.Wallet). pos (available_balance x.present) -ℤ pos (available_balance (viewed w).present)) v;
          });
    }
