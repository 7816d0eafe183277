-- The pool of an opened wallet: the own list, one state, and nothing in it. It is laid out, and shows what the rules
-- open.
use Rattle.std.specs.Prelude.{ℕ, ◌≤◌, ◌≡◌, refl, not, List, [], T, eqb, leb, ltb, pos, length}
use Rattle.std.proofs.Common.{arith, sym, ap, subst, leb→le}
use Rattle.sets.specs.Fill.{filled, filled-length, filled_first, filled_rest}
use Rattle.sets.specs.Sets.{ascending}
use Rattle.sets.specs.Tests.{and_left, cond_true, cond_false}
use Rattle.rules.specs.Sizes.{most_own, most_payments, most_references}
use Rattle.rules.specs.Chain.{shaped_own}
use Rattle.rules.specs.States.{opened}
use Rattle.rules.specs.Steps as Steps
use Rattle.pool.specs.declared.Pool.{Pool}
use Rattle.pool.specs.View.{view}
use Rattle.pool.specs.Good.{no_held, no_payment, laid_out}
use Rattle.pool.specs.Book.{zero_held, zero_payment}
use Rattle.pool.specs.LayoutLaws.{facts_laid_out, zero_held_lem, zero_payment_lem}
use Rattle.wallet.specs.declared.Step.{Step}
use Rattle.wallet.specs.Contract.{Reads}

-- the own list, and nothing in any other place
abbrev pub empty_pool : List ℕ → Pool
empty_pool own =
    record {
      own = filled most_own 0 own;
      owns = length own;
      below = 0;
      entries = filled most_references zero_held [];
      used = 0;
      payments = filled most_payments zero_payment [];
      paying = 0;
    }

-- it shows the wallet that the rules open
pub empty_view : (own : List ℕ) → view (empty_pool own) ≡ opened own
empty_view own = ap opened (filled_first most_own 0 own)

-- it is laid out
pub empty_laid_out : (own : List ℕ) → length own ≤ most_own → T (laid_out (empty_pool own))
empty_laid_out own h =
    facts_laid_out (empty_pool own) (record {
      own_length = filled-length most_own 0 own h;
      few_own = h;
      own_rest = filled_rest (λ a. eqb a 0) most_own 0 own tt;
      few_below = omega arith;
      entries_length = refl;
      few_entries = omega arith;
      entries_rest = filled_rest no_held most_references zero_held [] zero_held_lem;
      entries_ascend = tt;
      entries_fit = tt;
      payments_length = refl;
      few_payments = omega arith;
      payments_rest = filled_rest no_payment most_payments zero_payment [] zero_payment_lem;
      payments_ascend = tt;
      payments_fit = tt;
    })

-- ── the step of an opening

-- a pool as an opening hands it back
abbrev pub opened_step : Pool → ℕ → Step
opened_step p n = record { wallet = record { pool = p }; answer = n; movement = pos 0 }

-- a shaped list is not too long
pub few_shaped : (own : List ℕ) → T (shaped_own own) → length own ≤ most_own
unfolding shaped_own
few_shaped own t = leb→le (length own) most_own (and_left (leb (length own) most_own) (ascending ltb own) t)

-- a list of own addresses that is shaped: the pool with them, and 0
pub opened_reads : (own : List ℕ) → T (shaped_own own) → Reads (opened_step (empty_pool own) 0) (Steps.opening own)
unfolding Steps.opening
opened_reads own t =
    let e : Steps.opening own ≡ record { wallet = opened own; answer = 0; movement = pos 0 } = cond_true (shaped_own own) (record { wallet = opened own; answer = 0; movement = pos 0 }) (record { wallet = opened []; answer = 1; movement = pos 0 }) t in
    subst (λ (s : Steps.Step). Reads (opened_step (empty_pool own) 0) s) (sym e) (record {
      laid = empty_laid_out own (few_shaped own t);
      wallet = empty_view own;
      answer = refl;
      movement = refl;
    })

-- one that is not: the pool with none, and 1
pub opened_refused : (own : List ℕ) → T (not (shaped_own own)) → Reads (opened_step (empty_pool []) 1) (Steps.opening own)
unfolding Steps.opening
opened_refused own t =
    let e : Steps.opening own ≡ record { wallet = opened []; answer = 1; movement = pos 0 } = cond_false (shaped_own own) (record { wallet = opened own; answer = 0; movement = pos 0 }) (record { wallet = opened []; answer = 1; movement = pos 0 }) t in
    subst (λ (s : Steps.Step). Reads (opened_step (empty_pool []) 1) s) (sym e) (record {
      laid = empty_laid_out [] (omega arith);
      wallet = empty_view [];
      answer = refl;
      movement = refl;
    })
