-- A line's balances: the query's answers, which a sound wallet has.
use Rattle.std.specs.Prelude.{ℕ, ◌≡◌, Bool, cond, T, ℤ}
use Rattle.std.proofs.Common.{ap, ◌∙◌}
use Rattle.sets.specs.Tests.{is_true}
use Rattle.rules.specs.Balances.{available_balance, total_balance}
use Rattle.rules.specs.Minimum.{minimum_balance, minimum_payments}
use Rattle.wallet.specs.declared.Wallet.{Wallet}
use Rattle.wallet.specs.declared.Step.{Step}
use Rattle.wallet.specs.Contract.{viewed, is_sound}
use Rattle.minimum.specs.declared.ThreeBalances.{ThreeBalances}
use Rattle.minimum.specs.Contract.{asked_balances}
use Rattle.lines.specs.declared.Line.{Line}
use Rattle.lines.specs.Sheet.{event_line}
use Rattle.lines.specs.Events.{step_of}

abbrev answers_of : Wallet → ThreeBalances
answers_of w =
    record {
      answer = 0;
      available = available_balance (viewed w).present;
      total = total_balance (viewed w).own (viewed w).present;
      minimum = minimum_balance (viewed w).own (viewed w).present;
      payments = minimum_payments (viewed w).own (viewed w).present;
    }

answered : (w : Wallet) (b : ThreeBalances) → T (is_sound w) → b ≡ asked_balances w → b ≡ answers_of w
answered w b g e =
    e
    ∙ ap (λ (s : Bool). cond s (answers_of w) (record { answer = 9; available = 0; total = 0; minimum = 0; payments = 0 })) (is_true (is_sound w) g)

pub line_is : (row kind : ℕ) (step : Step) (b : ThreeBalances) (m : ℤ) → T (is_sound step.wallet) → b ≡ asked_balances step.wallet → m ≡ step.movement →
    ◌≡◌ {A = Line}
    (record { row = row; kind = kind; answer = step.answer; available = b.available; total = b.total; minimum = b.minimum; movement = m })
    (event_line row kind (step_of step))
unfolding event_line
line_is row kind step b m g e f =
    let k = answered step.wallet b g e in
    λ i. record { row = row; kind = kind; answer = step.answer; available = (k i).available; total = (k i).total; minimum = (k i).minimum; movement = f i }
