-- The three balances as they are asked for: refused with 9 and zeros when the wallet is not sound.
use Rattle.std.specs.Prelude.{ℕ, cond}
use Rattle.rules.specs.States.{Wallet}
use Rattle.rules.specs.Balances.{available_balance, total_balance}
use Rattle.rules.specs.Minimum.{minimum_balance, minimum_payments}
use Rattle.rules.specs.Sound.{sound}

pub record Balances : Type 0 where
  pub answer : ℕ
  pub available : ℕ
  pub total : ℕ
  pub minimum : ℕ
  pub payments : ℕ

unfoldable pub balances : Wallet → Balances
balances w =
    cond (sound w)
    (record {
      answer = 0;
      available = available_balance w.present;
      total = total_balance w.own w.present;
      minimum = minimum_balance w.own w.present;
      payments = minimum_payments w.own w.present;
    })
    (record { answer = 9; available = 0; total = 0; minimum = 0; payments = 0 })
