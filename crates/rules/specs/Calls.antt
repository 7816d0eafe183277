-- Calls on a wallet, one after another. Queries change nothing and are no calls here.
use Rattle.std.specs.Prelude.{List, [], ◌∷◌}
use Rattle.rules.specs.Chain.{Transaction, Block}
use Rattle.rules.specs.States.{Wallet}
use Rattle.rules.specs.Steps.{Step, pay, block, roll_back}

pub data Call : Type 0 where
  block_call : Block → Call
  pay_call : Transaction → Call
  back_call : Call

abbrev pub step : Wallet → Call → Step
step w (block_call b) = block w b
step w (pay_call p) = pay w p
step w back_call = roll_back w

-- the wallet after some calls, the first of the list first
abbrev pub after : Wallet → List Call → Wallet
after w [] = w
after w (c ∷ l) = after (step w c).wallet l
