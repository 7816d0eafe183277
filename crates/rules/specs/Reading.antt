-- How a reading is written down: a wallet to start from, some calls, and what is told of them. Each row is one call:
-- answer, available, total, minimum, the minimum's payments, movement.
use Rattle.std.specs.Prelude.{ℕ, zero, suc, ◌≡◌, List, [], ◌∷◌, map, length, ℤ, pos, negsuc}
use Rattle.rules.specs.declared.Number.{Number}
use Rattle.rules.specs.declared.Reference.{Reference}
use Rattle.rules.specs.declared.Output.{Output}
use Rattle.rules.specs.declared.Entry.{Entry}
use Rattle.rules.specs.Chain.{Transaction}
use Rattle.rules.specs.States.{Wallet, states}
use Rattle.rules.specs.Steps.{Step}
use Rattle.rules.specs.Queries.{balances}
use Rattle.rules.specs.Calls.{Call, step, after}

-- how a reading is written down
abbrev pub number : ℕ → Number
number n = record { serial = n }

abbrev pub at : ℕ → ℕ → Reference
at n i = record { number = number n; index = i }

abbrev pub out : ℕ → ℕ → ℕ → Output
out i a v = record { index = i; address = a; amount = v }

abbrev pub entry : ℕ → ℕ → ℕ → ℕ → Entry
entry n i a v = record { reference = at n i; address = a; amount = v }

abbrev pub tx : ℕ → List Reference → List Output → Transaction
tx n is os = record { number = number n; inputs = is; outputs = os }

pub record Row : Type 0 where
  pub answer : ℕ
  pub available : ℕ
  pub total : ℕ
  pub minimum : ℕ
  pub payments : ℕ
  pub movement : ℤ

abbrev pub row : ℕ → ℕ → ℕ → ℕ → ℕ → ℤ → Row
row a v t m n d = record { answer = a; available = v; total = t; minimum = m; payments = n; movement = d }

-- down by n
abbrev pub less : ℕ → ℤ
less zero = pos 0
less (suc n) = negsuc n

abbrev pub row_of : Step → Row
row_of s =
    let b = balances s.wallet in
    row s.answer b.available b.total b.minimum b.payments s.movement

abbrev pub rows_of : Wallet → List Call → List Row
rows_of w [] = []
rows_of w (c ∷ l) = let s = step w c in row_of s ∷ rows_of s.wallet l

-- What can be read off after some calls: a row for each, the present sets, and how many states are held.
pub record Told : Type 0 where
  pub rows : List Row
  pub utxo : List Reference
  pub pending : List Number
  pub expected : List Reference
  pub held : ℕ

abbrev pub outcome : Wallet → List Call → Told
outcome w calls =
    let last = after w calls in
    record {
      rows = rows_of w calls;
      utxo = map (λ e. e.reference) last.present.utxo;
      pending = map (λ p. p.number) last.present.pending;
      expected = map (λ e. e.reference) last.present.expected;
      held = length (states last);
    }

pub record Reading : Type 0 where
  pub start : Wallet
  pub calls : List Call
  pub told : Told

-- the reading comes out as told
abbrev pub ComesOut : Reading → Type 0
ComesOut r = outcome r.start r.calls ≡ r.told

-- a fact of every member of a list
abbrev pub All : {A : Type 0} → (A → Type 0) → List A → Type 0
All P [] = Unit {0}
All P (x ∷ l) = P x × All P l
