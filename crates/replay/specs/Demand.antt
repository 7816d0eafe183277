-- Demand 3: after any sequence of calls, refused ones too, the unspent outputs are a replay of the blocks still
-- standing, and a payment is pending exactly when it was accepted at some moment and no standing block accepted after
-- that moment spends one of its inputs. Old states that have been let go make no difference.
use Rattle.std.specs.Prelude.{ℕ, ◌<◌, ◌≡◌}
use mathlib.Core.List.{List, Memᴰ}
use Rattle.rules.specs.declared.Reference.{Reference}
use Rattle.rules.specs.Chain.{Transaction, Block, spent}
use Rattle.rules.specs.Steps.{opening}
use Rattle.replay.specs.Log.{Accepted, Standing, Log, no_log, Run, replayed}

-- a block spends one of the payment's inputs
abbrev pub SpendsAnInput : Block → Transaction → Type 0
SpendsAnInput b p = (i : Reference) × Memᴰ i p.inputs × Memᴰ i (spent b)

-- accepted at some moment, and no standing block accepted after that moment spends one of its inputs
abbrev pub StillPending : Log → Transaction → Type 0
StillPending g p =
    (a : Accepted)
    × Memᴰ a g.accepted
    × (a.payment ≡ p)
    × ((b : Standing) → Memᴰ b g.standing → a.moment < b.moment → SpendsAnInput b.block p → ⊥)

-- the demand, of a wallet with its log
pub record Demanded (r : Run) : Type 0 where
  pub unspent : r.wallet.present.utxo ≡ replayed r.wallet.own r.log.standing
  pub pending_only : (p : Transaction) → Memᴰ p r.wallet.present.pending → StillPending r.log p
  pub pending_all : (p : Transaction) → StillPending r.log p → Memᴰ p r.wallet.present.pending

-- the wallet of an opening, with an empty log; a refused opening counts as one with the empty list
abbrev pub opening_run : List ℕ → Run
opening_run own = record { wallet = (opening own).wallet; log = no_log }
