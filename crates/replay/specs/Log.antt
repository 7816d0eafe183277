-- A log kept beside the wallet, from the calls and their answers alone: the moment of each call, the payments accepted
-- with their moments, and the blocks still standing with theirs.
use Rattle.std.specs.Prelude.{ℕ, zero, suc, List, [], ◌∷◌, drop}
use Rattle.rules.specs.declared.Entry.{Entry}
use Rattle.rules.specs.Chain.{Transaction, Block}
use Rattle.rules.specs.States.{Wallet, block_utxo}
use Rattle.rules.specs.Calls.{Call, block_call, pay_call, back_call, step}

pub record Accepted : Type 0 where
  pub moment : ℕ
  pub payment : Transaction

pub record Standing : Type 0 where
  pub moment : ℕ
  pub block : Block

-- `standing` has the newest block first
pub record Log : Type 0 where
  pub now : ℕ
  pub accepted : List Accepted
  pub standing : List Standing

abbrev pub no_log : Log
no_log = record { now = 0; accepted = []; standing = [] }

-- An accepted block stands from its moment on; an accepted payment is noted with its moment; an accepted rollback takes
-- the newest standing block away. A refused call takes up a moment and nothing else.
abbrev pub accepted_call : Log → Call → Log
accepted_call g (block_call b) =
    record { now = suc g.now; accepted = g.accepted; standing = record { moment = g.now; block = b } ∷ g.standing }
accepted_call g (pay_call p) =
    record { now = suc g.now; accepted = record { moment = g.now; payment = p } ∷ g.accepted; standing = g.standing }
accepted_call g back_call = record { now = suc g.now; accepted = g.accepted; standing = drop 1 g.standing }

abbrev pub noted : Log → Call → ℕ → Log
noted g c zero = accepted_call g c
noted g c (suc refusal) = record { now = suc g.now; accepted = g.accepted; standing = g.standing }

-- A wallet with its log, and the two after some calls, the first of the list first.
pub record Run : Type 0 where
  pub wallet : Wallet
  pub log : Log

abbrev pub called : Run → Call → Run
called r c = let s = step r.wallet c in record { wallet = s.wallet; log = noted r.log c s.answer }

abbrev pub run : Run → List Call → Run
run r [] = r
run r (c ∷ l) = run (called r c) l

-- The unspent outputs by replay: the standing blocks, the oldest first, booked one after another, with no size and no
-- refusal.
abbrev pub replayed : List ℕ → List Standing → List Entry
replayed own [] = []
replayed own (b ∷ older) = block_utxo own (replayed own older) b.block
