-- What the recorder's calls promise: the rules' answers, read off the structs, for every struct that can be handed in.
use Rattle.std.specs.Prelude.{ℕ, ◌≡◌, Bool, not, List, map, T, pos}
use Rattle.sets.specs.Sets.{keep}
use Rattle.rules.specs.declared.Entry.{Entry}
use Rattle.rules.specs.States as States
use Rattle.rules.specs.Steps as Steps
use Rattle.chain.specs.declared.Transaction.{Transaction}
use Rattle.pool.specs.Marks.{marked}
use Rattle.pool.specs.View.{view, payments_of}
use Rattle.pool.specs.Good.{laid_out, good}
use Rattle.flat.specs.Flat.{made_of, block_of}
use Rattle.wallet.specs.declared.Wallet.{Wallet}
use Rattle.wallet.specs.declared.Step.{Step}
use Rattle.wallet.specs.declared.Amount.{Amount}
use Rattle.wallet.specs.declared.Listed.{Listed}
use Rattle.wallet.specs.declared.Pending.{Pending}
use Rattle.wallet.specs.Told.{told_amount, told_list, told_pending}

-- the rules' wallet that a wallet struct holds, and whether the struct is sound
abbrev pub viewed : Wallet → States.Wallet
viewed w = view w.pool

abbrev pub is_sound : Wallet → Bool
is_sound w = good w.pool

-- a step of the code reads as a step of the rules
pub record Reads (r : Step) (s : Steps.Step) : Type 0 where
  pub laid : T (laid_out r.wallet.pool)
  pub wallet : viewed r.wallet ≡ s.wallet
  pub answer : r.answer ≡ s.answer
  pub movement : r.movement ≡ s.movement

-- refused: the very wallet that came in, and movement 0
abbrev pub refused_step : Wallet → ℕ → Step
refused_step w n = record { wallet = w; answer = n; movement = pos 0 }

-- A step on a wallet, of something handed in that is laid out or not: 9 where the wallet is not sound, 1 where the layout
-- is broken, else the rules' step of the view.
pub record Stepped (w : Wallet) (laid : Bool) (rule : Steps.Step) (r : Step) : Type 0 where
  pub unsound : T (not (is_sound w)) → r ≡ refused_step w 9
  pub broken : T (is_sound w) → T (not laid) → r ≡ refused_step w 1
  pub booked : T (is_sound w) → T laid → Reads r rule

-- A query: 9 and zeros where the wallet is not sound.
abbrev pub asked : Wallet → ℕ → Amount
asked w n = told_amount (is_sound w) n

abbrev pub listed : Wallet → List Entry → Listed
listed w l = told_list (is_sound w) (made_of l)

abbrev pub pending_listed : Wallet → List Transaction → Pending
pending_listed w l = told_pending (is_sound w) (block_of l)

-- the payments that are pending in the present state, as structs
abbrev pub pending_structs : Wallet → List Transaction
pending_structs w = map (λ p. p.transaction) (keep (λ p. marked 0 p.pending) (payments_of w.pool))
