-- What holds of a wallet with its log after every call: each held state, the present one and those below, is the state
-- of the blocks that stood when it was made. It asks for no soundness, no size and no order.
use Rattle.std.specs.Prelude.{ℕ, zero, suc, ◌<◌, ◌≤◌, ◌≡◌, refl, take}
use Rattle.std.proofs.Common.{arith}
use mathlib.Core.List.Memᴰ
use mathlib.Core.List.{List, [], ◌∷◌, Memᴰ}
use Rattle.rules.specs.Chain.{Transaction}
use Rattle.rules.specs.States.{State, opened}
use Rattle.replay.specs.Log.{Accepted, Standing, no_log, Run, replayed}
use Rattle.replay.specs.Demand.{SpendsAnInput}
use Rattle.replay.specs.Answers.{passed}

-- no block of a list, accepted after the payment's moment, spends one of its inputs
abbrev pub Untouched : Accepted → List Standing → Transaction → Type 0
Untouched a standing p =
    (b : Standing) → Memᴰ b standing → a.moment < b.moment → SpendsAnInput b.block p → ⊥

-- accepted before a moment, and untouched since
abbrev pub PendingBefore : List Accepted → ℕ → List Standing → Transaction → Type 0
PendingBefore accepted upto standing p =
    (a : Accepted) × Memᴰ a accepted × (a.payment ≡ p) × (a.moment < upto) × Untouched a standing p

-- every accepted payment is from before a moment
abbrev pub AcceptedBefore : List Accepted → ℕ → Type 0
AcceptedBefore accepted upto = (a : Accepted) → Memᴰ a accepted → a.moment < upto

-- One state: its unspent outputs are the replay of some standing blocks, all from before a moment, and its pending
-- payments are those accepted before that moment and untouched by these blocks since.
pub record Stands (own : List ℕ) (accepted : List Accepted) (upto : ℕ) (standing : List Standing) (s : State) : Type 0 where
  pub unspent : s.utxo ≡ replayed own standing
  pub pending_only : (p : Transaction) → Memᴰ p s.pending → PendingBefore accepted upto standing p
  pub pending_all : (p : Transaction) → PendingBefore accepted upto standing p → Memᴰ p s.pending
  pub standing_before : (b : Standing) → Memᴰ b standing → b.moment < upto

-- The states below: each is the state just before the newest block of the one above it.
abbrev pub StandBelow : List ℕ → List Accepted → List Standing → List State → Type 0
StandBelow own accepted standing [] = Unit {0}
StandBelow own accepted [] (q ∷ rest) = ⊥
StandBelow own accepted (b ∷ older) (q ∷ rest) =
    Stands own accepted b.moment older q × StandBelow own accepted older rest

-- the invariant, of a wallet with its log
pub record Invariant (r : Run) : Type 0 where
  pub accepted_before : AcceptedBefore r.log.accepted r.log.now
  pub present : Stands r.wallet.own r.log.accepted r.log.now r.log.standing r.wallet.present
  pub below : StandBelow r.wallet.own r.log.accepted r.log.standing r.wallet.below

-- An opened wallet with an empty log has the invariant.
pub invariant_opened : (own : List ℕ) → Invariant (record { wallet = opened own; log = no_log })
invariant_opened own =
    record {
      accepted_before = λ a m. absurd (Memᴰ.not-nil m);
      present =
          record {
            unspent = refl;
            pending_only = λ p m. absurd (Memᴰ.not-nil m);
            pending_all = λ p h. absurd (Memᴰ.not-nil h.1);
            standing_before = λ b m. absurd (Memᴰ.not-nil m);
          };
      below = tt;
    }

-- What holds up to now holds up to any later moment: nothing was accepted in between.
pub stands_later :
    (own : List ℕ) (accepted : List Accepted) (upto later : ℕ) (standing : List Standing) (s : State) →
    upto ≤ later → AcceptedBefore accepted upto → Stands own accepted upto standing s →
    Stands own accepted later standing s
stands_later own accepted upto later standing s h f v =
    record {
      unspent = v.unspent;
      pending_only = λ p m. let k = v.pending_only p m in (k.0, k.1, k.2, omega arith, k.4);
      pending_all =
          λ p (k : PendingBefore accepted later standing p). v.pending_all p (k.0, k.1, k.2, f k.0 k.1, k.4);
      standing_before = λ b m. omega (arith, v.standing_before b m);
    }

-- A refused call takes up a moment and changes nothing else.
pub invariant_refused : (r : Run) → Invariant r → Invariant (record { wallet = r.wallet; log = passed r.log })
invariant_refused r v =
    let w = r.wallet in
    let g = r.log in
    record {
      accepted_before = λ a m. omega (arith, v.accepted_before a m);
      present =
          stands_later w.own g.accepted g.now (suc g.now) g.standing w.present (omega arith)
          v.accepted_before
          v.present;
      below = v.below;
    }

-- Letting the oldest states go leaves the others as they stand.
pub below_take :
    (own : List ℕ) (accepted : List Accepted) (standing : List Standing) (n : ℕ) (below : List State) →
    StandBelow own accepted standing below → StandBelow own accepted standing (take n below)
below_take own accepted standing zero below v = tt
below_take own accepted standing (suc n) [] v = tt
below_take own accepted [] (suc n) (q ∷ rest) v = absurd v
below_take own accepted (b ∷ older) (suc n) (q ∷ rest) v = (v.0, below_take own accepted older n rest v.1)
