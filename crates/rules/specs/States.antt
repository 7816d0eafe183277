-- The wallet: held states of three sets each, and what a block, a payment and a rollback make of them.
-- Whether a step is accepted is said in Steps.
use Rattle.std.specs.Prelude.{ℕ, ◌-◌, Bool, not, List, [], ◌∷◌, ◌++◌, take}
use Rattle.sets.specs.Sets.{any, has, keep, together}
use Rattle.rules.specs.declared.Reference.{Reference}
use Rattle.rules.specs.declared.Entry.{Entry}
use Rattle.rules.specs.Sizes.{most_states}
use Rattle.rules.specs.Chain.{same_reference, same_entry, before_entry, Transaction, same_transaction, before_transaction, Block, made, spent, is_own}

pub record State : Type 0 where
  pub utxo : List Entry
  pub pending : List Transaction
  pub expected : List Entry

-- The own list of the opening, the present state, and the states below it, the nearest first.
pub record Wallet : Type 0 where
  pub own : List ℕ
  pub present : State
  pub below : List State

abbrev pub states : Wallet → List State
states w = w.present ∷ w.below

-- Opening: one state with all three sets empty.
abbrev pub opened : List ℕ → Wallet
opened own = record { own = own; present = record { utxo = []; pending = []; expected = [] }; below = [] }

-- Sets of entries and of payments.
abbrev pub with_entries : List Entry → List Entry → List Entry
with_entries s new = together same_entry before_entry s new

abbrev pub with_payments : List Transaction → List Transaction → List Transaction
with_payments s new = together same_transaction before_transaction s new

-- the entries whose reference is not in a list
abbrev pub without_references : List Reference → List Entry → List Entry
without_references refs l = keep (λ e. not (has same_reference e.reference refs)) l

-- the entries whose reference no entry of a list has
abbrev pub without_entries : List Entry → List Entry → List Entry
without_entries gone l = keep (λ e. not (has same_entry e gone)) l

-- the outputs of some transactions that are own
abbrev pub own_made : List ℕ → List Transaction → List Entry
own_made own l = keep (is_own own) (made l)

-- at least one input of the payment is among the references
abbrev pub spends : List Reference → Transaction → Bool
spends refs p = any (λ i. has same_reference i refs) p.inputs

-- Block. New UTxO: the old with the block's own outputs, without every reference that the block spends.
-- Pending loses each payment with an input that the block spends. Expected loses each own output that the block makes.
unfoldable pub block_utxo : List ℕ → List Entry → Block → List Entry
block_utxo own utxo b = without_references (spent b) (with_entries utxo (own_made own b))

unfoldable pub block_pending : List Transaction → Block → List Transaction
block_pending pending b = keep (λ p. not (spends (spent b) p)) pending

unfoldable pub block_expected : List ℕ → List Entry → Block → List Entry
block_expected own expected b = without_entries (own_made own b) expected

-- The old state is kept under the new one; if eight were held, the oldest is let go.
unfoldable pub after_block : Wallet → Block → Wallet
after_block w b =
    record {
      own = w.own;
      present =
          record {
            utxo = block_utxo w.own w.present.utxo b;
            pending = block_pending w.present.pending b;
            expected = block_expected w.own w.present.expected b;
          };
      below = take (most_states - 1) (states w);
    }

-- Payment. Added to the present pending set; nothing else changes.
unfoldable pub after_payment : Wallet → Transaction → Wallet
after_payment w p =
    record {
      own = w.own;
      present =
          record {
            utxo = w.present.utxo;
            pending = with_payments w.present.pending (p ∷ []);
            expected = w.present.expected;
          };
      below = w.below;
    }

-- Rollback. With present state p and the state q below it: UTxO is q's; pending is p's and q's together; expected is
-- p's expected, q's expected and p's UTxO together, without any reference in q's UTxO. p goes.
unfoldable pub rolled_back : State → State → State
rolled_back p q =
    record {
      utxo = q.utxo;
      pending = with_payments q.pending p.pending;
      expected = without_entries q.utxo (with_entries q.expected (p.expected ++ p.utxo));
    }

-- With no state below there is nothing to go back to, and the step is refused.
abbrev pub back_to : List ℕ → State → List State → Wallet
back_to own p [] = record { own = own; present = p; below = [] }
back_to own p (q ∷ rest) = record { own = own; present = rolled_back p q; below = rest }

unfoldable pub after_rollback : Wallet → Wallet
after_rollback w = back_to w.own w.present w.below
