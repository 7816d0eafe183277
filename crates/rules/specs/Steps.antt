-- The steps: opening, block, payment and rollback, with every refusal in the paper's order.
use Rattle.std.specs.Prelude.{ℕ, zero, suc, Bool, true, false, not, cond, ◌||◌, List, [], ◌∷◌, leb, ℤ, pos, ◌-ℤ◌}
use Rattle.sets.specs.Sets.{any, all, has, keep, total}
use Rattle.rules.specs.declared.Number.{Number}
use Rattle.rules.specs.Chain.{same_number, same_reference, same_entry, Transaction, Block, made, worth, shaped_transaction, shaped_block, shaped_own}
use Rattle.rules.specs.States.{State, Wallet, opened, after_block, after_payment, after_rollback}
use Rattle.rules.specs.Balances.{available, available_balance}
use Rattle.rules.specs.Minimum.{stands}
use Rattle.rules.specs.Sound.{held_entries, held_payments, too_many, agree, agreeing, sound}

-- A refusal's number, and whether it is given.
pub record Refusal : Type 0 where
  pub number : ℕ
  pub given : Bool

-- the number of the first that is given; 0 means accepted
abbrev pub answer_of : List Refusal → ℕ
answer_of [] = 0
answer_of (r ∷ l) = let later = answer_of l in cond r.given r.number later

-- What a step hands back.
pub record Step : Type 0 where
  pub wallet : Wallet
  pub answer : ℕ
  pub movement : ℤ

-- Accepted: the new wallet, and the available balance after less before. Refused: the wallet unchanged and movement 0.
abbrev pub step_to : ℕ → Wallet → Wallet → Step
step_to zero old new =
    record {
      wallet = new;
      answer = 0;
      movement = pos (available_balance new.present) -ℤ pos (available_balance old.present);
    }
step_to (suc n) old new = record { wallet = old; answer = suc n; movement = pos 0 }

-- 2: the payment's number is that of a pending payment, or of a UTxO or expected reference, in any held state
unfoldable pub number_taken : Wallet → Number → Bool
number_taken w n =
    any (λ p. same_number n p.number) (held_payments w)
    || any (λ e. same_number n e.reference.number) (held_entries w)

-- 3: an input isn't in the available set
unfoldable pub input_missing : State → Transaction → Bool
input_missing s p = not (all (stands (available s)) p.inputs)

-- 4: outputs sum to more than inputs
unfoldable pub pays_too_much : State → Transaction → Bool
pays_too_much s p =
    not
    (leb
    (total (λ o. o.amount) p.outputs)
    (worth (keep (λ e. has same_reference e.reference p.inputs) (available s))))

-- 5: an output's reference, own or not, is in the present UTxO
unfoldable pub already_unspent : State → Block → Bool
already_unspent s b = any (λ e. has same_entry e s.utxo) (made b)

-- 6: an output's reference is in a UTxO or expected set of a held state with another address or amount, or a
-- transaction has the number of a pending payment of a held state but other inputs or outputs
unfoldable pub contradicts : Wallet → Block → Bool
contradicts w b =
    not (all (λ e. all (agree e) (held_entries w)) (made b))
    || not (all (λ t. all (agreeing t) (held_payments w)) b)

-- 8: only one state is held
abbrev pub only_one : List State → Bool
only_one [] = true
only_one (q ∷ rest) = false

unfoldable pub payment_refusals : Wallet → Transaction → List Refusal
payment_refusals w p =
    record { number = 9; given = not (sound w) }
    ∷ record { number = 1; given = not (shaped_transaction p) }
    ∷ record { number = 2; given = number_taken w p.number }
    ∷ record { number = 3; given = input_missing w.present p }
    ∷ record { number = 4; given = pays_too_much w.present p }
    ∷ record { number = 7; given = too_many (after_payment w p) }
    ∷ []

unfoldable pub block_refusals : Wallet → Block → List Refusal
block_refusals w b =
    record { number = 9; given = not (sound w) }
    ∷ record { number = 1; given = not (shaped_block b) }
    ∷ record { number = 5; given = already_unspent w.present b }
    ∷ record { number = 6; given = contradicts w b }
    ∷ record { number = 7; given = too_many (after_block w b) }
    ∷ []

unfoldable pub rollback_refusals : Wallet → List Refusal
rollback_refusals w =
    record { number = 9; given = not (sound w) }
    ∷ record { number = 8; given = only_one w.below }
    ∷ []

unfoldable pub pay : Wallet → Transaction → Step
pay w p = step_to (answer_of (payment_refusals w p)) w (after_payment w p)

unfoldable pub block : Wallet → Block → Step
block w b = step_to (answer_of (block_refusals w b)) w (after_block w b)

unfoldable pub roll_back : Wallet → Step
roll_back w = step_to (answer_of (rollback_refusals w)) w (after_rollback w)

-- Opening. Refused (1), it returns an opened wallet with no own address.
unfoldable pub opening : List ℕ → Step
opening own =
    cond (shaped_own own)
    (record { wallet = opened own; answer = 0; movement = pos 0 })
    (record { wallet = opened []; answer = 1; movement = pos 0 })
