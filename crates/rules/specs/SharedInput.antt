-- The source's invariant 6.3, that pending payments never share an input, is false: a wallet that calls on an opened
-- one reach, in which two pending payments share one.
use Rattle.std.specs.Prelude.{refl, ℕ, T, not}
use mathlib.Core.List.{List, [], ◌∷◌, Memᴰ}
use Rattle.rules.specs.declared.Reference.{Reference}
use Rattle.rules.specs.Chain.{Transaction, same_transaction, same_number, before_number, shaped_transaction, shaped_block, shaped_own, is_own}
use Rattle.rules.specs.States.{block_utxo, block_pending, block_expected, after_block, after_payment, rolled_back, after_rollback}
use Rattle.rules.specs.Balances.{available}
use Rattle.rules.specs.Sound.{too_many, within_sizes, sets_in_order, sound}
use Rattle.rules.specs.Steps.{number_taken, input_missing, pays_too_much, already_unspent, contradicts, payment_refusals, block_refusals, rollback_refusals, pay, block, roll_back, opening}
use Rattle.rules.specs.Calls.{Call, after}
use Rattle.rules.specs.Reading.{at, out, tx}
use Rattle.rules.specs.PaperReadings.{reading5}

-- two different pending payments of the wallet that these calls reach share an input
pub record SharesAnInput (own : List ℕ) (calls : List Call) : Type 0 where
  pub one : Transaction
  pub other : Transaction
  pub input : Reference
  pub one_pending : Memᴰ one (after (opening own).wallet calls).present.pending
  pub other_pending : Memᴰ other (after (opening own).wallet calls).present.pending
  pub different : T (not (same_transaction one other))
  pub one_takes : Memᴰ input one.inputs
  pub other_takes : Memᴰ input other.inputs

pub invariant_6_3_fails : (own : List ℕ) × (calls : List Call) × SharesAnInput own calls
unfolding same_number before_number same_transaction shaped_transaction shaped_block shaped_own is_own block_utxo block_pending block_expected after_block after_payment rolled_back after_rollback available too_many within_sizes sets_in_order sound number_taken input_missing pays_too_much already_unspent contradicts payment_refusals block_refusals rollback_refusals pay block roll_back opening
invariant_6_3_fails = (
  10 ∷ 11 ∷ [],
  reading5.calls,
  record {
    one = tx 400 (at 300 0 ∷ at 300 1 ∷ []) (out 0 10 29 ∷ []);
    other = tx 402 (at 300 1 ∷ []) (out 0 10 19 ∷ []);
    input = at 300 1;
    one_pending = Memᴰ.head refl;
    other_pending = Memᴰ.tail (Memᴰ.head refl);
    different = tt;
    one_takes = Memᴰ.tail (Memᴰ.head refl);
    other_takes = Memᴰ.head refl;
  },
)
