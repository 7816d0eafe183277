-- The paper's marked readings and the further ones, as one list with one theorem: each comes out as told.
use Rattle.std.specs.Prelude.{refl, List, [], ◌∷◌}
use Rattle.rules.specs.Chain.{same_number, before_number, same_transaction, shaped_transaction, shaped_block, shaped_own, is_own}
use Rattle.rules.specs.States.{block_utxo, block_pending, block_expected, after_block, after_payment, rolled_back, after_rollback}
use Rattle.rules.specs.Balances.{available, change, available_balance, total_balance}
use Rattle.rules.specs.Minimum.{futures, allowed, value, allowed_futures, minimum_balance, minimum_payments}
use Rattle.rules.specs.Sound.{too_many, within_sizes, sets_in_order, sound}
use Rattle.rules.specs.Steps.{number_taken, input_missing, pays_too_much, already_unspent, contradicts, payment_refusals, block_refusals, rollback_refusals, pay, block, roll_back, opening}
use Rattle.rules.specs.Queries.{balances}
use Rattle.rules.specs.Reading.{Reading, ComesOut, All}
use Rattle.rules.specs.PaperReadings.{case_f, reading1, reading2, reading3, reading4, reading5, reading6, reading7, reading8}
use Rattle.rules.specs.FurtherReadings.{eight_held, conflict, fewer, whole, again, counted, refusals, unsound}

abbrev pub readings : List Reading
readings =
    case_f
    ∷ reading1
    ∷ reading2
    ∷ reading3
    ∷ reading4
    ∷ reading5
    ∷ reading6
    ∷ reading7
    ∷ reading8
    ∷ eight_held
    ∷ conflict
    ∷ fewer
    ∷ whole
    ∷ again
    ∷ counted
    ∷ refusals
    ∷ unsound
    ∷ []

pub readings_come_out : All ComesOut readings
unfolding same_number before_number same_transaction shaped_transaction shaped_block shaped_own is_own block_utxo block_pending block_expected after_block after_payment rolled_back after_rollback available change available_balance total_balance futures allowed value allowed_futures minimum_balance minimum_payments too_many within_sizes sets_in_order sound number_taken input_missing pays_too_much already_unspent contradicts payment_refusals block_refusals rollback_refusals pay block roll_back opening balances
readings_come_out =
    (refl, (refl, (refl, (refl, (refl, (refl, (refl, (refl, (refl, (refl, (refl, (refl, (refl, (refl, (refl, (refl, (refl, tt)))))))))))))))))
