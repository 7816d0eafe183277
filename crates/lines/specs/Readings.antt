-- The sheet of case F as the paper prints it, of a refused feed, and of one whose second body is faulty; numbers as text.
use Rattle.std.specs.Prelude.{ℕ, ◌≡◌, refl, List, [], ◌∷◌, negsuc, replicate}
use Rattle.rules.specs.Chain.{same_number, before_number, same_transaction, shaped_transaction, shaped_block, shaped_own, is_own}
use Rattle.rules.specs.States.{block_utxo, block_pending, block_expected, after_block, after_payment, rolled_back, after_rollback}
use Rattle.rules.specs.Balances.{available, change, available_balance, total_balance}
use Rattle.rules.specs.Minimum.{futures, allowed, value, allowed_futures, minimum_balance}
use Rattle.rules.specs.Sound.{too_many, within_sizes, sets_in_order, sound}
use Rattle.rules.specs.Steps.{number_taken, input_missing, pays_too_much, already_unspent, contradicts, payment_refusals, block_refusals, rollback_refusals, pay, block, roll_back, opening}
use Rattle.format.specs.Fields.{field}
use Rattle.format.specs.Bodies.{number_of, read_address, read_own, read_input, read_output, read_transaction, read_block, read_payment, read_body}
use Rattle.format.specs.Feed.{row_right, well_formed, row_count, row_kind, row_body, events}
use Rattle.format.specs.Readings.{case_f}
use Rattle.format.specs.Sample.{u8, u16, row}
use Rattle.lines.specs.Sheet.{decimal, signed, line_text, event_step, event_line, sheet}

abbrev pub sheet_f : List ℕ
sheet_f =
    -- event kind answer available total minimum moved
    101 ∷ 118 ∷ 101 ∷ 110 ∷ 116 ∷ 32 ∷ 107 ∷ 105 ∷ 110 ∷ 100 ∷ 32 ∷ 97 ∷ 110 ∷ 115 ∷ 119 ∷ 101 ∷ 114 ∷ 32 ∷ 97 ∷ 118 ∷ 97 ∷ 105 ∷ 108 ∷ 97 ∷ 98 ∷ 108 ∷ 101 ∷ 32 ∷ 116 ∷ 111 ∷ 116 ∷ 97 ∷ 108 ∷ 32 ∷ 109 ∷ 105 ∷ 110 ∷ 105 ∷ 109 ∷ 117 ∷ 109 ∷ 32 ∷ 109 ∷ 111 ∷ 118 ∷ 101 ∷ 100 ∷ 10
    -- 1 own 0 0 0 0 0
    ∷ 49 ∷ 32 ∷ 111 ∷ 119 ∷ 110 ∷ 32 ∷ 48 ∷ 32 ∷ 48 ∷ 32 ∷ 48 ∷ 32 ∷ 48 ∷ 32 ∷ 48 ∷ 10
    -- 2 block 0 100 100 100 100
    ∷ 50 ∷ 32 ∷ 98 ∷ 108 ∷ 111 ∷ 99 ∷ 107 ∷ 32 ∷ 48 ∷ 32 ∷ 49 ∷ 48 ∷ 48 ∷ 32 ∷ 49 ∷ 48 ∷ 48 ∷ 32 ∷ 49 ∷ 48 ∷ 48 ∷ 32 ∷ 49 ∷ 48 ∷ 48 ∷ 10
    -- 3 pay 0 40 73 73 -60
    ∷ 51 ∷ 32 ∷ 112 ∷ 97 ∷ 121 ∷ 32 ∷ 48 ∷ 32 ∷ 52 ∷ 48 ∷ 32 ∷ 55 ∷ 51 ∷ 32 ∷ 55 ∷ 51 ∷ 32 ∷ 45 ∷ 54 ∷ 48 ∷ 10
    -- 4 block 0 73 73 73 33
    ∷ 52 ∷ 32 ∷ 98 ∷ 108 ∷ 111 ∷ 99 ∷ 107 ∷ 32 ∷ 48 ∷ 32 ∷ 55 ∷ 51 ∷ 32 ∷ 55 ∷ 51 ∷ 32 ∷ 55 ∷ 51 ∷ 32 ∷ 51 ∷ 51 ∷ 10
    -- 5 pay 0 40 42 42 -33
    ∷ 53 ∷ 32 ∷ 112 ∷ 97 ∷ 121 ∷ 32 ∷ 48 ∷ 32 ∷ 52 ∷ 48 ∷ 32 ∷ 52 ∷ 50 ∷ 32 ∷ 52 ∷ 50 ∷ 32 ∷ 45 ∷ 51 ∷ 51 ∷ 10
    -- 6 back 0 40 42 42 0
    ∷ 54 ∷ 32 ∷ 98 ∷ 97 ∷ 99 ∷ 107 ∷ 32 ∷ 48 ∷ 32 ∷ 52 ∷ 48 ∷ 32 ∷ 52 ∷ 50 ∷ 32 ∷ 52 ∷ 50 ∷ 32 ∷ 48 ∷ 10
    -- 7 back 0 0 2 0 -40
    ∷ 55 ∷ 32 ∷ 98 ∷ 97 ∷ 99 ∷ 107 ∷ 32 ∷ 48 ∷ 32 ∷ 48 ∷ 32 ∷ 50 ∷ 32 ∷ 48 ∷ 32 ∷ 45 ∷ 52 ∷ 48 ∷ 10
    -- 8 back 8 0 2 0 0
    ∷ 56 ∷ 32 ∷ 98 ∷ 97 ∷ 99 ∷ 107 ∷ 32 ∷ 56 ∷ 32 ∷ 48 ∷ 32 ∷ 50 ∷ 32 ∷ 48 ∷ 32 ∷ 48 ∷ 10
    ∷ []

-- nothing at all is a refused feed
abbrev pub sheet_refused : List ℕ
sheet_refused =
    -- feed refused 1
    102 ∷ 101 ∷ 101 ∷ 100 ∷ 32 ∷ 114 ∷ 101 ∷ 102 ∷ 117 ∷ 115 ∷ 101 ∷ 100 ∷ 32 ∷ 49 ∷ 10
    ∷ []

-- no own address, and a block without a body
abbrev pub faulty : List ℕ
faulty = u16 1 (u16 3 (row 1 1 28 (row 2 0 29 (row 4 0 29 (u8 0 [])))))

abbrev pub sheet_faulty : List ℕ
sheet_faulty =
    -- event kind answer available total minimum moved
    101 ∷ 118 ∷ 101 ∷ 110 ∷ 116 ∷ 32 ∷ 107 ∷ 105 ∷ 110 ∷ 100 ∷ 32 ∷ 97 ∷ 110 ∷ 115 ∷ 119 ∷ 101 ∷ 114 ∷ 32 ∷ 97 ∷ 118 ∷ 97 ∷ 105 ∷ 108 ∷ 97 ∷ 98 ∷ 108 ∷ 101 ∷ 32 ∷ 116 ∷ 111 ∷ 116 ∷ 97 ∷ 108 ∷ 32 ∷ 109 ∷ 105 ∷ 110 ∷ 105 ∷ 109 ∷ 117 ∷ 109 ∷ 32 ∷ 109 ∷ 111 ∷ 118 ∷ 101 ∷ 100 ∷ 10
    -- 1 own 0 0 0 0 0
    ∷ 49 ∷ 32 ∷ 111 ∷ 119 ∷ 110 ∷ 32 ∷ 48 ∷ 32 ∷ 48 ∷ 32 ∷ 48 ∷ 32 ∷ 48 ∷ 32 ∷ 48 ∷ 10
    -- 2 block 1 0 0 0 0
    ∷ 50 ∷ 32 ∷ 98 ∷ 108 ∷ 111 ∷ 99 ∷ 107 ∷ 32 ∷ 49 ∷ 32 ∷ 48 ∷ 32 ∷ 48 ∷ 32 ∷ 48 ∷ 32 ∷ 48 ∷ 10
    -- 3 back 8 0 0 0 0
    ∷ 51 ∷ 32 ∷ 98 ∷ 97 ∷ 99 ∷ 107 ∷ 32 ∷ 56 ∷ 32 ∷ 48 ∷ 32 ∷ 48 ∷ 32 ∷ 48 ∷ 32 ∷ 48 ∷ 10
    ∷ []

pub sheets : (sheet case_f ≡ sheet_f) × (sheet [] ≡ sheet_refused) × (sheet faulty ≡ sheet_faulty)
unfolding same_number before_number same_transaction shaped_transaction shaped_block shaped_own is_own block_utxo block_pending block_expected after_block after_payment rolled_back after_rollback available change available_balance total_balance futures allowed value allowed_futures minimum_balance too_many within_sizes sets_in_order sound number_taken input_missing pays_too_much already_unspent contradicts payment_refusals block_refusals rollback_refusals pay block roll_back opening field number_of read_address read_own read_input read_output read_transaction read_block read_payment read_body row_right well_formed row_count row_kind row_body events decimal line_text event_step event_line sheet
sheets = (refl, refl, refl)

-- 0, the largest total, and the largest fall of the available balance
pub numbers :
    (decimal 0 ≡ 48 ∷ [])
    × (decimal 11_520_000_000_000_000_000 ≡ 49 ∷ 49 ∷ 53 ∷ 50 ∷ replicate 16 48)
    × (signed (negsuc 5_759_999_999_999_999_999) ≡ 45 ∷ 53 ∷ 55 ∷ 54 ∷ replicate 16 48)
unfolding decimal
numbers = (refl, refl, refl)
