-- The bodies, field by field in the paper's order: own addresses, block, payment, rollback. A count is judged when it is
-- read; an input's number and index are two fields, each with its own rule.
use Rattle.std.specs.Prelude.{ℕ, Bool, not, cond, ◌&&◌, ◌||◌, List, eqb, leb, ltb, length}
use Rattle.std.proofs.Math.Option.{Option, none}
use Rattle.rules.specs.declared.Number.{Number}
use Rattle.rules.specs.declared.Reference.{Reference}
use Rattle.rules.specs.declared.Output.{Output}
use Rattle.rules.specs.Sizes.{largest_amount, most_own, fewest_inputs, most_inputs, most_outputs, most_transactions}
use Rattle.rules.specs.Chain.{same_number, before_number, Transaction, Block}
use Rattle.format.specs.Fields.{Reading, got, fault, Reader, field, any_number, done, follows, ◌>>=◌, items}

-- ── widths, in bytes

abbrev pub count_width : ℕ
count_width = 1

abbrev pub index_width : ℕ
index_width = 2

abbrev pub address_width : ℕ
address_width = 4

abbrev pub amount_width : ℕ
amount_width = 8

abbrev pub number_width : ℕ
number_width = 8

-- A transaction number and the number in its field: the only two definitions that look inside.
unfoldable pub number_of : ℕ → Number
number_of n = record { serial = n }

unfoldable pub serial_of : Number → ℕ
serial_of n = n.serial

-- ── own addresses: count u8, then u32 each, strictly ascending

unfoldable pub read_address : Option ℕ → Reader ℕ
read_address last = field address_width (follows ltb last)

unfoldable pub read_own : Reader (List ℕ)
read_own = do
  count ← field count_width (λ n. leb n most_own)
  items read_address count none

-- ── inputs (number u64, index u16), strictly ascending by number, then index

-- not below the number of the input before
abbrev pub input_number_follows : Reference → ℕ → Bool
input_number_follows last n = not (before_number (number_of n) last.number)

-- higher than the index of the input before, where that has the same number
abbrev pub input_index_follows : ℕ → Reference → ℕ → Bool
input_index_follows n last i = not (same_number (number_of n) last.number) || ltb last.index i

unfoldable pub read_input : Option Reference → Reader Reference
read_input last = do
  n ← field number_width (follows input_number_follows last)
  i ← field index_width (follows (input_index_follows n) last)
  done (record { number = number_of n; index = i })

-- ── outputs (index u16, address u32, amount u64), strictly ascending by index

abbrev pub output_index_follows : Output → ℕ → Bool
output_index_follows last i = ltb last.index i

unfoldable pub read_output : Option Output → Reader Output
read_output last = do
  i ← field index_width (follows output_index_follows last)
  a ← field address_width any_number
  v ← field amount_width (λ v. leb v largest_amount)
  done (record { index = i; address = a; amount = v })

-- ── transaction: number u64, input count u8, output count u8; inputs; outputs

-- higher than the number of the transaction before
abbrev pub number_follows : Transaction → ℕ → Bool
number_follows last n = before_number last.number (number_of n)

unfoldable pub read_transaction : Option Transaction → Reader Transaction
read_transaction last = do
  n ← field number_width (follows number_follows last)
  input_count ← field count_width (λ k. leb fewest_inputs k && leb k most_inputs)
  output_count ← field count_width (λ k. leb k most_outputs)
  inputs ← items read_input input_count none
  outputs ← items read_output output_count none
  done (record { number = number_of n; inputs = inputs; outputs = outputs })

-- ── block: count u8, transactions with strictly ascending numbers; payment: one transaction; rollback: empty

unfoldable pub read_block : Reader Block
read_block = do
  count ← field count_width (λ n. leb n most_transactions)
  items read_transaction count none

unfoldable pub read_payment : Reader Transaction
read_payment = read_transaction none

-- ── a whole body

pub data Body : Type 0 where
  own_body : List ℕ → Body
  block_body : Block → Body
  pay_body : Transaction → Body
  back_body : Body
  fault_at : ℕ → Body

abbrev pub own_kind : ℕ
own_kind = 1

abbrev pub block_kind : ℕ
block_kind = 2

abbrev pub pay_kind : ℕ
pay_kind = 3

abbrev pub back_kind : ℕ
back_kind = 4

module _ {A : Type 0} where
  -- A body must be used up exactly: the first byte left over is a fault.
  abbrev pub used_up : (A → Body) → List ℕ → Reading A → Body
  used_up body bytes (got x next) = cond (eqb next (length bytes)) (body x) (fault_at next)
  used_up body bytes (fault place) = fault_at place

  abbrev pub whole : (A → Body) → Reader A → List ℕ → Body
  whole body reader bytes = used_up body bytes (reader bytes 0)

-- A body by its row's kind; an unknown kind faults at place 0.
unfoldable pub read_body : ℕ → List ℕ → Body
read_body kind bytes =
    cond (eqb kind own_kind) (whole own_body read_own bytes)
    (cond (eqb kind block_kind) (whole block_body read_block bytes)
    (cond (eqb kind pay_kind) (whole pay_body read_payment bytes)
    (cond (eqb kind back_kind) (whole (λ (u : Unit {0}). back_body) (done tt) bytes)
    (fault_at 0))))

-- The paper's number for a body's reading, and the place beside it (0 where there is no fault).
abbrev pub body_answer : Body → ℕ
body_answer (own_body own) = 0
body_answer (block_body b) = 0
body_answer (pay_body t) = 0
body_answer back_body = 0
body_answer (fault_at place) = 1

abbrev pub body_place : Body → ℕ
body_place (own_body own) = 0
body_place (block_body b) = 0
body_place (pay_body t) = 0
body_place back_body = 0
body_place (fault_at place) = place
