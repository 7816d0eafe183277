-- Whole bodies as the code hands them back: the answer with the value beside it, zeros where a value does not apply. For
-- each case of an answer the paper's number and place.
use Rattle.std.specs.Prelude.{ℕ, List, length, replicate, Result, Ok, Err}
use Rattle.sets.specs.Fill.{filled}
use Rattle.chain.specs.View.{zero_transaction}
use Rattle.rules.specs.Sizes.{most_own, most_transactions}
use Rattle.rules.specs.Chain as Chain
use Rattle.chain.specs.declared.Block.{Block}
use Rattle.format.specs.Fields.{Reading, got, fault}
use Rattle.format.specs.Bodies as Format
use Rattle.format.specs.Bodies.{own_body, block_body, pay_body, back_body, fault_at}
use Rattle.feed.specs.Structs.{read_as, struct_of, places_of}
use Rattle.feed.specs.declared.fields.Fault.{Fault}
use Rattle.feed.specs.declared.items.Read.{Read}
use Rattle.feed.specs.declared.bodies.Own.{Own}
use Rattle.feed.specs.declared.bodies.BodyRead.{BodyRead}
use Rattle.feed.specs.declared.bodies.Body.{Body}
use Rattle.feed.specs.declared.bodies.Body.TheVariants as Is

-- ── an own list and a block in their structs, and the empty ones

abbrev pub own_struct : List ℕ → Own
own_struct l = record { addresses = filled most_own 0 l; count = length l }

abbrev pub no_own : Own
no_own = record { addresses = replicate most_own 0; count = 0 }

abbrev pub block_of : Chain.Block → Block
block_of b = record { transactions = places_of b; count = length b }

abbrev pub no_block : Block
no_block = record { transactions = replicate most_transactions zero_transaction; count = 0 }

-- ── what a body of one kind reads as: its value up to the body's end, or a fault's place

abbrev pub own_reading : ℕ → Format.Body → Reading (List ℕ)
own_reading size (own_body own) = got own size
own_reading size (block_body b) = fault 0
own_reading size (pay_body t) = fault 0
own_reading size back_body = fault 0
own_reading size (fault_at place) = fault place

abbrev pub block_reading : ℕ → Format.Body → Reading Chain.Block
block_reading size (own_body own) = fault 0
block_reading size (block_body b) = got b size
block_reading size (pay_body t) = fault 0
block_reading size back_body = fault 0
block_reading size (fault_at place) = fault place

abbrev pub pay_reading : ℕ → Format.Body → Reading Chain.Transaction
pay_reading size (own_body own) = fault 0
pay_reading size (block_body b) = fault 0
pay_reading size (pay_body t) = got t size
pay_reading size back_body = fault 0
pay_reading size (fault_at place) = fault place

abbrev pub own_read : Reading (List ℕ) → Read Own
own_read m = read_as own_struct no_own m

abbrev pub block_read : Reading Chain.Block → Read Block
block_read m = read_as block_of no_block m

-- ── a body of any kind

-- no value beside it
abbrev pub bare : Body → BodyRead
bare body = record { body = body; own = no_own; block = no_block; payment = zero_transaction }

-- what a body is, unless its reading faulted
abbrev pub fault_or : Result ℕ Fault → Body → Body
fault_or (Ok next) body = body
fault_or (Err f) body = Is.Fault f.place

abbrev pub body_read : Format.Body → BodyRead
body_read (own_body own) = record { body = Is.Own; own = own_struct own; block = no_block; payment = zero_transaction }
body_read (block_body b) = record { body = Is.Block; own = no_own; block = block_of b; payment = zero_transaction }
body_read (pay_body t) = record { body = Is.Payment; own = no_own; block = no_block; payment = struct_of t }
body_read back_body = bare Is.Rollback
body_read (fault_at place) = bare (Is.Fault place)

-- ── the paper's number for each case, and the place beside it (0 where there is no fault)

abbrev pub answer_number : Result ℕ Fault → ℕ
answer_number (Ok next) = 0
answer_number (Err f) = 1

abbrev pub answer_place : Result ℕ Fault → ℕ
answer_place (Ok next) = 0
answer_place (Err f) = f.place

abbrev pub body_number : Body → ℕ
body_number Is.Own = 0
body_number Is.Block = 0
body_number Is.Payment = 0
body_number Is.Rollback = 0
body_number (Is.Fault place) = 1

abbrev pub body_fault : Body → ℕ
body_fault Is.Own = 0
body_fault Is.Block = 0
body_fault Is.Payment = 0
body_fault Is.Rollback = 0
body_fault (Is.Fault place) = place
