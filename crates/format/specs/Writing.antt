-- Writing by the format's layout, and which values fit the widths of their fields.
use Rattle.std.specs.Prelude.{ℕ, zero, suc, ◌/◌, ◌%◌, ◌^◌, Bool, ◌&&◌, List, [], ◌∷◌, ◌++◌, ltb, length}
use Rattle.sets.specs.Sets.{every, all, gather}
use Rattle.rules.specs.declared.Number.{Number}
use Rattle.rules.specs.declared.Reference.{Reference}
use Rattle.rules.specs.declared.Output.{Output}
use Rattle.rules.specs.Chain.{Transaction, Block}
use Rattle.format.specs.Bodies.{count_width, index_width, address_width, amount_width, number_width, serial_of, Body, own_body, block_body, pay_body, back_body, fault_at}

-- ── writing

-- a number in some bytes, little endian
abbrev pub write_number : ℕ → ℕ → List ℕ
write_number zero n = []
write_number (suc width) n = n % 256 ∷ write_number width (n / 256)

-- parts, one after another
abbrev pub joined : List (List ℕ) → List ℕ
joined [] = []
joined (part ∷ parts) = part ++ joined parts

unfoldable pub write_input : Reference → List ℕ
write_input r =
    joined
    (write_number number_width (serial_of r.number)
    ∷ write_number index_width r.index
    ∷ [])

unfoldable pub write_output : Output → List ℕ
write_output o =
    joined
    (write_number index_width o.index
    ∷ write_number address_width o.address
    ∷ write_number amount_width o.amount
    ∷ [])

unfoldable pub write_transaction : Transaction → List ℕ
write_transaction t =
    joined
    (write_number number_width (serial_of t.number)
    ∷ write_number count_width (length t.inputs)
    ∷ write_number count_width (length t.outputs)
    ∷ gather write_input t.inputs
    ∷ gather write_output t.outputs
    ∷ [])

unfoldable pub write_own : List ℕ → List ℕ
write_own own = write_number count_width (length own) ++ gather (write_number address_width) own

unfoldable pub write_block : Block → List ℕ
write_block b = write_number count_width (length b) ++ gather write_transaction b

abbrev pub write_payment : Transaction → List ℕ
write_payment t = write_transaction t

-- a body; nothing for a fault
abbrev pub write_body : Body → List ℕ
write_body (own_body own) = write_own own
write_body (block_body b) = write_block b
write_body (pay_body t) = write_payment t
write_body back_body = []
write_body (fault_at place) = []

-- ── values that fit their fields

abbrev pub fits : ℕ → ℕ → Bool
fits width n = ltb n (256 ^ width)

abbrev pub is_byte : ℕ → Bool
is_byte b = ltb b 256

unfoldable pub number_fits : Number → Bool
number_fits n = fits number_width (serial_of n)

unfoldable pub input_fits : Reference → Bool
input_fits r = number_fits r.number && fits index_width r.index

unfoldable pub output_fits : Output → Bool
output_fits o = every (fits index_width o.index ∷ fits address_width o.address ∷ fits amount_width o.amount ∷ [])

unfoldable pub transaction_fits : Transaction → Bool
transaction_fits t = every (number_fits t.number ∷ all input_fits t.inputs ∷ all output_fits t.outputs ∷ [])

abbrev pub own_fits : List ℕ → Bool
own_fits own = all (fits address_width) own

abbrev pub block_fits : Block → Bool
block_fits b = all transaction_fits b
