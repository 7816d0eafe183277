-- A transaction's lists in the struct that the code makes of them, and a block's transactions one by one in their structs.
use Rattle.std.specs.Prelude.{◌≡◌, refl, List, ◌∷◌, map, ℕ, zero, suc}
use Rattle.std.proofs.Common.{sym, ap, ◌∙◌}
use Rattle.std.proofs.Math.Option.{Option, none, some}
use Rattle.sets.specs.Fill.{filled, filled_first}
use Rattle.chain.specs.View.{view_transaction, zero_reference, zero_output}
use Rattle.rules.specs.declared.Number.{Number}
use Rattle.rules.specs.declared.Reference.{Reference}
use Rattle.rules.specs.declared.Output.{Output}
use Rattle.rules.specs.Sizes.{most_inputs, most_outputs}
use Rattle.rules.specs.Chain as Chain
use Rattle.chain.specs.declared.Transaction.{Transaction}
use Rattle.format.specs.Fields.{Reading, got, fault, onward, items}
use Rattle.format.specs.Bodies.{read_input, read_output, read_transaction}
use Rattle.feed.specs.Answers.{numbered, viewed}
use Rattle.feed.specs.Structs.{struct_of, formed, read_lists, struct_reader}
use Rattle.feed.specs.Items.{items_length}

-- both lists were read
pub lists_read :
    (number : Number) (takes makes : ℕ) (bytes : List ℕ) (place at next : ℕ) (l inputs : List Reference) (m outputs : List Output) →
    items read_input takes none bytes place ≡ got l at → inputs ≡ filled most_inputs zero_reference l →
    items read_output makes none bytes at ≡ got m next → outputs ≡ filled most_outputs zero_output m →
    got (record { number = number; inputs = inputs; takes = takes; outputs = outputs; makes = makes }) next
    ≡ formed struct_of (read_lists number takes makes bytes place)
unfolding read_lists
lists_read number takes makes bytes place at next l inputs m outputs e g f h =
    let k = items_length read_input bytes takes none place l at e in
    let j = items_length read_output bytes makes none at m next f in
    (λ i. got (record { number = number; inputs = g i; takes = sym k i; outputs = h i; makes = sym j i }) next)
    ∙ rw (e, f) refl

-- of the transaction before only the number matters
pub number_alone : (t : Transaction) (bytes : List ℕ) (place : ℕ) →
    read_transaction (numbered (some t.number)) bytes place ≡ read_transaction (viewed (some t)) bytes place
unfolding read_transaction
number_alone t bytes place = refl

-- ── transactions one after another

pub struct_view : (t : Chain.Transaction) → view_transaction (struct_of t) ≡ t
struct_view t =
    let x = filled_first most_inputs zero_reference t.inputs in
    let y = filled_first most_outputs zero_output t.outputs in
    λ i. record { number = t.number; inputs = x i; outputs = y i }

abbrev structs : Option Chain.Transaction → Option Transaction
structs none = none
structs (some t) = some (struct_of t)

viewed_structs : (last : Option Chain.Transaction) → viewed (structs last) ≡ last
viewed_structs none = refl
viewed_structs (some t) = ap (λ (u : Chain.Transaction). some u) (struct_view t)

-- the transactions of a block, each in its struct
pub struct_items : (count : ℕ) (last : Option Chain.Transaction) (bytes : List ℕ) (place : ℕ) →
    items struct_reader count (structs last) bytes place ≡ formed (map struct_of) (items read_transaction count last bytes place)
struct_items zero last bytes place = refl
struct_items (suc count) last bytes place =
    ap (λ (o : Option Chain.Transaction). onward (formed struct_of (read_transaction o bytes place)) next) (viewed_structs last)
    ∙ here (λ (t : Chain.Transaction) (at : ℕ). struct_items count (some t) bytes at) (read_transaction last bytes place)
  where
    next : Transaction → ℕ → Reading (List Transaction)
    next x at = onward (items struct_reader count (some x) bytes at) (λ rest k. got (x ∷ rest) k)

    behind : (t : Chain.Transaction) (r : Reading Chain.Block) → onward (formed (map struct_of) r) (λ rest k. got (struct_of t ∷ rest) k) ≡ formed (map struct_of) (onward r (λ rest k. got (t ∷ rest) k))
    behind t (got b k) = refl
    behind t (fault p) = refl

    here : ((t : Chain.Transaction) (at : ℕ) → items struct_reader count (some (struct_of t)) bytes at ≡ formed (map struct_of) (items read_transaction count (some t) bytes at)) →
        (r : Reading Chain.Transaction) →
        onward (formed struct_of r) next ≡ formed (map struct_of) (onward r (λ t at. onward (items read_transaction count (some t) bytes at) (λ rest k. got (t ∷ rest) k)))
    here ih (got t at) =
        ap (λ (m : Reading (List Transaction)). onward m (λ rest k. got (struct_of t ∷ rest) k)) (ih t at)
        ∙ behind t (items read_transaction count (some t) bytes at)
    here ih (fault p) = refl
