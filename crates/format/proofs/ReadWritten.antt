-- Writing and reading: an own list, a block or a payment that is shaped and fits its fields, written by the layout, is
-- read back.
use Rattle.std.specs.Prelude.{◌≡◌, refl, Bool, not, ◌&&◌, ◌||◌, List, [], ◌∷◌, ◌++◌, ℕ, ◌+◌, ◌^◌, ◌≤◌, ◌<◌, T, eqb, leb, ltb, length, take, drop}
use Rattle.std.proofs.Common.{sym, ap, subst, ◌∙◌, ⊎_elim, append-nil, append_assoc, arith, ltb→lt, lt→ltb, leb→le, le→leb, lit≤, length-drop, length-append, drop-drop, take_at, drop_at}
use Rattle.std.proofs.Math.Option.{Option, none, some}
use Rattle.std.proofs.Math.Dec.{not_T}
use Rattle.sets.specs.Sets.{every, all, ascending, gather}
use Rattle.sets.specs.Tests.{and_left, and_right, and_both, or_left, or_right, every_at, cond_true, equal_holds}
use Rattle.sets.specs.Laws.{all_intro, all_elim}
use Rattle.rules.specs.declared.Number.{Number}
use Rattle.rules.specs.declared.Reference.{Reference}
use Rattle.rules.specs.declared.Output.{Output}
use Rattle.rules.specs.Sizes.{largest_amount, most_own, fewest_inputs, most_inputs, most_outputs, most_transactions}
use Rattle.rules.specs.Chain.{same_number, before_number, before_reference, before_output, before_transaction, Transaction, Block, shaped_transaction, shaped_block, shaped_own}
use Rattle.rules.specs.ShapeLaws.{shaped_facts, shaped_block_facts}
use Rattle.rules.specs.ChainLaws.{same_number_eq, before_number_irrefl, before_number_trans, before_reference_cases}
use Rattle.format.specs.Fields.{Reading, got, Reader, little, number_at, field, any_number, done, follows, onward, ◌>>=◌, items}
use Rattle.format.specs.Bodies.{count_width, index_width, address_width, amount_width, number_width, number_of, serial_of, input_number_follows, input_index_follows, output_index_follows, number_follows, read_address, read_own, read_input, read_output, read_transaction, read_block, read_payment, Body, own_body, block_body, pay_body, own_kind, block_kind, pay_kind, used_up, whole, fault_at, read_body}
use Rattle.format.specs.Writing.{write_number, write_input, write_output, write_transaction, write_own, write_block, write_payment, fits, number_fits, input_fits, output_fits, transaction_fits, own_fits, block_fits}
use Rattle.format.specs.Numbers.{written_length, little_written, number_of_serial}
use Rattle.format.specs.Readers.{field_got, chained, chained_cons}

-- ── what stands at a place is read off

-- from a place on, the bytes are these
abbrev Stands : List ℕ → ℕ → List ℕ → Type 0
Stands bytes place l = (drop place bytes ≡ l) × (place ≤ length bytes)

module _ {A : Type 0} where
  -- wherever a writing stands, the reader reads x and comes to what follows
  abbrev ReadsBack : Reader A → List ℕ → A → Type 0
  ReadsBack r written x =
      (bytes : List ℕ) (place : ℕ) (rest : List ℕ) → Stands bytes place (written ++ rest) →
      (next : ℕ) × (r bytes place ≡ got x next) × Stands bytes next rest

  back_done : (x : A) → ReadsBack (done x) [] x
  back_done x bytes place rest h = (place, refl, h)

module _ {A B : Type 0} where
  back_then : (r : Reader A) (f : A → Reader B) (l m : List ℕ) (x : A) (y : B) → ReadsBack r l x → ReadsBack (f x) m y → ReadsBack (r >>= f) (l ++ m) y
  back_then r f l m x y h k bytes place rest s =
      let c = h bytes place (m ++ rest) (s.0 ∙ append_assoc l m rest, s.1) in
      let d = k bytes c.0 rest c.2 in
      (d.0, ap (λ (p : Reading A). onward p (λ z n. f z bytes n)) c.1 ∙ d.1, d.2)

back_field : (width : ℕ) (rule : ℕ → Bool) (n : ℕ) → T (fits width n) → T (rule n) → ReadsBack (field width rule) (write_number width n) n
back_field width rule n f t bytes place rest s =
    let written = write_number width n in
    let size : length written ≡ width = written_length width n in
    let long : length (written ++ rest) ≡ width + length rest = length-append written rest ∙ omega (arith, size) in
    let left : length (drop place bytes) ≡ length (written ++ rest) = ap (λ (l : List ℕ). length l) s.0 in
    let fit : place + width ≤ length bytes = omega (arith, s.1, long, left, length-drop place bytes) in
    let value : number_at width bytes place ≡ n =
    ap (λ (l : List ℕ). little (take width l)) s.0
    ∙ ap little (take_at written rest width size)
    ∙ little_written width n (ltb→lt n (256 ^ width) f)
    in (
      place + width,
      field_got width rule bytes place fit (subst (λ (k : ℕ). T (rule k)) (sym value) t) ∙ ap (λ (k : ℕ). got k (place + width)) value,
      (sym (drop-drop width place bytes) ∙ ap (λ (l : List ℕ). drop width l) s.0 ∙ drop_at written rest width size, fit),
    )

-- ── items

module _ {A : Type 0} (before : A → A → Bool) (good : A → Bool) (write : A → List ℕ) where
  back_items : (item : Option A → Reader A) →
      ((last : Option A) (x : A) → T (follows before last x) → T (good x) → ReadsBack (item last) (write x) x) →
      (l : List A) (last : Option A) → T (chained before last l) → T (all good l) → ReadsBack (items item (length l) last) (gather write l) l
  back_items item h [] last c g = back_done []
  back_items item h (x ∷ l) last c g =
      let c' : T (follows before last x && chained before (some x) l) = subst T (chained_cons before last x l) c in
      back_then (item last) (λ y. items item (length l) (some y) >>= (λ rest. done (y ∷ rest))) (write x) (gather write l) x (x ∷ l)
      (h last x (and_left (follows before last x) (chained before (some x) l) c') (and_left (good x) (all good l) g))
      (subst (λ (m : List ℕ). ReadsBack (items item (length l) (some x) >>= (λ rest. done (x ∷ rest))) m (x ∷ l))
      (append-nil (gather write l))
      (back_then (items item (length l) (some x)) (λ rest. done (x ∷ rest)) (gather write l) [] l (x ∷ l)
      (back_items item h l (some x) (and_right (follows before last x) (chained before (some x) l) c') (and_right (good x) (all good l) g))
      (back_done (x ∷ l))))

-- a count within a size fits its field
count_fits_lem : (n most : ℕ) → most < 256 → n ≤ most → T (fits count_width n)
count_fits_lem n most h t = lt→ltb n (256 ^ count_width) (omega (arith, h))

-- ── own addresses

back_address : (last : Option ℕ) (n : ℕ) → T (follows ltb last n) → T (fits address_width n) → ReadsBack (read_address last) (write_number address_width n) n
unfolding read_address
back_address last n f g = back_field address_width (follows ltb last) n g f

back_own : (own : List ℕ) → T (shaped_own own) → T (own_fits own) → ReadsBack read_own (write_own own) own
unfolding read_own write_own shaped_own
back_own own s g =
    let few = and_left (leb (length own) most_own) (ascending ltb own) s in
    back_then (field count_width (λ n. leb n most_own)) (λ count. items read_address count none)
    (write_number count_width (length own)) (gather (write_number address_width) own) (length own) own
    (back_field count_width (λ n. leb n most_own) (length own) (count_fits_lem (length own) most_own (lit≤ tt) (leb→le (length own) most_own few)) few)
    (back_items ltb (fits address_width) (write_number address_width) read_address back_address own none
    (and_right (leb (length own) most_own) (ascending ltb own) s)
    g)

-- ── inputs

-- the rules on an input's two fields, from its place behind the input before it
input_rules : (last : Option Reference) (x : Reference) → T (follows before_reference last x) →
    T (follows input_number_follows last (serial_of x.number)) × T (follows (input_index_follows (serial_of x.number)) last x.index)
input_rules none x t = (tt, tt)
input_rules (some last) x t =
    subst (λ (n : Number). T (not (before_number n last.number)) × T (not (same_number n last.number) || ltb last.index x.index))
    (sym (number_of_serial x.number))
    (⊎_elim by_number by_index (before_reference_cases last x t))
  where
    by_number : T (before_number last.number x.number) → T (not (before_number x.number last.number)) × T (not (same_number x.number last.number) || ltb last.index x.index)
    by_number h = (
      not_T (before_number x.number last.number)
          (λ (k : T (before_number x.number last.number)).
          before_number_irrefl last.number (before_number_trans last.number x.number last.number h k)),
      or_left (not (same_number x.number last.number)) (ltb last.index x.index)
          (not_T (same_number x.number last.number)
          (λ (k : T (same_number x.number last.number)).
          before_number_irrefl last.number
          (subst (λ (n : Number). T (before_number last.number n)) (same_number_eq x.number last.number k) h))),
    )

    by_index : (last.number ≡ x.number) × (last.index < x.index) → T (not (before_number x.number last.number)) × T (not (same_number x.number last.number) || ltb last.index x.index)
    by_index h = (
      not_T (before_number x.number last.number)
          (λ (k : T (before_number x.number last.number)).
          before_number_irrefl x.number (subst (λ (n : Number). T (before_number x.number n)) h.0 k)),
      or_right (not (same_number x.number last.number)) (ltb last.index x.index) (lt→ltb last.index x.index h.1),
    )

back_input : (last : Option Reference) (x : Reference) → T (follows before_reference last x) → T (input_fits x) → ReadsBack (read_input last) (write_input x) x
unfolding read_input write_input input_fits number_fits
back_input last x f g =
    let rules = input_rules last x f in
    let n = serial_of x.number in
    let y : Reference = record { number = number_of n; index = x.index } in
    let e : y ≡ x = λ i. record { number = number_of_serial x.number i; index = x.index } in
    subst (λ (z : Reference). ReadsBack (read_input last) (write_input x) z) e
    (back_then (field number_width (follows input_number_follows last)) _ (write_number number_width n) (write_number index_width x.index ++ []) n y
    (back_field number_width (follows input_number_follows last) n (and_left (fits number_width n) (fits index_width x.index) g) rules.0)
    (back_then (field index_width (follows (input_index_follows n) last)) _ (write_number index_width x.index) [] x.index y
    (back_field index_width (follows (input_index_follows n) last) x.index (and_right (fits number_width n) (fits index_width x.index) g) rules.1)
    (back_done y)))

-- ── outputs

output_rule : (last : Option Output) (x : Output) → T (follows before_output last x) → T (follows output_index_follows last x.index)
output_rule none x t = tt
output_rule (some last) x t = t

-- an output that fits, its amount within the sizes
abbrev output_right : Output → Bool
output_right x = output_fits x && leb x.amount largest_amount

back_output : (last : Option Output) (x : Output) → T (follows before_output last x) → T (output_right x) → ReadsBack (read_output last) (write_output x) x
unfolding read_output write_output output_fits
back_output last x f g =
    let tests : List Bool = fits index_width x.index ∷ fits address_width x.address ∷ fits amount_width x.amount ∷ [] in
    let fit : T (every tests) = and_left (every tests) (leb x.amount largest_amount) g in
    back_then (field index_width (follows output_index_follows last)) _
    (write_number index_width x.index) (write_number address_width x.address ++ (write_number amount_width x.amount ++ [])) x.index x
    (back_field index_width (follows output_index_follows last) x.index (every_at tests 0 fit) (output_rule last x f))
    (back_then (field address_width any_number) _ (write_number address_width x.address) (write_number amount_width x.amount ++ []) x.address x
    (back_field address_width any_number x.address (every_at tests 1 fit) tt)
    (back_then (field amount_width (λ v. leb v largest_amount)) _ (write_number amount_width x.amount) [] x.amount x
    (back_field amount_width (λ v. leb v largest_amount) x.amount (every_at tests 2 fit) (and_right (every tests) (leb x.amount largest_amount) g))
    (back_done x)))

-- ── transactions

transaction_rule : (last : Option Transaction) (t : Transaction) → T (follows before_transaction last t) → T (follows number_follows last (serial_of t.number))
transaction_rule none t h = tt
transaction_rule (some last) t h = subst (λ (n : Number). T (before_number last.number n)) (sym (number_of_serial t.number)) h

-- a transaction that fits and is shaped
abbrev transaction_right : Transaction → Bool
transaction_right t = transaction_fits t && shaped_transaction t

back_transaction : (last : Option Transaction) (t : Transaction) → T (follows before_transaction last t) → T (transaction_right t) → ReadsBack (read_transaction last) (write_transaction t) t
unfolding read_transaction write_transaction transaction_fits number_fits
back_transaction last t f g =
    let ins = t.inputs in
    let outs = t.outputs in
    let fitting : List Bool = fits number_width (serial_of t.number) ∷ all input_fits ins ∷ all output_fits outs ∷ [] in
    let fit : T (every fitting) = and_left (every fitting) (shaped_transaction t) g in
    let shape = shaped_facts t (and_right (every fitting) (shaped_transaction t) g) in
    let right : T (all output_right outs) =
    all_intro output_right outs
    (λ o m.
    and_both (output_fits o) (leb o.amount largest_amount) (all_elim output_fits (every_at fitting 2 fit) m)
    (all_elim (λ (u : Output). leb u.amount largest_amount) shape.amounts_fit m))
    in
    let input_count_right : ℕ → Bool = λ k. leb fewest_inputs k && leb k most_inputs in
    let n = serial_of t.number in
    let u : Transaction = record { number = number_of n; inputs = ins; outputs = outs } in
    let e : u ≡ t = λ i. record { number = number_of_serial t.number i; inputs = ins; outputs = outs } in
    let w₂ = write_number count_width (length ins) in
    let w₃ = write_number count_width (length outs) in
    let w₄ = gather write_input ins in
    let w₅ = gather write_output outs in
    subst (λ (z : Transaction). ReadsBack (read_transaction last) (write_transaction t) z) e
    (back_then (field number_width (follows number_follows last)) _ (write_number number_width n) (w₂ ++ (w₃ ++ (w₄ ++ (w₅ ++ [])))) n u
    (back_field number_width (follows number_follows last) n (every_at fitting 0 fit) (transaction_rule last t f))
    (back_then (field count_width input_count_right) _ w₂ (w₃ ++ (w₄ ++ (w₅ ++ []))) (length ins) u
    (back_field count_width input_count_right (length ins) (count_fits_lem (length ins) most_inputs (lit≤ tt) shape.inputs_fit)
    (and_both (leb fewest_inputs (length ins)) (leb (length ins) most_inputs) (le→leb fewest_inputs (length ins) shape.enough_inputs) (le→leb (length ins) most_inputs shape.inputs_fit)))
    (back_then (field count_width (λ k. leb k most_outputs)) _ w₃ (w₄ ++ (w₅ ++ [])) (length outs) u
    (back_field count_width (λ k. leb k most_outputs) (length outs) (count_fits_lem (length outs) most_outputs (lit≤ tt) shape.outputs_fit) (le→leb (length outs) most_outputs shape.outputs_fit))
    (back_then (items read_input (length ins) none) _ w₄ (w₅ ++ []) ins u
    (back_items before_reference input_fits write_input read_input back_input ins none shape.inputs_ascend (every_at fitting 1 fit))
    (back_then (items read_output (length outs) none) _ w₅ [] outs u
    (back_items before_output output_right write_output read_output back_output outs none shape.outputs_ascend right)
    (back_done u))))))

-- ── blocks and payments

back_block : (b : Block) → T (shaped_block b) → T (block_fits b) → ReadsBack read_block (write_block b) b
unfolding read_block write_block
back_block b s g =
    let shape = shaped_block_facts b s in
    let right : T (all transaction_right b) =
    all_intro transaction_right b
    (λ t m. and_both (transaction_fits t) (shaped_transaction t) (all_elim transaction_fits g m) (all_elim shaped_transaction shape.each_shaped m))
    in
    back_then (field count_width (λ n. leb n most_transactions)) (λ count. items read_transaction count none)
    (write_number count_width (length b)) (gather write_transaction b) (length b) b
    (back_field count_width (λ n. leb n most_transactions) (length b) (count_fits_lem (length b) most_transactions (lit≤ tt) shape.block_fits) (le→leb (length b) most_transactions shape.block_fits))
    (back_items before_transaction transaction_right write_transaction read_transaction back_transaction b none shape.block_ascends right)

back_payment : (t : Transaction) → T (shaped_transaction t) → T (transaction_fits t) → ReadsBack read_payment (write_payment t) t
unfolding read_payment
back_payment t s g = back_transaction none t tt (and_both (transaction_fits t) (shaped_transaction t) g s)

-- ── whole bodies

module _ {A : Type 0} where
  -- what is read back from a writing alone uses it up
  back_whole : (body : A → Body) (r : Reader A) (written : List ℕ) (x : A) → ReadsBack r written x → whole body r written ≡ body x
  back_whole body r written x h =
      let c = h written 0 [] (sym (append-nil written), omega arith) in
      let end : c.0 ≡ length written =
      omega (arith, c.2.1, length-drop c.0 written, ap (λ (l : List ℕ). length l) c.2.0)
      in
      ap (λ (m : Reading A). used_up body written m) c.1
      ∙ cond_true (eqb c.0 (length written)) (body x) (fault_at c.0)
      (equal_holds c.0 (length written) end)

-- ── the laws

-- An own list, written and read.
pub own_read_written : (own : List ℕ) → T (shaped_own own) → T (own_fits own) → read_body own_kind (write_own own) ≡ own_body own
unfolding read_body
own_read_written own s g = back_whole own_body read_own (write_own own) own (back_own own s g)

-- A block, written and read.
pub block_read_written : (b : Block) → T (shaped_block b) → T (block_fits b) → read_body block_kind (write_block b) ≡ block_body b
unfolding read_body
block_read_written b s g = back_whole block_body read_block (write_block b) b (back_block b s g)

-- A payment, written and read.
pub payment_read_written : (t : Transaction) → T (shaped_transaction t) → T (transaction_fits t) → read_body pay_kind (write_payment t) ≡ pay_body t
unfolding read_body
payment_read_written t s g = back_whole pay_body read_payment (write_payment t) t (back_payment t s g)
