-- What a reading was of: a body that is read well is shaped as the rules want it, and its bytes are exactly the writing
-- of what was read.
use Rattle.std.specs.Prelude.{◌≡◌, refl, Bool, true, false, not, cond, ◌&&◌, List, [], ◌++◌, ℕ, T, eqb, leb, ltb, length, drop}
use Rattle.std.proofs.Common.{sym, ap, subst, ◌∙◌, ⊎_elim, append-nil, arith, T_not, eqb→eq, leb→le, ltb→lt, drop_of_length-le}
use Rattle.std.proofs.Math.Option.{Option, none, some}
use Rattle.sets.specs.Sets.{all, ascending, gather}
use Rattle.sets.specs.Tests.{and_left, and_right, and_both, or_cases, T-cases, cond_true, cond_false}
use Rattle.rules.specs.declared.Number.{Number}
use Rattle.rules.specs.declared.Reference.{Reference}
use Rattle.rules.specs.declared.Output.{Output}
use Rattle.rules.specs.Sizes.{largest_amount, most_own, fewest_inputs, most_inputs, most_outputs, most_transactions}
use Rattle.rules.specs.Chain.{same_number, before_number, before_reference, before_output, before_transaction, Transaction, Block, shaped_transaction, shaped_block, shaped_own}
use Rattle.rules.specs.ShapeLaws.{shaped, shaped_block_lem}
use Rattle.rules.specs.ChainLaws.{same_number_eq, before_number_total, before_reference_number, before_reference_index}
use Rattle.format.specs.Fields.{Reading, got, fault, Reader, field, any_number, done, follows, items}
use Rattle.format.specs.Bodies.{count_width, index_width, address_width, amount_width, number_width, number_of, serial_of, input_number_follows, input_index_follows, output_index_follows, number_follows, read_address, read_own, read_input, read_output, read_transaction, read_block, read_payment, Body, own_body, block_body, pay_body, back_body, fault_at, own_kind, block_kind, pay_kind, back_kind, used_up, whole, read_body, body_answer}
use Rattle.format.specs.Writing.{write_number, write_input, write_output, write_transaction, write_own, write_block, write_payment, write_body, is_byte}
use Rattle.format.specs.Numbers.{serial_of_number}
use Rattle.format.specs.Readers.{Outcome}
use Rattle.format.proofs.Parts.{Spelled, spelled_join, Reads, reads_done, reads_map, reads_then, FieldOf, reads_field, ItemOf, ItemsOf, reads_items, anything}

-- ── own addresses

reads_address : (last : Option ℕ) → Reads (read_address last) (ItemOf ltb anything (write_number address_width) last)
unfolding read_address
reads_address last =
    reads_map (FieldOf address_width (follows ltb last)) (ItemOf ltb anything (write_number address_width) last)
    (field address_width (follows ltb last)) (reads_field address_width (follows ltb last)) (λ n l c. (c.0, tt, c.1))

abbrev OwnOf : List ℕ → List ℕ → Type 0
OwnOf own part = T (shaped_own own) × Spelled part (write_own own)

reads_own : Reads read_own OwnOf
unfolding read_own shaped_own write_own
reads_own =
    reads_then (FieldOf count_width (λ n. leb n most_own)) OwnOf (field count_width (λ n. leb n most_own)) (λ count. items read_address count none)
    (reads_field count_width (λ n. leb n most_own))
    (λ count l c.
    reads_map (ItemsOf ltb anything (write_number address_width) count none) (λ own m. OwnOf own (l ++ m)) (items read_address count none)
    (reads_items ltb anything (write_number address_width) read_address reads_address count none)
    (λ own m d.
    let c' = subst (λ (n : ℕ). FieldOf count_width (λ k. leb k most_own) n l) (sym d.0) c in (
      and_both (leb (length own) most_own) (ascending ltb own) c'.0 d.1,
      spelled_join l m (write_number count_width (length own)) (gather (write_number address_width) own) c'.1 d.3,
    )))

-- ── inputs

-- the two rules on an input's fields say that it is behind the input before it
input_follows : (last : Option Reference) (n i : ℕ) → T (follows input_number_follows last n) → T (follows (input_index_follows n) last i) → T (follows before_reference last (record { number = number_of n; index = i }))
input_follows none n i s t = tt
input_follows (some last) n i s t =
    ⊎_elim
    (λ (h : T (before_number last.number (number_of n))). before_reference_number last (record { number = number_of n; index = i }) h)
    (λ (h : T (not (before_number last.number (number_of n)))).
    let same : T (same_number (number_of n) last.number) = before_number_total (number_of n) last.number s h in
    ⊎_elim
    (λ (k : T (not (same_number (number_of n) last.number))). absurd (T_not (same_number (number_of n) last.number) k same))
    (λ (k : T (ltb last.index i)).
    before_reference_index last (record { number = number_of n; index = i }) (sym (same_number_eq (number_of n) last.number same)) (ltb→lt last.index i k))
    (or_cases (not (same_number (number_of n) last.number)) (ltb last.index i) t))
    (T-cases (before_number last.number (number_of n)))

-- the part of a number's field is the number written
number_spelled : (n : ℕ) (part : List ℕ) → Spelled part (write_number number_width n) → Spelled part (write_number number_width (serial_of (number_of n)))
number_spelled n part s = subst (λ (k : ℕ). Spelled part (write_number number_width k)) (sym (serial_of_number n)) s

reads_input : (last : Option Reference) → Reads (read_input last) (ItemOf before_reference anything write_input last)
unfolding read_input write_input
reads_input last =
    reads_then (FieldOf number_width (follows input_number_follows last)) (ItemOf before_reference anything write_input last)
    (field number_width (follows input_number_follows last)) _ (reads_field number_width (follows input_number_follows last))
    (λ n l c.
    reads_then (FieldOf index_width (follows (input_index_follows n) last)) (λ y m. ItemOf before_reference anything write_input last y (l ++ m))
    (field index_width (follows (input_index_follows n) last)) _ (reads_field index_width (follows (input_index_follows n) last))
    (λ i m d.
    reads_done (λ y k. ItemOf before_reference anything write_input last y (l ++ (m ++ k))) (record { number = number_of n; index = i }) (
      input_follows last n i c.0 d.0,
      tt,
      spelled_join l (m ++ []) (write_number number_width (serial_of (number_of n))) (write_number index_width i ++ []) (number_spelled n l c.1)
          (spelled_join m [] (write_number index_width i) [] d.1 (λ b. refl)),
    )))

-- ── outputs

-- an output's amount is within the sizes
abbrev amount_right : Output → Bool
amount_right o = leb o.amount largest_amount

output_follows : (last : Option Output) (o : Output) → T (follows output_index_follows last o.index) → T (follows before_output last o)
output_follows none o t = tt
output_follows (some last) o t = t

reads_output : (last : Option Output) → Reads (read_output last) (ItemOf before_output amount_right write_output last)
unfolding read_output write_output
reads_output last =
    reads_then (FieldOf index_width (follows output_index_follows last)) (ItemOf before_output amount_right write_output last)
    (field index_width (follows output_index_follows last)) _ (reads_field index_width (follows output_index_follows last))
    (λ i l c.
    reads_then (FieldOf address_width any_number) (λ y m. ItemOf before_output amount_right write_output last y (l ++ m))
    (field address_width any_number) _ (reads_field address_width any_number)
    (λ a m d.
    reads_then (FieldOf amount_width (λ v. leb v largest_amount)) (λ y k. ItemOf before_output amount_right write_output last y (l ++ (m ++ k)))
    (field amount_width (λ v. leb v largest_amount)) _ (reads_field amount_width (λ v. leb v largest_amount))
    (λ v k e.
    let o : Output = record { index = i; address = a; amount = v } in
    reads_done (λ y j. ItemOf before_output amount_right write_output last y (l ++ (m ++ (k ++ j)))) o (
      output_follows last o c.0,
      e.0,
      spelled_join l (m ++ (k ++ [])) (write_number index_width i) (write_number address_width a ++ (write_number amount_width v ++ [])) c.1
          (spelled_join m (k ++ []) (write_number address_width a) (write_number amount_width v ++ []) d.1
          (spelled_join k [] (write_number amount_width v) [] e.1 (λ b. refl))),
    ))))

-- ── transactions

transaction_follows : (last : Option Transaction) (t : Transaction) (n : ℕ) → t.number ≡ number_of n → T (follows number_follows last n) → T (follows before_transaction last t)
transaction_follows none t n e h = tt
transaction_follows (some last) t n e h = subst (λ (k : Number). T (before_number last.number k)) (sym e) h

abbrev TransactionOf : Option Transaction → Transaction → List ℕ → Type 0
TransactionOf last t part = ItemOf before_transaction shaped_transaction write_transaction last t part

-- the rules on the counts
abbrev input_count_right : ℕ → Bool
input_count_right k = leb fewest_inputs k && leb k most_inputs

abbrev output_count_right : ℕ → Bool
output_count_right k = leb k most_outputs

transaction_shaped : (n : Number) (inputs : List Reference) (outputs : List Output) →
    T (input_count_right (length inputs)) → T (output_count_right (length outputs)) → T (ascending before_reference inputs) → T (ascending before_output outputs) → T (all amount_right outputs) →
    T (shaped_transaction (record { number = n; inputs = inputs; outputs = outputs }))
transaction_shaped n inputs outputs i o a b v =
    let few = leb fewest_inputs (length inputs) in
    let many = leb (length inputs) most_inputs in
    shaped (record { number = n; inputs = inputs; outputs = outputs }) (record {
      enough_inputs = leb→le fewest_inputs (length inputs) (and_left few many i);
      inputs_fit = leb→le (length inputs) most_inputs (and_right few many i);
      outputs_fit = leb→le (length outputs) most_outputs o;
      inputs_ascend = a;
      outputs_ascend = b;
      amounts_fit = v;
    })

reads_transaction : (last : Option Transaction) → Reads (read_transaction last) (TransactionOf last)
unfolding read_transaction write_transaction
reads_transaction last =
    reads_then (FieldOf number_width (follows number_follows last)) (TransactionOf last)
    (field number_width (follows number_follows last)) _ (reads_field number_width (follows number_follows last))
    (λ n l₁ c₁.
    reads_then (FieldOf count_width input_count_right) (λ y m. TransactionOf last y (l₁ ++ m))
    (field count_width input_count_right) _ (reads_field count_width input_count_right)
    (λ input_count l₂ c₂.
    reads_then (FieldOf count_width output_count_right) (λ y m. TransactionOf last y (l₁ ++ (l₂ ++ m)))
    (field count_width output_count_right) _ (reads_field count_width output_count_right)
    (λ output_count l₃ c₃.
    reads_then (ItemsOf before_reference anything write_input input_count none) (λ y m. TransactionOf last y (l₁ ++ (l₂ ++ (l₃ ++ m))))
    (items read_input input_count none) _ (reads_items before_reference anything write_input read_input reads_input input_count none)
    (λ inputs l₄ c₄.
    reads_then (ItemsOf before_output amount_right write_output output_count none) (λ y m. TransactionOf last y (l₁ ++ (l₂ ++ (l₃ ++ (l₄ ++ m)))))
    (items read_output output_count none) _ (reads_items before_output amount_right write_output read_output reads_output output_count none)
    (λ outputs l₅ c₅.
    let t : Transaction = record { number = number_of n; inputs = inputs; outputs = outputs } in
    let d₂ = subst (λ (k : ℕ). FieldOf count_width input_count_right k l₂) (sym c₄.0) c₂ in
    let d₃ = subst (λ (k : ℕ). FieldOf count_width output_count_right k l₃) (sym c₅.0) c₃ in
    let w₂ = write_number count_width (length inputs) in
    let w₃ = write_number count_width (length outputs) in
    let w₄ = gather write_input inputs in
    let w₅ = gather write_output outputs in
    reads_done (λ y m. TransactionOf last y (l₁ ++ (l₂ ++ (l₃ ++ (l₄ ++ (l₅ ++ m)))))) t (
      transaction_follows last t n refl c₁.0,
      transaction_shaped (number_of n) inputs outputs d₂.0 d₃.0 c₄.1 c₅.1 c₅.2,
      spelled_join l₁ (l₂ ++ (l₃ ++ (l₄ ++ (l₅ ++ [])))) (write_number number_width (serial_of (number_of n))) (w₂ ++ (w₃ ++ (w₄ ++ (w₅ ++ [])))) (number_spelled n l₁ c₁.1)
          (spelled_join l₂ (l₃ ++ (l₄ ++ (l₅ ++ []))) w₂ (w₃ ++ (w₄ ++ (w₅ ++ []))) d₂.1
          (spelled_join l₃ (l₄ ++ (l₅ ++ [])) w₃ (w₄ ++ (w₅ ++ [])) d₃.1
          (spelled_join l₄ (l₅ ++ []) w₄ (w₅ ++ []) c₄.3
          (spelled_join l₅ [] w₅ [] c₅.3 (λ b. refl))))),
    ))))))

-- ── blocks and payments

abbrev BlockOf : Block → List ℕ → Type 0
BlockOf b part = T (shaped_block b) × Spelled part (write_block b)

reads_block : Reads read_block BlockOf
unfolding read_block write_block
reads_block =
    reads_then (FieldOf count_width (λ n. leb n most_transactions)) BlockOf (field count_width (λ n. leb n most_transactions)) (λ count. items read_transaction count none)
    (reads_field count_width (λ n. leb n most_transactions))
    (λ count l c.
    reads_map (ItemsOf before_transaction shaped_transaction write_transaction count none) (λ b m. BlockOf b (l ++ m)) (items read_transaction count none)
    (reads_items before_transaction shaped_transaction write_transaction read_transaction reads_transaction count none)
    (λ b m d.
    let c' = subst (λ (n : ℕ). FieldOf count_width (λ k. leb k most_transactions) n l) (sym d.0) c in (
      shaped_block_lem b (record { block_fits = leb→le (length b) most_transactions c'.0; each_shaped = d.2; block_ascends = d.1 }),
      spelled_join l m (write_number count_width (length b)) (gather write_transaction b) c'.1 d.3,
    )))

abbrev PaymentOf : Transaction → List ℕ → Type 0
PaymentOf t part = T (shaped_transaction t) × Spelled part (write_payment t)

reads_payment : Reads read_payment PaymentOf
unfolding read_payment
reads_payment =
    reads_map (TransactionOf none) PaymentOf (read_transaction none) (reads_transaction none) (λ t l c. (c.1, c.2))

-- ── whole bodies

-- what was read of a whole body: shaped, and the bytes are the body written
abbrev BodyOf : List ℕ → Body → Type 0
BodyOf bytes (own_body own) = OwnOf own bytes
BodyOf bytes (block_body b) = BlockOf b bytes
BodyOf bytes (pay_body t) = PaymentOf t bytes
BodyOf bytes back_body = Spelled bytes []
BodyOf bytes (fault_at p) = Unit {0}

module _ {A : Type 0} (body : A → Body) (R : A → List ℕ → Type 0) (same : (x : A) (bytes : List ℕ) → R x bytes → BodyOf bytes (body x)) where
  whole_body : (r : Reader A) → Reads r R → (bytes : List ℕ) → BodyOf bytes (whole body r bytes)
  whole_body r h bytes = used (r bytes 0) (h bytes 0)
    where
      used : (m : Reading A) → Outcome (λ x next. (part : List ℕ) × (drop 0 bytes ≡ part ++ drop next bytes) × R x part) (λ p. Unit {0}) m → BodyOf bytes (used_up body bytes m)
      used (got x next) c =
          ⊎_elim
          (λ (t : T (eqb next (length bytes))).
          let end : drop next bytes ≡ [] = drop_of_length-le bytes {i = next} (omega (arith, eqb→eq next (length bytes) t)) in
          let e : bytes ≡ c.0 = c.1 ∙ ap (λ (m : List ℕ). c.0 ++ m) end ∙ append-nil c.0 in
          subst (λ (b : Body). BodyOf bytes b)
          (sym (cond_true (eqb next (length bytes)) (body x) (fault_at next) t))
          (same x bytes (subst (λ (m : List ℕ). R x m) (sym e) c.2)))
          (λ (t : T (not (eqb next (length bytes)))).
          subst (λ (b : Body). BodyOf bytes b)
          (sym (cond_false (eqb next (length bytes)) (body x) (fault_at next) t))
          tt)
          (T-cases (eqb next (length bytes)))
      used (fault p) c = tt

body_cond : (bytes : List ℕ) (t : Bool) (u v : Body) → BodyOf bytes u → BodyOf bytes v → BodyOf bytes (cond t u v)
body_cond bytes true u v a b = a
body_cond bytes false u v a b = b

body_of : (kind : ℕ) (bytes : List ℕ) → BodyOf bytes (read_body kind bytes)
unfolding read_body
body_of kind bytes =
    body_cond bytes (eqb kind own_kind) (whole own_body read_own bytes) _ (whole_body own_body OwnOf (λ x l c. c) read_own reads_own bytes)
    (body_cond bytes (eqb kind block_kind) (whole block_body read_block bytes) _ (whole_body block_body BlockOf (λ x l c. c) read_block reads_block bytes)
    (body_cond bytes (eqb kind pay_kind) (whole pay_body read_payment bytes) _ (whole_body pay_body PaymentOf (λ x l c. c) read_payment reads_payment bytes)
    (body_cond bytes (eqb kind back_kind) (whole (λ (u : Unit {0}). back_body) (done tt) bytes) (fault_at 0)
    (whole_body (λ (u : Unit {0}). back_body) (λ u l. Spelled l []) (λ x l c. c) (done tt) (reads_done {A = Unit {0}} (λ u l. Spelled l []) tt (λ b. refl)) bytes)
    tt)))

-- ── the laws

-- Written and read: the bytes of a body that is read without a fault are exactly the writing of what was read.
pub written_read : (kind : ℕ) (bytes : List ℕ) → T (all is_byte bytes) → body_answer (read_body kind bytes) ≡ 0 → bytes ≡ write_body (read_body kind bytes)
written_read kind bytes h e = spells (read_body kind bytes) (body_of kind bytes) e
  where
    spells : (b : Body) → BodyOf bytes b → body_answer b ≡ 0 → bytes ≡ write_body b
    spells (own_body own) c d = c.1 h
    spells (block_body b) c d = c.1 h
    spells (pay_body t) c d = c.1 h
    spells back_body c d = c h
    spells (fault_at p) c d = let never : ⊥ = omega arith in absurd never

-- What is read is shaped.
pub own_shaped : (kind : ℕ) (bytes own : List ℕ) → read_body kind bytes ≡ own_body own → T (shaped_own own)
own_shaped kind bytes own e = (subst (λ (b : Body). BodyOf bytes b) e (body_of kind bytes)).0

pub block_shaped : (kind : ℕ) (bytes : List ℕ) (b : Block) → read_body kind bytes ≡ block_body b → T (shaped_block b)
block_shaped kind bytes b e = (subst (λ (c : Body). BodyOf bytes c) e (body_of kind bytes)).0

pub payment_shaped : (kind : ℕ) (bytes : List ℕ) (t : Transaction) → read_body kind bytes ≡ pay_body t → T (shaped_transaction t)
payment_shaped kind bytes t e = (subst (λ (b : Body). BodyOf bytes b) e (body_of kind bytes)).0
