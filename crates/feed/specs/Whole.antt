-- Whole bodies: a reading that is used up exactly, as the code tests it; a count and so many items; and the kinds.
use Rattle.std.specs.Prelude.{◌≡◌, refl, Bool, true, false, cond, List, map, ℕ, T, eqb, leb, length}
use Rattle.std.proofs.Common.{sym, ap, ap₂, ◌∙◌, eqb→eq, eq-eqb, ne_eqb}
use Rattle.std.proofs.lemmas.List.{length-map}
use Rattle.std.proofs.Math.Option.{Option, none}
use Rattle.chain.specs.View.{zero_transaction}
use Rattle.rules.specs.Sizes.{most_own, most_transactions}
use Rattle.rules.specs.Chain as Chain
use Rattle.format.specs.Fields.{Reading, got, fault, Reader, field, onward, ◌>>=◌, items}
use Rattle.format.specs.Bodies.{Body, own_body, block_body, pay_body, back_body, fault_at, own_kind, block_kind, pay_kind, back_kind, count_width, used_up, read_address, read_transaction, read_own, read_block, read_payment, read_body, body_answer, body_place}
use Rattle.sets.specs.Fill.{filled}
use Rattle.feed.specs.Items.{items_length}
use Rattle.feed.specs.Transactions.{struct_items}
use Rattle.feed.specs.Structs.{struct_reader, answered, valued, struct_of, formed, list_and_count, read_as}
use Rattle.feed.specs.Bodies.{own_struct, no_own, block_of, no_block, own_reading, block_reading, pay_reading, bare, fault_or, body_read, answer_number, answer_place}
use Rattle.chain.specs.declared.Transaction.{Transaction}
use Rattle.chain.specs.declared.Block.{Block}
use Rattle.feed.specs.declared.bodies.BodyRead.{BodyRead}
use Rattle.feed.specs.declared.bodies.Body.TheVariants as Is

-- ── used up exactly

module _ {A : Type 0} where
  -- a reading that has to end at a place
  abbrev pub exactly : ℕ → Reading A → Reading A
  exactly size (got x next) = cond (eqb next size) (got x next) (fault next)
  exactly size (fault place) = fault place

  -- a body of one kind, taken out again
  taken_out : (body : A → Body) (out : Body → Reading A) (bytes : List ℕ) → ((x : A) → out (body x) ≡ got x (length bytes)) →
      ((p : ℕ) → out (fault_at p) ≡ fault p) → (m : Reading A) → out (used_up body bytes m) ≡ exactly (length bytes) m
  taken_out body out bytes f g (got x next) =
      (elim (eqb next (length bytes)) as
      (λ b. (T b → next ≡ length bytes) → out (cond b (body x) (fault_at next)) ≡ cond b (got x next) (fault next))
      [ true ↦ λ h. f x ∙ ap (λ (k : ℕ). got x k) (sym (h tt)) | false ↦ λ h. g next ])
      (eqb→eq next (length bytes))
  taken_out body out bytes f g (fault p) = g p

pub own_exact : (bytes : List ℕ) → own_reading (length bytes) (read_body own_kind bytes) ≡ exactly (length bytes) (read_own bytes 0)
unfolding read_body
own_exact bytes = taken_out own_body (own_reading (length bytes)) bytes (λ (x : List ℕ). refl) (λ (p : ℕ). refl) (read_own bytes 0)

pub block_exact : (bytes : List ℕ) → block_reading (length bytes) (read_body block_kind bytes) ≡ exactly (length bytes) (read_block bytes 0)
unfolding read_body
block_exact bytes = taken_out block_body (block_reading (length bytes)) bytes (λ (x : Chain.Block). refl) (λ (p : ℕ). refl) (read_block bytes 0)

pub pay_exact : (bytes : List ℕ) → pay_reading (length bytes) (read_body pay_kind bytes) ≡ exactly (length bytes) (read_transaction none bytes 0)
unfolding read_body read_payment
pay_exact bytes = taken_out pay_body (pay_reading (length bytes)) bytes (λ (x : Chain.Transaction). refl) (λ (p : ℕ). refl) (read_transaction none bytes 0)

-- ── the paper's number and place of an answer

module _ {A : Type 0} where
  told : (body : A → Body) (bytes : List ℕ) → ((x : A) → (body_answer (body x) ≡ 0) × (body_place (body x) ≡ 0)) → (m : Reading A) →
      (answer_number (answered (exactly (length bytes) m)) ≡ body_answer (used_up body bytes m))
      × (answer_place (answered (exactly (length bytes) m)) ≡ body_place (used_up body bytes m))
  told body bytes f (got x next) =
      elim (eqb next (length bytes)) as
      (λ b. (answer_number (answered (cond b (got x next) (fault next))) ≡ body_answer (cond b (body x) (fault_at next)))
      × (answer_place (answered (cond b (got x next) (fault next))) ≡ body_place (cond b (body x) (fault_at next))))
      [ true ↦ (sym (f x).0, sym (f x).1) | false ↦ (refl, refl) ]
  told body bytes f (fault p) = (refl, refl)

  moved : (bytes : List ℕ) (b : Body) (m n : Reading A) → m ≡ n →
      (answer_number (answered n) ≡ body_answer b) × (answer_place (answered n) ≡ body_place b) →
      (answer_number (answered m) ≡ body_answer b) × (answer_place (answered m) ≡ body_place b)
  moved bytes b m n e h = (ap (λ (r : Reading A). answer_number (answered r)) e ∙ h.0, ap (λ (r : Reading A). answer_place (answered r)) e ∙ h.1)

-- The answer of `read_own`, as the paper's number and place.
pub own_told : (bytes : List ℕ) →
    (answer_number (answered (own_reading (length bytes) (read_body own_kind bytes))) ≡ body_answer (read_body own_kind bytes))
    × (answer_place (answered (own_reading (length bytes) (read_body own_kind bytes))) ≡ body_place (read_body own_kind bytes))
unfolding read_body
own_told bytes =
    moved bytes (read_body own_kind bytes) (own_reading (length bytes) (read_body own_kind bytes)) (exactly (length bytes) (read_own bytes 0)) (own_exact bytes)
    (told own_body bytes (λ (x : List ℕ). (refl, refl)) (read_own bytes 0))

-- The answer of `read_block`.
pub block_told : (bytes : List ℕ) →
    (answer_number (answered (block_reading (length bytes) (read_body block_kind bytes))) ≡ body_answer (read_body block_kind bytes))
    × (answer_place (answered (block_reading (length bytes) (read_body block_kind bytes))) ≡ body_place (read_body block_kind bytes))
unfolding read_body
block_told bytes =
    moved bytes (read_body block_kind bytes) (block_reading (length bytes) (read_body block_kind bytes)) (exactly (length bytes) (read_block bytes 0)) (block_exact bytes)
    (told block_body bytes (λ (x : Chain.Block). (refl, refl)) (read_block bytes 0))

-- The answer of `read_payment`.
pub pay_told : (bytes : List ℕ) →
    (answer_number (answered (pay_reading (length bytes) (read_body pay_kind bytes))) ≡ body_answer (read_body pay_kind bytes))
    × (answer_place (answered (pay_reading (length bytes) (read_body pay_kind bytes))) ≡ body_place (read_body pay_kind bytes))
unfolding read_body read_payment
pay_told bytes =
    moved bytes (read_body pay_kind bytes) (pay_reading (length bytes) (read_body pay_kind bytes)) (exactly (length bytes) (read_transaction none bytes 0)) (pay_exact bytes)
    (told pay_body bytes (λ (x : Chain.Transaction). (refl, refl)) (read_transaction none bytes 0))

-- ── a count, then so many items

module _ {A : Type 0} (most : ℕ) (item : Option A → Reader A) where
  abbrev pub counted : Reader (List A)
  counted = do
    count ← field count_width (λ n. leb n most)
    items item count none

  -- the count and the items were read
  pub counted_read : (z : A) (bytes : List ℕ) (n at next : ℕ) (l held : List A) → got n at ≡ field count_width (λ k. leb k most) bytes 0 →
      items item n none bytes at ≡ got l next → held ≡ filled most z l → got (held, n) next ≡ formed (list_and_count most z) (counted bytes 0)
  counted_read z bytes n at next l held e f g =
      let k = items_length item bytes n none at l next f in
      (λ i. got (g i, sym k i) next) ∙ rw (← e, f) refl

-- ── a list behind its count, in its struct

-- a form of a form
formed_again : {A B C : Type 0} (f : A → B) (g : B → C) (m : Reading A) (r : Reading B) → r ≡ formed f m → formed g r ≡ formed (λ x. g (f x)) m
formed_again f g (got x next) r e = ap (formed g) e
formed_again f g (fault p) r e = ap (formed g) e

pub own_formed : (bytes : List ℕ) (r : Reading (List ℕ × ℕ)) → r ≡ formed (list_and_count most_own 0) (counted most_own read_address bytes 0) →
    formed (λ x. record { addresses = x.0; count = x.1 }) r ≡ formed own_struct (read_own bytes 0)
unfolding read_own
own_formed bytes r e = formed_again (list_and_count most_own 0) (λ x. record { addresses = x.0; count = x.1 }) (counted most_own read_address bytes 0) r e

-- a block's transactions in their structs
counted_structs : (bytes : List ℕ) → counted most_transactions struct_reader bytes 0 ≡ formed (map struct_of) (counted most_transactions read_transaction bytes 0)
counted_structs bytes = here (field count_width (λ n. leb n most_transactions) bytes 0)
  where
    here : (r : Reading ℕ) →
        onward r (λ n at. items struct_reader n none bytes at) ≡ formed (map struct_of) (onward r (λ n at. items read_transaction n none bytes at))
    here (got n at) = struct_items n none bytes at
    here (fault p) = refl

pub block_formed : (z : Transaction) (bytes : List ℕ) (r : Reading (List Transaction × ℕ)) → z ≡ zero_transaction →
    r ≡ formed (list_and_count most_transactions z) (counted most_transactions struct_reader bytes 0) →
    formed (λ x. record { transactions = x.0; count = x.1 }) r ≡ formed block_of (read_block bytes 0)
unfolding read_block
block_formed z bytes r e f =
    formed_again (list_and_count most_transactions z) (λ x. record { transactions = x.0; count = x.1 }) (counted most_transactions struct_reader bytes 0) r f
    ∙ ap (formed (struct z)) (counted_structs bytes)
    ∙ here (read_block bytes 0)
  where
    struct : Transaction → List Transaction → Block
    struct x l = record { transactions = filled most_transactions x l; count = length l }

    here : (m : Reading Chain.Block) → formed (struct z) (formed (map struct_of) m) ≡ formed block_of m
    here (got b next) = λ i. got (record { transactions = filled most_transactions (e i) (map struct_of b); count = length-map b struct_of i }) next
    here (fault p) = refl

-- ── what the code makes of a whole body

module _ {A S : Type 0} (form : A → S) (z : S) (size : ℕ) where
  end_of : (m : Reading A) → read_as (λ x. x) z (exactly size (formed form m)) ≡ read_as form z (exactly size m)
  end_of (got x next) =
      elim (eqb next size) as
      (λ b. read_as (λ x. x) z (cond b (got (form x) next) (fault next)) ≡ read_as form z (cond b (got x next) (fault next)))
      [ true ↦ refl | false ↦ refl ]
  end_of (fault p) = refl

  -- the struct beside its answer, where the body has to end with what it holds
  pub whole_read : (m body : Reading A) (zero : S) (r : Reading S) → zero ≡ z → r ≡ formed form m → body ≡ exactly size m →
      read_as (λ x. x) zero (exactly size r) ≡ read_as form z body
  whole_read m body zero r e f g =
      ap₂ (λ (x : S) (y : Reading S). read_as (λ x. x) x (exactly size y)) e f ∙ end_of m ∙ ap (read_as form z) (sym g)

-- ── the kinds

-- a body of one kind, shown by its answer and its value
module _ {A : Type 0} (bytes : List ℕ) where
  shown : (body : A → Body) (show : Reading A → BodyRead) → ((x : A) (next : ℕ) → show (got x next) ≡ body_read (body x)) →
      ((p : ℕ) → show (fault p) ≡ body_read (fault_at p)) → (m : Reading A) → show (exactly (length bytes) m) ≡ body_read (used_up body bytes m)
  shown body show f g (got x next) =
      elim (eqb next (length bytes)) as
      (λ b. show (cond b (got x next) (fault next)) ≡ body_read (cond b (body x) (fault_at next)))
      [ true ↦ f x next | false ↦ g next ]
  shown body show f g (fault p) = g p

abbrev pub own_shown : Reading (List ℕ) → BodyRead
own_shown m = record { body = fault_or (answered m) Is.Own; own = valued own_struct no_own m; block = no_block; payment = zero_transaction }

abbrev pub block_shown : Reading Chain.Block → BodyRead
block_shown m = record { body = fault_or (answered m) Is.Block; own = no_own; block = valued block_of no_block m; payment = zero_transaction }

abbrev pub pay_shown : Reading Chain.Transaction → BodyRead
pay_shown m = record { body = fault_or (answered m) Is.Payment; own = no_own; block = no_block; payment = valued struct_of zero_transaction m }

pub own_shown_lem : (bytes : List ℕ) → own_shown (own_reading (length bytes) (read_body own_kind bytes)) ≡ body_read (read_body own_kind bytes)
unfolding read_body
own_shown_lem bytes =
    ap own_shown (own_exact bytes)
    ∙ shown bytes own_body own_shown (λ (x : List ℕ) (next : ℕ). refl) (λ (p : ℕ). refl) (read_own bytes 0)

pub block_shown_lem : (bytes : List ℕ) → block_shown (block_reading (length bytes) (read_body block_kind bytes)) ≡ body_read (read_body block_kind bytes)
unfolding read_body
block_shown_lem bytes =
    ap block_shown (block_exact bytes)
    ∙ shown bytes block_body block_shown (λ (x : Chain.Block) (next : ℕ). refl) (λ (p : ℕ). refl) (read_block bytes 0)

pub pay_shown_lem : (bytes : List ℕ) → pay_shown (pay_reading (length bytes) (read_body pay_kind bytes)) ≡ body_read (read_body pay_kind bytes)
unfolding read_body read_payment
pay_shown_lem bytes =
    ap pay_shown (pay_exact bytes)
    ∙ shown bytes pay_body pay_shown (λ (x : Chain.Transaction) (next : ℕ). refl) (λ (p : ℕ). refl) (read_transaction none bytes 0)

pub back_empty : (bytes : List ℕ) → 0 ≡ length bytes → bare Is.Rollback ≡ body_read (read_body back_kind bytes)
unfolding read_body
back_empty bytes e = ap (λ (b : Bool). body_read (cond b back_body (fault_at 0))) (sym (eq-eqb 0 (length bytes) e))

pub back_over : (bytes : List ℕ) → (0 ≡ length bytes → ⊥) → bare (Is.Fault 0) ≡ body_read (read_body back_kind bytes)
unfolding read_body
back_over bytes e = ap (λ (b : Bool). body_read (cond b back_body (fault_at 0))) (sym (ne_eqb 0 (length bytes) e))

pub unknown_kind : (kind : ℕ) (bytes : List ℕ) → (kind ≡ own_kind → ⊥) → (kind ≡ block_kind → ⊥) → (kind ≡ pay_kind → ⊥) → (kind ≡ back_kind → ⊥) →
    bare (Is.Fault 0) ≡ body_read (read_body kind bytes)
unfolding read_body
unknown_kind kind bytes a b c d = rw (ne_eqb kind own_kind a, ne_eqb kind block_kind b, ne_eqb kind pay_kind c, ne_eqb kind back_kind d) refl
