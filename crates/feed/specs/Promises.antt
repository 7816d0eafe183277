-- What the public promises come to: the paper's number and place for each answer, what `read_body` hands back is good, a
-- feed that was checked once is read by numbers, and any two results of the row function are equal.
use Rattle.std.specs.Prelude.{◌≡◌, Bool, true, List, ℕ, ◌≤◌, T}
use Rattle.std.proofs.Math.Path.{refl}
use Rattle.std.proofs.Common.{sym, ap, subst, ◌∙◌, arith}
use Rattle.format.specs.Bodies as Format
use Rattle.format.specs.Bodies.{own_body, block_body, pay_body, back_body, fault_at, read_body, body_answer, body_place}
use Rattle.format.specs.Feed.{count_in, kind_in, body_in, well_formed, row_kind, row_body}
use Rattle.format.proofs.Rows.{row_found_lem, is_row_lem}
use Rattle.feed.specs.Bodies.{body_read, body_number, body_fault}
use Rattle.feed.specs.Rows.{row_found}
use Rattle.feed.specs.Good.{OwnGood, BlockGood, PaymentGood, own_held, block_held, payment_held}
use Rattle.feed.specs.declared.bodies.Body.{Body}
use Rattle.feed.specs.declared.bodies.Body.TheVariants as Is
use Rattle.feed.specs.declared.bodies.BodyRead.{BodyRead}

-- The answer of `read_body`, as the paper's number and place.
pub body_told : (b : Format.Body) → (body_number (body_read b).body ≡ body_answer b) × (body_fault (body_read b).body ≡ body_place b)
body_told (own_body own) = (refl, refl)
body_told (block_body b) = (refl, refl)
body_told (pay_body t) = (refl, refl)
body_told back_body = (refl, refl)
body_told (fault_at place) = (refl, refl)

-- ── what `read_body` hands back

-- a body's place among its variants
unfoldable pub ordinal : Body → ℕ
ordinal Is.Own = 0
ordinal Is.Block = 1
ordinal Is.Payment = 2
ordinal Is.Rollback = 3
ordinal (Is.Fault place) = 4

differ : {P : Type 0} (a b : Body) (m n : ℕ) → ordinal a ≡ m → ordinal b ≡ n → (m ≡ n → ⊥) → a ≡ b → P
differ a b m n e f h g = absurd (h (sym e ∙ ap ordinal g ∙ f))

module _ (kind : ℕ) (bytes : List ℕ) where
  own_case : (b : Format.Body) → read_body kind bytes ≡ b → (body_read b).body ≡ Is.Own → OwnGood (read_body kind bytes) (body_read b).own
  unfolding ordinal
  own_case (own_body l) e t = own_held kind bytes l e
  own_case (block_body b) e t = differ Is.Block Is.Own 1 0 refl refl (λ h. omega arith) t
  own_case (pay_body p) e t = differ Is.Payment Is.Own 2 0 refl refl (λ h. omega arith) t
  own_case back_body e t = differ Is.Rollback Is.Own 3 0 refl refl (λ h. omega arith) t
  own_case (fault_at p) e t = differ (Is.Fault p) Is.Own 4 0 refl refl (λ h. omega arith) t

  block_case : (b : Format.Body) → read_body kind bytes ≡ b → (body_read b).body ≡ Is.Block → BlockGood (read_body kind bytes) (body_read b).block
  unfolding ordinal
  block_case (own_body l) e t = differ Is.Own Is.Block 0 1 refl refl (λ h. omega arith) t
  block_case (block_body b) e t = block_held kind bytes b e
  block_case (pay_body p) e t = differ Is.Payment Is.Block 2 1 refl refl (λ h. omega arith) t
  block_case back_body e t = differ Is.Rollback Is.Block 3 1 refl refl (λ h. omega arith) t
  block_case (fault_at p) e t = differ (Is.Fault p) Is.Block 4 1 refl refl (λ h. omega arith) t

  payment_case : (b : Format.Body) → read_body kind bytes ≡ b → (body_read b).body ≡ Is.Payment → PaymentGood (read_body kind bytes) (body_read b).payment
  unfolding ordinal
  payment_case (own_body l) e t = differ Is.Own Is.Payment 0 2 refl refl (λ h. omega arith) t
  payment_case (block_body b) e t = differ Is.Block Is.Payment 1 2 refl refl (λ h. omega arith) t
  payment_case (pay_body p) e t = payment_held kind bytes p e
  payment_case back_body e t = differ Is.Rollback Is.Payment 3 2 refl refl (λ h. omega arith) t
  payment_case (fault_at p) e t = differ (Is.Fault p) Is.Payment 4 2 refl refl (λ h. omega arith) t

  -- What `read_body` hands back as an own list, a block or a payment is good, and is what the format reads.
  pub read_body_good : (r : BodyRead) → r ≡ body_read (read_body kind bytes) →
      (r.body ≡ Is.Own → OwnGood (read_body kind bytes) r.own)
      × (r.body ≡ Is.Block → BlockGood (read_body kind bytes) r.block)
      × (r.body ≡ Is.Payment → PaymentGood (read_body kind bytes) r.payment)
  read_body_good r e =
      subst
      (λ (s : BodyRead).
      (s.body ≡ Is.Own → OwnGood (read_body kind bytes) s.own)
      × (s.body ≡ Is.Block → BlockGood (read_body kind bytes) s.block)
      × (s.body ≡ Is.Payment → PaymentGood (read_body kind bytes) s.payment))
      (sym e)
      (own_case (read_body kind bytes) refl, block_case (read_body kind bytes) refl, payment_case (read_body kind bytes) refl)

-- ── rows

-- A feed that was checked once: what stands in its table is what a caller of `kind` and `row` gets.
pub checked_row : (feed : List ℕ) (b : Bool) (n : ℕ) → b ≡ well_formed feed → b ≡ true → 1 ≤ n → n ≤ count_in feed →
    (row_found feed n ≡ 1) × (row_kind feed n ≡ kind_in feed n) × (row_body feed n ≡ body_in feed n)
checked_row feed b n e f g h = row_found_lem feed n (is_row_lem feed n (subst T (sym f ∙ e) tt) g h)

-- What `row` promises of the part and of the lent number.
pub record RowPromise (feed : List ℕ) (n : ℕ) (part : List ℕ) (lent : ℕ) : Type 0 where
  pub body : part ≡ row_body feed n
  pub there : lent ≡ row_found feed n

-- Any two results that `row` may give are equal.
pub row_determined : (feed : List ℕ) (n : ℕ) (part other : List ℕ) (lent second : ℕ) → RowPromise feed n part lent → RowPromise feed n other second →
    (part ≡ other) × (lent ≡ second)
row_determined feed n part other lent second p q = (p.body ∙ sym q.body, p.there ∙ sym q.there)
