-- The place of a fault is that of the first fault: the bytes before it have none, whatever follows them, and the field
-- at that place has one, whatever follows it.
use Rattle.std.specs.Prelude.{◌≡◌, refl, Bool, true, false, not, cond, ◌&&◌, List, [], ◌∷◌, ℕ, zero, suc, ◌+◌, ◌≤◌, T, eqb, leb, ltb, length, take}
use Rattle.std.proofs.Common.{sym, ap, subst, ◌∙◌, ⊎_elim, arith, leb→le, le→leb, lit≤}
use Rattle.std.proofs.Math.Option.{Option, none, some}
use Rattle.sets.specs.Bytes.{agree_fewer, agree_part, agree_length}
use Rattle.sets.specs.Tests.{same_test, T-cases, cond_true, cond_false, neqb→ne, ne→neqb}
use Rattle.rules.specs.declared.Reference.{Reference}
use Rattle.rules.specs.declared.Output.{Output}
use Rattle.rules.specs.Sizes.{largest_amount, most_own, fewest_inputs, most_inputs, most_outputs, most_transactions}
use Rattle.rules.specs.Chain.{Transaction}
use Rattle.format.specs.Fields.{Reading, got, fault, Reader, little, number_at, field, any_number, done, follows, onward, ◌>>=◌, items}
use Rattle.format.specs.Bodies.{count_width, index_width, address_width, amount_width, number_width, number_of, input_number_follows, input_index_follows, output_index_follows, number_follows, read_address, read_own, read_input, read_output, read_transaction, read_block, read_payment, Body, own_body, block_body, pay_body, back_body, fault_at, own_kind, block_kind, pay_kind, back_kind, used_up, whole, read_body}
use Rattle.format.specs.Readers.{Outcome, outcome_map, outcome_onward, field_got, field_outcome}

-- the widest field, in bytes
abbrev pub widest : ℕ
widest = 8

module _ {A : Type 0} where
  -- where a reading ended, well or with a fault
  abbrev pub end_of : Reading A → ℕ
  end_of (got x next) = next
  end_of (fault place) = place

  -- What was read well is read out of any bytes that agree up to the next place.
  abbrev pub ReadAlike : Reader A → List ℕ → ℕ → A → ℕ → Type 0
  ReadAlike r bytes place x next =
      (place ≤ next)
      × (next ≤ length bytes)
      × ((other : List ℕ) → next ≤ length other → take next other ≡ take next bytes → r other place ≡ got x next)

  -- Any bytes that agree up to a fault are read at least up to it, and those that agree past the field there fault there.
  abbrev pub FaultAlike : Reader A → List ℕ → ℕ → ℕ → Type 0
  FaultAlike r bytes place p =
      (place ≤ p)
      × (p ≤ length bytes)
      × ((other : List ℕ) → p ≤ length other → take p other ≡ take p bytes → p ≤ end_of (r other place))
      × ((other : List ℕ) → take (p + widest) other ≡ take (p + widest) bytes → r other place ≡ fault p)

  -- a reader that never looks ahead
  abbrev pub Orderly : Reader A → Type 0
  Orderly r =
      (bytes : List ℕ) (place : ℕ) → place ≤ length bytes →
      Outcome (ReadAlike r bytes place) (FaultAlike r bytes place) (r bytes place)

  -- it ends no earlier than it starts, and inside
  orderly_end : (r : Reader A) → Orderly r → (bytes : List ℕ) (place : ℕ) → place ≤ length bytes → (place ≤ end_of (r bytes place)) × (end_of (r bytes place) ≤ length bytes)
  orderly_end r o bytes place h = ends (r bytes place) (o bytes place h)
    where
      ends : (m : Reading A) → Outcome (ReadAlike r bytes place) (FaultAlike r bytes place) m → (place ≤ end_of m) × (end_of m ≤ length bytes)
      ends (got x next) c = (c.0, c.1)
      ends (fault p) c = (c.0, c.1)

  orderly_done : (x : A) → Orderly (done x)
  orderly_done x bytes place h = (omega arith, h, λ other l e. refl)

module _ {A B : Type 0} where
  orderly_then : (r : Reader A) (f : A → Reader B) → Orderly r → ((x : A) → Orderly (f x)) → Orderly (r >>= f)
  orderly_then r f o of bytes place h =
      outcome_onward (ReadAlike r bytes place) (FaultAlike r bytes place)
      (ReadAlike (r >>= f) bytes place) (FaultAlike (r >>= f) bytes place)
      (r bytes place) (λ x next. f x bytes next) (o bytes place h)
      (λ x next c.
      outcome_map (ReadAlike (f x) bytes next) (FaultAlike (f x) bytes next)
      (ReadAlike (r >>= f) bytes place) (FaultAlike (r >>= f) bytes place)
      (f x bytes next) (of x bytes next c.1)
      (λ y last d. (
        omega arith,
        d.1,
        λ other l e. ap (λ (m : Reading A). onward m (λ z n. f z other n)) (c.2 other (omega arith) (agree_fewer next last other bytes d.0 e)) ∙ d.2 other l e,
      ))
      (λ p d. (
        omega arith,
        d.1,
        (λ other l e.
            subst (λ (m : Reading A). p ≤ end_of (onward m (λ z n. f z other n)))
            (sym (c.2 other (omega arith) (agree_fewer next p other bytes d.0 e)))
            (d.2 other l e)),
        λ other e.
            ap (λ (m : Reading A). onward m (λ z n. f z other n))
            (c.2 other (omega (arith, agree_length (p + widest) other bytes e)) (agree_fewer next (p + widest) other bytes (omega arith) e))
            ∙ d.3 other e,
      )))
      (λ p c. (
        c.0,
        c.1,
        (λ other l e.
            later p other (r other place) (c.2 other l e) (orderly_end r o other place (omega arith)).1),
        λ other e. ap (λ (m : Reading A). onward m (λ z n. f z other n)) (c.3 other e),
      ))
    where
      later : (p : ℕ) (other : List ℕ) (m : Reading A) → p ≤ end_of m → end_of m ≤ length other → p ≤ end_of (onward m (λ z n. f z other n))
      later p other (got x next) a b = omega (arith, (orderly_end (f x) (of x) other next b).0)
      later p other (fault q) a b = a

module _ {A : Type 0} where
  orderly_items : (item : Option A → Reader A) → ((last : Option A) → Orderly (item last)) → (count : ℕ) (last : Option A) → Orderly (items item count last)
  orderly_items item o zero last = orderly_done []
  orderly_items item o (suc count) last =
      orderly_then (item last) (λ x. items item count (some x) >>= (λ rest. done (x ∷ rest))) (o last)
      (λ x.
      orderly_then (items item count (some x)) (λ rest. done (x ∷ rest)) (orderly_items item o count (some x))
      (λ rest. orderly_done (x ∷ rest)))

-- ── a field

-- bytes that agree past the widest field have the same field
field_alike : (width : ℕ) (rule : ℕ → Bool) → width ≤ widest → (bytes other : List ℕ) (place : ℕ) →
    take (place + widest) other ≡ take (place + widest) bytes → field width rule other place ≡ field width rule bytes place
unfolding field
field_alike width rule w bytes other place e =
    let l = agree_length (place + widest) other bytes e in
    let there : leb (place + width) (length other) ≡ leb (place + width) (length bytes) =
    same_test (leb (place + width) (length other)) (leb (place + width) (length bytes))
    (λ t. le→leb (place + width) (length bytes) (omega (arith, leb→le (place + width) (length other) t, l)))
    (λ t. le→leb (place + width) (length other) (omega (arith, leb→le (place + width) (length bytes) t, l)))
    in
    let value : number_at width other place ≡ number_at width bytes place =
    ap little (agree_part place width other bytes (agree_fewer (place + width) (place + widest) other bytes (omega arith) e))
    in
    λ i. cond (there i && rule (value i)) (got (value i) (place + width)) (fault place)

orderly_field : (width : ℕ) (rule : ℕ → Bool) → width ≤ widest → Orderly (field width rule)
orderly_field width rule w bytes place h =
    field_outcome width rule bytes place (ReadAlike (field width rule) bytes place) (FaultAlike (field width rule) bytes place)
    (λ l t. (
      omega arith,
      l,
      λ other k e.
          let value : number_at width other place ≡ number_at width bytes place = ap little (agree_part place width other bytes e) in
          field_got width rule other place k (subst (λ (n : ℕ). T (rule n)) (sym value) t)
          ∙ ap (λ (n : ℕ). got n (place + width)) value,
    ))
    (λ faulty. (
      omega arith,
      h,
      (λ other l e. later other),
      λ other e. field_alike width rule w bytes other place e ∙ faulty,
    ))
  where
    later : (other : List ℕ) → place ≤ end_of (field width rule other place)
    later other = ends (field width rule other place)
        (field_outcome width rule other place (λ x next. place ≤ next) (λ p. place ≤ p) (λ l t. omega arith) (λ e. omega arith))
      where
        ends : (m : Reading ℕ) → Outcome (λ x next. place ≤ next) (λ p. place ≤ p) m → place ≤ end_of m
        ends (got x next) c = c
        ends (fault p) c = c

module _ {B : Type 0} where
  field_then : (width : ℕ) (rule : ℕ → Bool) (f : ℕ → Reader B) → width ≤ widest → ((n : ℕ) → Orderly (f n)) → Orderly (field width rule >>= f)
  field_then width rule f w of = orderly_then (field width rule) f (orderly_field width rule w) of

-- ── the readers of the bodies

orderly_address : (last : Option ℕ) → Orderly (read_address last)
unfolding read_address
orderly_address last = orderly_field address_width (follows ltb last) (lit≤ tt)

orderly_own : Orderly read_own
unfolding read_own
orderly_own =
    field_then count_width (λ n. leb n most_own) _ (lit≤ tt)
    (λ count. orderly_items read_address orderly_address count none)

orderly_input : (last : Option Reference) → Orderly (read_input last)
unfolding read_input
orderly_input last =
    field_then number_width (follows input_number_follows last) _ (lit≤ tt)
    (λ n.
    field_then index_width (follows (input_index_follows n) last) _ (lit≤ tt)
    (λ i. orderly_done (record { number = number_of n; index = i })))

orderly_output : (last : Option Output) → Orderly (read_output last)
unfolding read_output
orderly_output last =
    field_then index_width (follows output_index_follows last) _ (lit≤ tt)
    (λ i.
    field_then address_width any_number _ (lit≤ tt)
    (λ a.
    field_then amount_width (λ v. leb v largest_amount) _ (lit≤ tt)
    (λ v. orderly_done (record { index = i; address = a; amount = v }))))

orderly_transaction : (last : Option Transaction) → Orderly (read_transaction last)
unfolding read_transaction
orderly_transaction last =
    field_then number_width (follows number_follows last) _ (lit≤ tt)
    (λ n.
    field_then count_width (λ k. leb fewest_inputs k && leb k most_inputs) _ (lit≤ tt)
    (λ input_count.
    field_then count_width (λ k. leb k most_outputs) _ (lit≤ tt)
    (λ output_count.
    orderly_then (items read_input input_count none) _ (orderly_items read_input orderly_input input_count none)
    (λ inputs.
    orderly_then (items read_output output_count none) _ (orderly_items read_output orderly_output output_count none)
    (λ outputs. orderly_done (record { number = number_of n; inputs = inputs; outputs = outputs }))))))

orderly_block : Orderly read_block
unfolding read_block
orderly_block =
    field_then count_width (λ n. leb n most_transactions) _ (lit≤ tt)
    (λ count. orderly_items read_transaction orderly_transaction count none)

orderly_payment : Orderly read_payment
unfolding read_payment
orderly_payment = orderly_transaction none

-- ── whole bodies

-- what holds of a body's fault
abbrev Faulty : (ℕ → Type 0) → Body → Type 0
Faulty Q (own_body own) = Unit {0}
Faulty Q (block_body b) = Unit {0}
Faulty Q (pay_body t) = Unit {0}
Faulty Q back_body = Unit {0}
Faulty Q (fault_at p) = Q p

-- the place of a fault: inside, and first in any bytes that agree up to it, and the same in any that agree past its field
abbrev First : (List ℕ → Body) → List ℕ → ℕ → Type 0
First read bytes p =
    (p ≤ length bytes)
    × ((other : List ℕ) → take p other ≡ take p bytes → Faulty (λ q. p ≤ q) (read other))
    × ((other : List ℕ) → take (p + widest) other ≡ take (p + widest) bytes → read other ≡ fault_at p)

abbrev Placed : (List ℕ → Body) → Type 0
Placed read = (bytes : List ℕ) → Faulty (First read bytes) (read bytes)

module _ {A : Type 0} (body : A → Body) (sound : (Q : ℕ → Type 0) (x : A) → Faulty Q (body x)) where
  -- used up or not, a body that was read well up to a place faults no earlier
  used_later : (other : List ℕ) (p : ℕ) (m : Reading A) → p ≤ end_of m → Faulty (λ q. p ≤ q) (used_up body other m)
  used_later other p (got x next) h =
      elim (eqb next (length other)) as (λ b. Faulty (λ q. p ≤ q) (cond b (body x) (fault_at next)))
      [ true ↦ sound (λ q. p ≤ q) x | false ↦ h ]
  used_later other p (fault q) h = h

  placed_whole : (r : Reader A) → Orderly r → Placed (whole body r)
  placed_whole r o bytes = used (r bytes 0) (o bytes 0 (omega arith))
    where
      -- a byte left over is left over in any bytes that agree past it
      still : (next : ℕ) (other : List ℕ) → next ≤ length bytes → T (not (eqb next (length bytes))) → take (next + widest) other ≡ take (next + widest) bytes → T (not (eqb next (length other)))
      still next other l t e =
          ne→neqb next (length other)
          (λ (u : next ≡ length other). neqb→ne next (length bytes) t (omega (arith, agree_length (next + widest) other bytes e)))

      used : (m : Reading A) → Outcome (ReadAlike r bytes 0) (FaultAlike r bytes 0) m → Faulty (First (whole body r) bytes) (used_up body bytes m)
      used (got x next) c =
          ⊎_elim
          (λ (t : T (eqb next (length bytes))).
          subst (λ (b : Body). Faulty (First (whole body r) bytes) b)
          (sym (cond_true (eqb next (length bytes)) (body x) (fault_at next) t))
          (sound (First (whole body r) bytes) x))
          (λ (t : T (not (eqb next (length bytes)))).
          subst (λ (b : Body). Faulty (First (whole body r) bytes) b)
          (sym (cond_false (eqb next (length bytes)) (body x) (fault_at next) t)) (
            c.1,
            (λ other e.
                used_later other next (r other 0)
                (subst (λ (m : Reading A). next ≤ end_of m) (sym (c.2 other (omega (arith, agree_length next other bytes e)) e)) (omega arith))),
            λ other e.
                ap (λ (m : Reading A). used_up body other m)
                (c.2 other (omega (arith, agree_length (next + widest) other bytes e)) (agree_fewer next (next + widest) other bytes (omega arith) e))
                ∙ cond_false (eqb next (length other)) (body x) (fault_at next) (still next other c.1 t e),
          ))
          (T-cases (eqb next (length bytes)))
      used (fault p) c = (
        c.1,
        (λ other e. used_later other p (r other 0) (c.2 other (omega (arith, agree_length p other bytes e)) e)),
        λ other e. ap (λ (m : Reading A). used_up body other m) (c.3 other e),
      )

placed_cond : (b : Bool) (f g : List ℕ → Body) → Placed f → Placed g → Placed (λ bytes. cond b (f bytes) (g bytes))
placed_cond true f g p q = p
placed_cond false f g p q = q

placed : (kind : ℕ) → Placed (read_body kind)
unfolding read_body
placed kind =
    placed_cond (eqb kind own_kind) (whole own_body read_own) _ (placed_whole own_body (λ Q x. tt) read_own orderly_own)
    (placed_cond (eqb kind block_kind) (whole block_body read_block) _ (placed_whole block_body (λ Q x. tt) read_block orderly_block)
    (placed_cond (eqb kind pay_kind) (whole pay_body read_payment) _ (placed_whole pay_body (λ Q x. tt) read_payment orderly_payment)
    (placed_cond (eqb kind back_kind) (whole (λ (u : Unit {0}). back_body) (done tt)) (λ bytes. fault_at 0)
    (placed_whole (λ (u : Unit {0}). back_body) (λ Q x. tt) (done tt) (orderly_done tt))
    (λ bytes. (omega arith, (λ other e. omega arith), λ other e. refl)))))

-- ── the laws

-- A fault's place is in the body, or just behind it.
pub fault_inside : (kind : ℕ) (bytes : List ℕ) (p : ℕ) → read_body kind bytes ≡ fault_at p → p ≤ length bytes
fault_inside kind bytes p e = (subst (λ (b : Body). Faulty (First (read_body kind) bytes) b) e (placed kind bytes)).0

-- First fault: the bytes before a fault's place have no fault. Whatever follows them, no reading faults before that place.
pub first_fault : (kind : ℕ) (bytes other : List ℕ) (p q : ℕ) → read_body kind bytes ≡ fault_at p → take p other ≡ take p bytes → read_body kind other ≡ fault_at q → p ≤ q
first_fault kind bytes other p q e same d =
    subst (λ (b : Body). Faulty (λ q. p ≤ q) b) d
    ((subst (λ (b : Body). Faulty (First (read_body kind) bytes) b) e (placed kind bytes)).1 other same)

-- The field at a fault's place has the fault: whatever follows it, the reading faults there.
pub fault_here : (kind : ℕ) (bytes other : List ℕ) (p : ℕ) → read_body kind bytes ≡ fault_at p → take (p + widest) other ≡ take (p + widest) bytes → read_body kind other ≡ fault_at p
fault_here kind bytes other p e same =
    (subst (λ (b : Body). Faulty (First (read_body kind) bytes) b) e (placed kind bytes)).2 other same
