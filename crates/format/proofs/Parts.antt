-- Readers and the parts of the bytes that they read: what was read stands in a relation to its part, and the parts of
-- one thing after another are joined.
use Rattle.std.specs.Prelude.{◌≡◌, refl, Bool, true, ◌&&◌, List, [], ◌∷◌, ◌++◌, ℕ, zero, suc, T, length, take, drop}
use Rattle.std.proofs.Common.{sym, ap, subst, ◌∙◌, append-nil, append_assoc, arith, length-take, length-drop, take-append-drop, drop-drop}
use Rattle.std.proofs.Math.Option.{Option, some}
use Rattle.sets.specs.Sets.{all, gather}
use Rattle.sets.specs.Tests.{and_left, and_right, and_both}
use Rattle.sets.specs.Laws.{all_append}
use Rattle.format.specs.Fields.{Reader, little, field, done, follows, ◌>>=◌, items}
use Rattle.format.specs.Writing.{write_number, is_byte}
use Rattle.format.specs.Numbers.{written_little}
use Rattle.format.specs.Readers.{Outcome, outcome_map, outcome_onward, field_outcome, chained, chained_nil, chained_cons}

-- ── parts of the bytes, and what they spell

-- as far as they are bytes, `part` is `written`
abbrev pub Spelled : List ℕ → List ℕ → Type 0
Spelled part written = T (all is_byte part) → part ≡ written

pub spelled_join : (l m v w : List ℕ) → Spelled l v → Spelled m w → Spelled (l ++ m) (v ++ w)
spelled_join l m v w s t h =
    let both : T (all is_byte l && all is_byte m) = subst T (all_append is_byte l m) h in
    let a = s (and_left (all is_byte l) (all is_byte m) both) in
    let b = t (and_right (all is_byte l) (all is_byte m) both) in
    λ i. a i ++ b i

pub spelled_end : (l w : List ℕ) → Spelled l w → Spelled (l ++ []) w
spelled_end l w s = subst (λ (k : List ℕ). Spelled k w) (sym (append-nil l)) s

module _ {A : Type 0} where
  -- whatever a reader reads stands in R to the part of the bytes that it is read from
  abbrev pub Reads : Reader A → (A → List ℕ → Type 0) → Type 0
  Reads r R =
      (bytes : List ℕ) (place : ℕ) →
      Outcome (λ x next. (part : List ℕ) × (drop place bytes ≡ part ++ drop next bytes) × R x part) (λ p. Unit {0}) (r bytes place)

  pub reads_done : (R : A → List ℕ → Type 0) (x : A) → R x [] → Reads (done x) R
  reads_done R x h bytes place = ([], refl, h)

  pub reads_map : (R S : A → List ℕ → Type 0) (r : Reader A) → Reads r R → ((x : A) (l : List ℕ) → R x l → S x l) → Reads r S
  reads_map R S r h k bytes place =
      outcome_map
      (λ x next. (part : List ℕ) × (drop place bytes ≡ part ++ drop next bytes) × R x part) (λ p. Unit {0})
      (λ x next. (part : List ℕ) × (drop place bytes ≡ part ++ drop next bytes) × S x part) (λ p. Unit {0})
      (r bytes place) (h bytes place) (λ x next c. (c.0, c.1, k x c.0 c.2)) (λ p u. tt)

module _ {A B : Type 0} where
  pub reads_then : (R : A → List ℕ → Type 0) (S : B → List ℕ → Type 0) (r : Reader A) (f : A → Reader B) →
      Reads r R → ((x : A) (l : List ℕ) → R x l → Reads (f x) (λ y m. S y (l ++ m))) → Reads (r >>= f) S
  reads_then R S r f h k bytes place =
      outcome_onward
      (λ x next. (part : List ℕ) × (drop place bytes ≡ part ++ drop next bytes) × R x part) (λ p. Unit {0})
      (λ y next. (part : List ℕ) × (drop place bytes ≡ part ++ drop next bytes) × S y part) (λ p. Unit {0})
      (r bytes place) (λ x next. f x bytes next) (h bytes place)
      (λ x next c.
      outcome_map
      (λ y end. (part : List ℕ) × (drop next bytes ≡ part ++ drop end bytes) × S y (c.0 ++ part)) (λ p. Unit {0})
      (λ y end. (part : List ℕ) × (drop place bytes ≡ part ++ drop end bytes) × S y part) (λ p. Unit {0})
      (f x bytes next) (k x c.0 c.2 bytes next)
      (λ y end d. (
        c.0 ++ d.0,
        c.1 ∙ ap (λ (m : List ℕ). c.0 ++ m) d.1 ∙ sym (append_assoc c.0 d.0 (drop end bytes)),
        d.2,
      ))
      (λ p u. tt))
      (λ p u. tt)

-- a field's number keeps the rule, and its part is the number written
abbrev pub FieldOf : ℕ → (ℕ → Bool) → ℕ → List ℕ → Type 0
FieldOf width rule n part = T (rule n) × Spelled part (write_number width n)

pub reads_field : (width : ℕ) (rule : ℕ → Bool) → Reads (field width rule) (FieldOf width rule)
reads_field width rule bytes place =
    field_outcome width rule bytes place
    (λ n next. (part : List ℕ) × (drop place bytes ≡ part ++ drop next bytes) × FieldOf width rule n part) (λ p. Unit {0})
    (λ l t.
    let part = take width (drop place bytes) in
    let size : length part ≡ width = length-take width (drop place bytes) ∙ omega (arith, length-drop place bytes) in (
      part,
      sym (take-append-drop width (drop place bytes)) ∙ ap (λ (m : List ℕ). part ++ m) (drop-drop width place bytes),
      (t, λ b. sym (subst (λ (k : ℕ). write_number k (little part) ≡ part) size (written_little part b))),
    ))
    (λ e. tt)

-- ── items

module _ {A : Type 0} (before : A → A → Bool) (good : A → Bool) (write : A → List ℕ) where
  -- an item follows the one before it, is good, and its part is the item written
  abbrev pub ItemOf : Option A → A → List ℕ → Type 0
  ItemOf last x part = T (follows before last x) × T (good x) × Spelled part (write x)

  -- so many items, ascending behind the one before them, all good, and their part is the items written
  abbrev pub ItemsOf : ℕ → Option A → List A → List ℕ → Type 0
  ItemsOf count last xs part = (length xs ≡ count) × T (chained before last xs) × T (all good xs) × Spelled part (gather write xs)

  pub reads_items : (item : Option A → Reader A) → ((last : Option A) → Reads (item last) (ItemOf last)) → (count : ℕ) (last : Option A) → Reads (items item count last) (ItemsOf count last)
  reads_items item h zero last = reads_done (ItemsOf zero last) [] (refl, chained_nil before last, tt, λ b. refl)
  reads_items item h (suc count) last =
      reads_then (ItemOf last) (ItemsOf (suc count) last) (item last) (λ x. items item count (some x) >>= (λ rest. done (x ∷ rest))) (h last)
      (λ x l c.
      reads_then (ItemsOf count (some x)) (λ y m. ItemsOf (suc count) last y (l ++ m)) (items item count (some x)) (λ rest. done (x ∷ rest))
      (reads_items item h count (some x))
      (λ xs m d.
      reads_done (λ y n. ItemsOf (suc count) last y (l ++ (m ++ n))) (x ∷ xs) (
        ap suc d.0,
        subst T (sym (chained_cons before last x xs)) (and_both (follows before last x) (chained before (some x) xs) c.0 d.1),
        and_both (good x) (all good xs) c.1 d.2,
        spelled_join l (m ++ []) (write x) (gather write xs) c.2 (spelled_end m (gather write xs) d.3),
      )))

-- the test that everything passes
abbrev pub anything : {A : Type 0} → A → Bool
anything x = true
