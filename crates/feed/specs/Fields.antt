-- A field as the code reads it: first the number that stands there, if it is not cut short, then the rule. Either way a
-- fault is at the field's start.
use Rattle.std.specs.Prelude.{◌≡◌, refl, Bool, true, false, cond, ◌&&◌, List, ℕ, ◌+◌, ◌-◌, ◌≤◌, ◌<◌, leb, length, take, drop}
use Rattle.std.specs.List.{slice_range}
use Rattle.std.proofs.Common.{ap, ◌∙◌, arith, le-leb, length-drop, take_all}
use Rattle.std.proofs.lemmas.Bool.{lt-leb}
use Rattle.format.specs.Fields.{Reading, got, fault, little, number_at, field, any_number}

-- cut short: the fault is at the start
pub field_cut : (width : ℕ) (rule : ℕ → Bool) (bytes : List ℕ) (place : ℕ) → length bytes < place + width →
    fault place ≡ field width rule bytes place
unfolding field
field_cut width rule bytes place h = rw (lt-leb (place + width) (length bytes) h) refl

-- there as a whole: the number and the next place
pub field_whole : (width : ℕ) (bytes : List ℕ) (place n : ℕ) → place + width ≤ length bytes → n ≡ number_at width bytes place →
    got n (place + width) ≡ field width any_number bytes place
unfolding field
field_whole width bytes place n h e = rw (le-leb (place + width) (length bytes) h, e) refl

-- the number that stands at a place is the first of what the bytes have from there on
pub number_rest : (width : ℕ) (bytes : List ℕ) (place : ℕ) →
    number_at width (slice_range bytes place (length bytes)) 0 ≡ number_at width bytes place
number_rest width bytes place =
    ap (λ (l : List ℕ). little (take width l))
    (take_all (length bytes - place) (drop place bytes) (omega (arith, length-drop place bytes)))

-- where any number faults, every rule faults, at the start
pub rule_fault : (width : ℕ) (rule : ℕ → Bool) (bytes : List ℕ) (place p : ℕ) → fault p ≡ field width any_number bytes place →
    fault place ≡ field width rule bytes place
unfolding field
rule_fault width rule bytes place p =
    let n = number_at width bytes place in
    elim (leb (place + width) (length bytes)) as
    (λ b. fault p ≡ cond (b && true) (got n (place + width)) (fault place) → fault place ≡ cond (b && rule n) (got n (place + width)) (fault place))
    [ true ↦ λ e. let z : ◌≡◌ {A = ℕ} 0 1 = cc in let never : ⊥ = omega arith in absurd never | false ↦ λ e. refl ]

-- a number that was read is held against the rule
pub rule_kept : (width : ℕ) (rule : ℕ → Bool) (bytes : List ℕ) (place n next : ℕ) (right : Bool) →
    got n next ≡ field width any_number bytes place → right ≡ rule n →
    cond right (got n next) (fault place) ≡ field width rule bytes place
unfolding field
rule_kept width rule bytes place n next right e f =
    (elim (leb (place + width) (length bytes)) as
    (λ b. got n next ≡ cond (b && true) (got v (place + width)) (fault place) → cond right (got n next) (fault place) ≡ cond (b && rule v) (got v (place + width)) (fault place)) [
      | true ↦ λ g.
          let same : n ≡ v = cc in
          ap (λ (b : Bool). cond b (got n next) (fault place)) (f ∙ ap rule same) ∙ ap (λ (m : Reading ℕ). cond (rule v) m (fault place)) g
      | false ↦ λ g. let z : ◌≡◌ {A = ℕ} 0 1 = cc in let never : ⊥ = omega arith in absurd never
    ])
    e
  where
    v : ℕ
    v = number_at width bytes place
