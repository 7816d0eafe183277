-- Laws of reading one thing after another: what a reading comes to, and when a field is read or faults.
use Rattle.std.specs.Prelude.{◌≡◌, refl, Bool, not, ◌&&◌, List, [], ◌∷◌, ℕ, ◌+◌, ◌≤◌, T, leb, length}
use Rattle.std.proofs.Common.{sym, subst, ⊎_elim, leb→le, le→leb}
use Rattle.std.proofs.Math.Option.{Option, none, some}
use Rattle.sets.specs.Sets.{ascending}
use Rattle.sets.specs.Tests.{and_left, and_right, and_both, T-cases, cond_true, cond_false}
use Rattle.format.specs.Fields.{Reading, got, fault, number_at, field, follows, onward}

module _ {A : Type 0} where
  -- what holds of a reading: P of what was read and the next place, Q of a fault's place
  abbrev pub Outcome : (A → ℕ → Type 0) → (ℕ → Type 0) → Reading A → Type 0
  Outcome P Q (got x next) = P x next
  Outcome P Q (fault place) = Q place

  pub outcome_map :
      (P : A → ℕ → Type 0) (Q : ℕ → Type 0) (P' : A → ℕ → Type 0) (Q' : ℕ → Type 0) (m : Reading A) →
      Outcome P Q m → ((x : A) (next : ℕ) → P x next → P' x next) → ((place : ℕ) → Q place → Q' place) → Outcome P' Q' m
  outcome_map P Q P' Q' (got x next) h f g = f x next h
  outcome_map P Q P' Q' (fault place) h f g = g place h

module _ {A B : Type 0} where
  -- one reading after another comes to what the second comes to where the first ended well
  pub outcome_onward :
      (P : A → ℕ → Type 0) (Q : ℕ → Type 0) (P' : B → ℕ → Type 0) (Q' : ℕ → Type 0) (m : Reading A) (rest : A → ℕ → Reading B) →
      Outcome P Q m → ((x : A) (next : ℕ) → P x next → Outcome P' Q' (rest x next)) → ((place : ℕ) → Q place → Q' place) →
      Outcome P' Q' (onward m rest)
  outcome_onward P Q P' Q' (got x next) rest h f g = f x next h
  outcome_onward P Q P' Q' (fault place) rest h f g = g place h

-- ── a field

-- a field that is there and keeps its rule is read
pub field_got : (width : ℕ) (rule : ℕ → Bool) (bytes : List ℕ) (place : ℕ) → place + width ≤ length bytes → T (rule (number_at width bytes place)) →
    field width rule bytes place ≡ got (number_at width bytes place) (place + width)
unfolding field
field_got width rule bytes place h t =
    cond_true (leb (place + width) (length bytes) && rule (number_at width bytes place)) (got (number_at width bytes place) (place + width)) (fault place)
    (and_both (leb (place + width) (length bytes)) (rule (number_at width bytes place)) (le→leb (place + width) (length bytes) h) t)

-- every field is read so, or faults at its start
pub field_outcome : (width : ℕ) (rule : ℕ → Bool) (bytes : List ℕ) (place : ℕ) (P : ℕ → ℕ → Type 0) (Q : ℕ → Type 0) →
    (place + width ≤ length bytes → T (rule (number_at width bytes place)) → P (number_at width bytes place) (place + width)) →
    (field width rule bytes place ≡ fault place → Q place) →
    Outcome P Q (field width rule bytes place)
unfolding field
field_outcome width rule bytes place P Q f q =
    let there = leb (place + width) (length bytes) in
    let kept = rule (number_at width bytes place) in
    ⊎_elim
    (λ (t : T (there && kept)).
    subst (λ (r : Reading ℕ). Outcome P Q r)
    (sym (cond_true (there && kept) (got (number_at width bytes place) (place + width)) (fault place) t))
    (f (leb→le (place + width) (length bytes) (and_left there kept t)) (and_right there kept t)))
    (λ (t : T (not (there && kept))).
    let e = cond_false (there && kept) (got (number_at width bytes place) (place + width)) (fault place) t in
    subst (λ (r : Reading ℕ). Outcome P Q r) (sym e) (q e))
    (T-cases (there && kept))

-- ── items in order

module _ {A : Type 0} (before : A → A → Bool) where
  -- ascending, the first behind the item before it
  abbrev pub chained : Option A → List A → Bool
  chained none l = ascending before l
  chained (some last) l = ascending before (last ∷ l)

  pub chained_nil : (last : Option A) → T (chained last [])
  chained_nil none = tt
  chained_nil (some last) = tt

  pub chained_cons : (last : Option A) (x : A) (l : List A) → chained last (x ∷ l) ≡ (follows before last x && chained (some x) l)
  chained_cons none x l = refl
  chained_cons (some last) x l = refl
