-- From the code's structs back to the readings: an answer with the value beside it is one reading.
use Rattle.std.specs.Prelude.{◌≡◌, ℕ, Result, Ok, Err}
use Rattle.std.proofs.Common.{sym, ap, ◌∙◌, arith}
use Rattle.format.specs.Fields.{Reading, got, fault}
use Rattle.feed.specs.Structs.{read_as}
use Rattle.feed.specs.declared.fields.Fault.{Fault}
use Rattle.feed.specs.declared.items.Read.{Read}

never_both : {P : Type 0} (next : ℕ) (f : Fault) → ◌≡◌ {A = Result ℕ Fault} (Ok next) (Err f) → P
never_both next f e =
    let z : ◌≡◌ {A = ℕ} 0 1 = cc in
    let never : ⊥ = omega arith in
    absurd never

module _ {A S : Type 0} (form : A → S) (z : S) where
  -- what was read, by the answer's next place
  pub reading_got : (m : Reading A) (r : Read S) (next : ℕ) → r ≡ read_as form z m → r.answer ≡ Ok next →
      (x : A) × (m ≡ got x next) × (r.value ≡ form x)
  reading_got (got x n) r next e g =
      let same : n ≡ next = cc in
      (x, ap (λ (k : ℕ). got x k) same, ap (λ (s : Read S). s.value) e)
  reading_got (fault p) r next e g = never_both next (record { place = p }) (sym g ∙ ap (λ (s : Read S). s.answer) e)

  pub reading_fault : (m : Reading A) (r : Read S) (f : Fault) → r ≡ read_as form z m → r.answer ≡ Err f → m ≡ fault f.place
  reading_fault (got x n) r f e g = never_both n f (sym (ap (λ (s : Read S). s.answer) e) ∙ g)
  reading_fault (fault q) r f e g =
      let same : q ≡ f.place = cc in
      ap (λ (k : ℕ). fault k) same
