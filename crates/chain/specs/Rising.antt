-- What `is_sorted_by` answers where its test is an order: whether the list ascends in it.
use Rattle.std.specs.Prelude.{◌≡◌, refl, Bool, true, false, List, [], ◌∷◌, ℕ, zero, suc, ◌+◌, ◌<◌, length, get_or}
use Rattle.std.specs.Fn.{Mut, Called, ComputesOnPairs}
use Rattle.std.specs.List.{IsAllAdjacentAnswer}
use Rattle.std.proofs.Common.{Bor, sym, arith}
use native.Mathlib.Numerals.{unary_clauses}
use Rattle.std.proofs.Math.Bool.{and-false}
use Rattle.std.proofs.lemmas.List.Sorted.{answers_always}
use Rattle.sets.specs.Sets.{ascending}

module _ {A : Type 0} (before : A → A → Bool) where
  -- each member is before the next
  all_rise : (l : List A) → ((k : ℕ) (d : A) → k + 1 < length l → true ≡ before (get_or l k d) (get_or l (k + 1) d)) → true ≡ ascending before l
  all_rise [] f = refl
  all_rise (x ∷ []) f = refl
  all_rise (x ∷ y ∷ l) f = rw (sym (f 0 x (omega arith))) (all_rise (y ∷ l) (λ k d h. simp unary_clauses (simp unary_clauses at (f (suc k) d (omega arith)))))

  -- one member is not before the next
  one_falls : (l : List A) (k : ℕ) → k + 1 < length l → ((d : A) → false ≡ before (get_or l k d) (get_or l (k + 1) d)) → false ≡ ascending before l
  one_falls [] k h f = absurd (omega arith)
  one_falls (x ∷ []) k h f = absurd (omega arith)
  one_falls (x ∷ y ∷ l) zero h f = rw (sym (f x)) refl
  one_falls (x ∷ y ∷ l) (suc k) h f = sym (rw (sym (one_falls (y ∷ l) k (omega arith) (λ d. simp unary_clauses (simp unary_clauses at (f d))))) (and-false (before x y)))

  pub rises :
      {F : Type 0} {g : Mut F (Bor A × (Bor A × Unit {0})) Bool} {test : F} (l : List A) (r : Bool) →
      ((e : A → A → Bool) → ComputesOnPairs g e test → IsAllAdjacentAnswer (λ x y b. b ≡ e x y) l r) →
      ((f : F) (a : Bor A × (Bor A × Unit {0})) (b : Bool) (f' : F) → Called g f a b f' → b ≡ before a.0.now a.1.0.now) →
      r ≡ ascending before l
  rises {g = g} {test} l r clause calls = told r (clause before (answers_always g (λ a b. b ≡ before a.0.now a.1.0.now) test calls))
    where
      told : (r : Bool) → IsAllAdjacentAnswer (λ x y b. b ≡ before x y) l r → r ≡ ascending before l
      told true f = all_rise l f
      told false f = one_falls l f.0 f.1 f.2
