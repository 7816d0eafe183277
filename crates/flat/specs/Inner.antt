-- What is known of an array of structs is known of each struct in it: so the arrays inside a struct have their places.
use Rattle.std.proofs.Common.{sym, subst, map-id, not-suc-le-zero, le_of_suc-le-suc}
use Rattle.std.specs.Prelude.{List, [], ◌∷◌, map, ℕ, zero, suc, ◌<◌, length, get_or}
use mir.Val.{Val}
use Rattle.std.specs.Borrow.{Fml}
use denote.Shadow.{shadow}
use denote.Array.{each}

module _ {A B : Type 0} where
  pub each_at :
      (known : B → List Val → Fml) (g : A → B) (l : List A) (us : List Val) (i : ℕ) (d : A) → i < length l →
      shadow (each B known (map g l) us) → (u : Val) × shadow (known (g (get_or l i d)) (u ∷ []))
  each_at known g [] us i d h k = absurd (not-suc-le-zero h)
  each_at known g (x ∷ l) [] i d h k = absurd k
  each_at known g (x ∷ l) (u ∷ us) zero d h k = (u, k.0)
  each_at known g (x ∷ l) (u ∷ us) (suc i) d h k = each_at known g l us i d (le_of_suc-le-suc h) k.1

module _ {A : Type 0} where
  -- the same of an array that is lent or passed by itself
  pub each_in :
      (known : A → List Val → Fml) (l : List A) (us : List Val) (i : ℕ) (d : A) → i < length l →
      shadow (each A known l us) → (u : Val) × shadow (known (get_or l i d) (u ∷ []))
  each_in known l us i d h k = each_at known (λ x. x) l us i d h (subst (λ (m : List A). shadow (each A known m us)) (sym (map-id l)) k)
