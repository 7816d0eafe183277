-- Lists told place by place: what loops write that fill one place of an array a turn.
use Rattle.std.specs.Prelude.{ℕ, zero, suc, ◌+◌, ◌≤◌, ◌<◌, ◌≡◌, refl, true, not, List, [], ◌∷◌, ◌++◌, map, T, ltb, length, get_or, take, set}
use Rattle.std.proofs.Common.{sym, ap, ◌∙◌, ⊎_elim, map-id, not-suc-le-zero, add-one, arith, ltb→lt, nltb→le, length-append}
use Rattle.std.proofs.Math.Decide.{le_ind}
use Rattle.std.proofs.Math.ListN.{get_or-append}
use Rattle.std.proofs.lemmas.List.{get_or_at}
use Rattle.sets.specs.Sets.{total}
use Rattle.sets.specs.Tests.{T-cases}
use Rattle.sets.specs.Laws.{total-append}
use Rattle.sets.specs.Fill.{filled, map_more, turn_filled}

module _ {A : Type 0} where
  -- what stands at the first n places
  abbrev pub listed : (ℕ → A) → ℕ → List A
  listed f zero = []
  listed f (suc n) = listed f n ++ f n ∷ []

  pub listed-length : (f : ℕ → A) (n : ℕ) → length (listed f n) ≡ n
  listed-length f zero = refl
  listed-length f (suc n) = omega (arith, length-append (listed f n) (f n ∷ []), listed-length f n)

  pub listed_at : (f : ℕ → A) (n i : ℕ) (d : A) → i < n → get_or (listed f n) i d ≡ f i
  listed_at f zero i d h = absurd (not-suc-le-zero h)
  listed_at f (suc n) i d h =
      ⊎_elim
      (λ (t : T (ltb i n)).
      let before : i < n = ltb→lt i n t in
      get_or-append (listed f n) (f n ∷ []) d i (omega (arith, listed-length f n)) ∙ listed_at f n i d before)
      (λ (t : T (not (ltb i n))).
      let last : n ≤ i = nltb→le i n t in
      let here : n ≡ i = omega arith in
      get_or_at (listed f n) (f n) [] d i (listed-length f n ∙ here) ∙ ap f here)
      (T-cases (ltb i n))

  -- a turn of a loop that writes the next place
  pub listed_turn :
      (n : ℕ) (z : A) (f : ℕ → A) (a : List A) (i : ℕ) (v : A) → i < n → a ≡ filled n z (listed f i) → v ≡ f i →
      set a i v ≡ filled n z (listed f (i + 1))
  listed_turn n z f a i v h e g =
      let at : i ≡ length (listed f i) = sym (listed-length f i) in
      let more : listed f (i + 1) ≡ listed f i ++ f i ∷ [] = rw add-one refl in
      turn_filled n z (listed f i) (listed f (i + 1)) a i true (f i) v h at e g more

  pub total-listed : (g : A → ℕ) (f : ℕ → A) (n : ℕ) → total g (listed f (suc n)) ≡ total g (listed f n) + g (f n)
  total-listed g f n = omega (arith, total-append g (listed f n) (f n ∷ []))

  -- more values sum to no less
  pub total-listed_more : (g : A → ℕ) (f : ℕ → A) (i n : ℕ) → i ≤ n → total g (listed f i) ≤ total g (listed f n)
  total-listed_more g f i n h =
      le_ind (λ (k : ℕ). total g (listed f i) ≤ total g (listed f k)) (omega arith)
      (λ (k : ℕ) (a : i ≤ k) (r : total g (listed f i) ≤ total g (listed f k)). omega (arith, total-listed g f k))
      n h

module _ {A B : Type 0} where
  -- where each place has what a member of a list gives, the whole is the list so mapped
  pub listed-map :
      (g : ℕ → B) (f : A → B) (l : List A) (d : A) (n : ℕ) → n ≤ length l → ((i : ℕ) → i < n → g i ≡ f (get_or l i d)) →
      listed g n ≡ map f (take n l)
  listed-map g f l d zero h same = refl
  listed-map g f l d (suc n) h same =
      let so_far : listed g n ≡ map f (take n l) = listed-map g f l d n (omega arith) (λ i k. same i (omega arith)) in
      let here : g n ≡ f (get_or l n d) = same n (omega arith) in
      (λ t. so_far t ++ here t ∷ []) ∙ sym (map_more f l n d h) ∙ ap (λ (k : ℕ). map f (take k l)) (add-one n)

module _ {A : Type 0} where
  -- a list is its places listed
  pub listed-take : (f : ℕ → A) (l : List A) (d : A) (n : ℕ) → n ≤ length l → ((i : ℕ) → i < n → f i ≡ get_or l i d) → listed f n ≡ take n l
  listed-take f l d n h same = listed-map f (λ (x : A). x) l d n h same ∙ map-id (take n l)
