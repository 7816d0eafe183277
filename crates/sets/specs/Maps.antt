-- Lists seen through a map: what a test finds, keeps and picks of a mapped list, and two lists of which one is the other
-- seen through a map.
use Rattle.std.specs.Prelude.{◌≡◌, refl, Bool, true, false, cond, ◌&&◌, ◌||◌, T}
use Rattle.std.proofs.Common.{sym, ap, subst, ◌∙◌}
use Rattle.std.proofs.Math.Bool.{and-true, and-false}
use mathlib.Core.List.{List, [], ◌∷◌, map, map-map, Memᴰ}
use Rattle.sets.specs.Sets.{any, all, keep, place, gather}
use Rattle.sets.specs.Tests.{and_right, and_both, same_test}
use Rattle.sets.specs.Laws.{any_intro, any_elim, any_append, all_intro, all_elim, keep_from, keep_holds, keep_intro, keep_same, keep-keep, map_intro, map_elim}

module _ {A : Type 0} where
  -- two tests that agree on the members find the same
  pub any_same : (p q : A → Bool) (l : List A) → ((x : A) → Memᴰ x l → p x ≡ q x) → any p l ≡ any q l
  any_same p q [] f = refl
  any_same p q (x ∷ l) f =
      ap (λ (b : Bool). b || any p l) (f x (Memᴰ.head refl))
      ∙ ap (λ (b : Bool). q x || b) (any_same p q l (λ y m. f y (Memᴰ.tail m)))

  pub all_same : (p q : A → Bool) (l : List A) → ((x : A) → Memᴰ x l → p x ≡ q x) → all p l ≡ all q l
  all_same p q [] f = refl
  all_same p q (x ∷ l) f =
      ap (λ (b : Bool). b && all p l) (f x (Memᴰ.head refl))
      ∙ ap (λ (b : Bool). q x && b) (all_same p q l (λ y m. f y (Memᴰ.tail m)))

  pub any-keep : (p q : A → Bool) (l : List A) → any p (keep q l) ≡ any (λ x. p x && q x) l
  any-keep p q [] = refl
  any-keep p q (x ∷ l) =
      elim (q x) as (λ b. any p (cond b (x ∷ keep q l) (keep q l)) ≡ ((p x && b) || any (λ y. p y && q y) l)) [
        | true ↦ ap (λ (b : Bool). p x || b) (any-keep p q l) ∙ ap (λ (b : Bool). b || any (λ y. p y && q y) l) (sym (and-true (p x)))
        | false ↦ any-keep p q l ∙ ap (λ (b : Bool). b || any (λ y. p y && q y) l) (sym (and-false (p x)))
      ]

  -- what holds beside a fact that does not speak of the members
  pub any_and : (a : Bool) (p : A → Bool) (l : List A) → any (λ x. a && p x) l ≡ (a && any p l)
  any_and true p l = refl
  any_and false p [] = refl
  any_and false p (x ∷ l) = any_and false p l

  -- a test that a narrower one implies is not asked for
  pub keep_wider : (p q : A → Bool) (l : List A) → ((x : A) → Memᴰ x l → T (p x) → T (q x)) → keep p (keep q l) ≡ keep p l
  keep_wider p q l h =
      keep-keep p q l
      ∙ keep_same (λ x. q x && p x) p l
      (λ x m. same_test (q x && p x) (p x) (λ t. and_right (q x) (p x) t) (λ t. and_both (q x) (p x) (h x m t) t))

module _ {A B : Type 0} where
  pub any-map : (p : B → Bool) (f : A → B) (l : List A) → any p (map f l) ≡ any (λ x. p (f x)) l
  any-map p f [] = refl
  any-map p f (x ∷ l) = ap (λ (b : Bool). p (f x) || b) (any-map p f l)

  pub all_map : (p : B → Bool) (f : A → B) (l : List A) → all p (map f l) ≡ all (λ x. p (f x)) l
  all_map p f [] = refl
  all_map p f (x ∷ l) = ap (λ (b : Bool). p (f x) && b) (all_map p f l)

  -- some member of some list
  pub any-gather : (p : B → Bool) (f : A → List B) (l : List A) → any p (gather f l) ≡ any (λ x. any p (f x)) l
  any-gather p f [] = refl
  any-gather p f (x ∷ l) = any_append p (f x) (gather f l) ∙ ap (λ (b : Bool). any p (f x) || b) (any-gather p f l)

  -- what a test keeps of mapped members is what the test of their images keeps, mapped
  pub keep-map : (p : B → Bool) (f : A → B) (l : List A) → keep p (map f l) ≡ map f (keep (λ x. p (f x)) l)
  keep-map p f [] = refl
  keep-map p f (x ∷ l) =
      elim (p (f x)) as (λ b. cond b (f x ∷ keep p (map f l)) (keep p (map f l)) ≡ map f (cond b (x ∷ keep (λ y. p (f y)) l) (keep (λ y. p (f y)) l)))
      [ true ↦ ap (λ (r : List B). f x ∷ r) (keep-map p f l) | false ↦ keep-map p f l ]

  pub place_map : (before : B → B → Bool) (f : A → B) (x : A) (l : List A) → map f (place (λ a b. before (f a) (f b)) x l) ≡ place before (f x) (map f l)
  place_map before f x [] = refl
  place_map before f x (y ∷ l) =
      elim (before (f x) (f y)) as
      (λ b.
      map f (cond b (x ∷ y ∷ l) (y ∷ place (λ a c. before (f a) (f c)) x l))
      ≡ cond b (f x ∷ f y ∷ map f l) (f y ∷ place before (f x) (map f l)))
      [ true ↦ refl | false ↦ ap (λ (r : List B). f y ∷ r) (place_map before f x l) ]

  -- what a test picks is the image of a member that passes it
  pub picked_elim : (p : A → Bool) (f : A → B) {y : B} (l : List A) → Memᴰ y (map f (keep p l)) → (x : A) × Memᴰ x l × T (p x) × (y ≡ f x)
  picked_elim p f l m = let r = map_elim f (keep p l) m in (r.0, keep_from p l r.1, keep_holds p l r.1, r.2)

  pub picked_intro : (p : A → Bool) (f : A → B) {x : A} (l : List A) → Memᴰ x l → T (p x) → Memᴰ (f x) (map f (keep p l))
  picked_intro p f l m t = map_intro f (keep_intro p l m t)

module _ {A B C : Type 0} where
  -- what a test keeps of a mapped list, read off by a map, is what a test of the first list keeps, read off there
  pub map-keep-map :
      (g : B → C) (p : B → Bool) (f : A → B) (q : A → Bool) (l : List A) → ((x : A) → Memᴰ x l → p (f x) ≡ q x) →
      map g (keep p (map f l)) ≡ map (λ x. g (f x)) (keep q l)
  map-keep-map g p f q l h =
      ap (λ (r : List B). map g r) (keep-map p f l)
      ∙ map-map g f (keep (λ x. p (f x)) l)
      ∙ ap (λ (r : List A). map (λ x. g (f x)) r) (keep_same (λ x. p (f x)) q l h)

  -- the same where a wider test has kept first
  pub map-keep_wider :
      (g : B → C) (p w : B → Bool) (f : A → B) (q : A → Bool) (l : List A) → ((y : B) → T (p y) → T (w y)) →
      ((x : A) → Memᴰ x l → p (f x) ≡ q x) → map g (keep p (keep w (map f l))) ≡ map (λ x. g (f x)) (keep q l)
  map-keep_wider g p w f q l wider h =
      ap (λ (r : List B). map g r) (keep_wider p w (map f l) (λ y m. wider y)) ∙ map-keep-map g p f q l h

-- two lists of which each member of one, seen through a map, is a member of the other
module _ {A B : Type 0} (f : A → B) (places : List A) (held : List B)
    (up : (x : A) → Memᴰ x places → Memᴰ (f x) held) (down : (y : B) → Memᴰ y held → (x : A) × Memᴰ x places × (y ≡ f x)) where
  pub any_seen : (p : B → Bool) → any p held ≡ any (λ x. p (f x)) places
  any_seen p =
      same_test (any p held) (any (λ x. p (f x)) places)
      (λ (t : T (any p held)).
      let r = any_elim p held t in
      let k = down r.0 r.1 in
      any_intro (λ x. p (f x)) k.1 (subst (λ (y : B). T (p y)) k.2 r.2))
      (λ (t : T (any (λ x. p (f x)) places)).
      let r = any_elim (λ x. p (f x)) places t in
      any_intro p (up r.0 r.1) r.2)

  pub all_seen : (p : B → Bool) → all p held ≡ all (λ x. p (f x)) places
  all_seen p =
      same_test (all p held) (all (λ x. p (f x)) places)
      (λ (t : T (all p held)). all_intro (λ x. p (f x)) places (λ x m. all_elim p t (up x m)))
      (λ (t : T (all (λ x. p (f x)) places)).
      all_intro p held
      (λ y m.
      let k = down y m in
      subst (λ (z : B). T (p z)) (sym k.2) (all_elim (λ x. p (f x)) t k.1)))
