-- Lists whose members all differ from each other, and sums over lists of lists and over what two tests keep.
use Rattle.std.specs.Prelude.{◌≡◌, refl, ◌⊎◌, Bool, true, false, not, cond, ◌&&◌, ◌||◌, ℕ, zero, suc, ◌+◌, ◌*◌, ◌≤◌, ◌<◌, T, length, get_or, take}
use Rattle.std.proofs.Common.{sym, ap, subst, ◌∙◌, inl, inr, not-suc-le-zero, le_of_suc-le-suc, zero-mul, suc-mul, arith}
use mathlib.Core.List.Memᴰ
use mathlib.Core.List.{List, [], ◌∷◌, ◌++◌, map, Memᴰ}
use Rattle.sets.specs.Sets.{all, keep, total, pairwise, once, gather}
use Rattle.sets.specs.Tests.{and_left, and_right, and_both}
use Rattle.sets.specs.Laws.{all_intro, all_elim, all_append, keep_all, total-append, gather_elim}
use Rattle.sets.specs.Maps.{all_map}

module _ {A : Type 0} where
  -- ── pairs of members

  -- of two members, either they are one, or the relation holds between them one way or the other
  pub pairwise_two : (r : A → A → Bool) {x y : A} (l : List A) → T (pairwise r l) → Memᴰ x l → Memᴰ y l → (x ≡ y) ⊎ (T (r x y) ⊎ T (r y x))
  pairwise_two r [] t m n = absurd (Memᴰ.not-nil m)
  pairwise_two r {x} {y} (z ∷ l) t m n =
      go (λ (a : Memᴰ x l) (b : Memᴰ y l). pairwise_two r l (and_right (all (r z) l) (pairwise r l) t) a b)
      (Memᴰ.cases_cons m) (Memᴰ.cases_cons n)
    where
      first : T (all (r z) l)
      first = and_left (all (r z) l) (pairwise r l) t

      go :
          (Memᴰ x l → Memᴰ y l → (x ≡ y) ⊎ (T (r x y) ⊎ T (r y x))) →
          (x ≡ z) ⊎ Memᴰ x l → (y ≡ z) ⊎ Memᴰ y l → (x ≡ y) ⊎ (T (r x y) ⊎ T (r y x))
      go f (inl e) (inl d) = inl (e ∙ sym d)
      go f (inl e) (inr b) = inr (inl (subst (λ (u : A). T (r u y)) (sym e) (all_elim (r z) first b)))
      go f (inr a) (inl d) = inr (inr (subst (λ (u : A). T (r u x)) (sym d) (all_elim (r z) first a)))
      go f (inr a) (inr b) = f a b

  -- a relation that follows from another between members
  pub pairwise_wider : (r q : A → A → Bool) (l : List A) → ((x y : A) → Memᴰ x l → Memᴰ y l → T (r x y) → T (q x y)) → T (pairwise r l) → T (pairwise q l)
  pairwise_wider r q [] f t = tt
  pairwise_wider r q (x ∷ l) f t =
      let first : T (all (r x) l) = and_left (all (r x) l) (pairwise r l) t in
      and_both (all (q x) l) (pairwise q l)
      (all_intro (q x) l (λ y m. f x y (Memᴰ.head refl) (Memᴰ.tail m) (all_elim (r x) first m)))
      (pairwise_wider r q l (λ y z m n. f y z (Memᴰ.tail m) (Memᴰ.tail n)) (and_right (all (r x) l) (pairwise r l) t))

  pub pairwise_append : (r : A → A → Bool) (l m : List A) → T (pairwise r l) → T (pairwise r m) → ((x y : A) → Memᴰ x l → Memᴰ y m → T (r x y)) → T (pairwise r (l ++ m))
  pairwise_append r [] m s t f = t
  pairwise_append r (x ∷ l) m s t f =
      and_both (all (r x) (l ++ m)) (pairwise r (l ++ m))
      (subst (λ (b : Bool). T b) (sym (all_append (r x) l m))
      (and_both (all (r x) l) (all (r x) m)
      (and_left (all (r x) l) (pairwise r l) s)
      (all_intro (r x) m (λ y k. f x y (Memᴰ.head refl) k))))
      (pairwise_append r l m (and_right (all (r x) l) (pairwise r l) s) t (λ y z k n. f y z (Memᴰ.tail k) n))

  -- where no two members count as one, each is there once
  pub once_different : (same : A → A → Bool) (l : List A) → T (pairwise (λ a b. not (same a b)) l) → once same l ≡ l
  once_different same [] t = refl
  once_different same (x ∷ l) t =
      let first : T (all (λ b. not (same x b)) l) = and_left (all (λ b. not (same x b)) l) (pairwise (λ a b. not (same a b)) l) t in
      ap (λ (r : List A). x ∷ keep (λ y. not (same x y)) r)
      (once_different same l (and_right (all (λ b. not (same x b)) l) (pairwise (λ a b. not (same a b)) l) t))
      ∙ ap (λ (r : List A). x ∷ r) (keep_all (λ y. not (same x y)) l (λ y m. all_elim (λ b. not (same x b)) first m))

  -- ── sums

  pub total_same : (f g : A → ℕ) (l : List A) → ((x : A) → Memᴰ x l → f x ≡ g x) → total f l ≡ total g l
  total_same f g [] h = refl
  total_same f g (x ∷ l) h = omega (arith, h x (Memᴰ.head refl), total_same f g l (λ y m. h y (Memᴰ.tail m)))

  -- what one of two tests keeps that never hold together
  pub total_either : (f : A → ℕ) (p q : A → Bool) (l : List A) → ((x : A) → Memᴰ x l → T (p x) → T (q x) → ⊥) → total f (keep (λ x. p x || q x) l) ≡ total f (keep p l) + total f (keep q l)
  total_either f p q [] h = omega arith
  total_either f p q (x ∷ l) h =
      let r : total f (keep (λ y. p y || q y) l) ≡ total f (keep p l) + total f (keep q l) = total_either f p q l (λ y m. h y (Memᴰ.tail m)) in
      (elim (p x) as
      (λ b.
      (T b → T (q x) → ⊥) →
      total f (cond (b || q x) (x ∷ keep (λ y. p y || q y) l) (keep (λ y. p y || q y) l))
      ≡ total f (cond b (x ∷ keep p l) (keep p l)) + total f (cond (q x) (x ∷ keep q l) (keep q l))) [
        | true ↦
            λ (n : Unit {0} → T (q x) → ⊥).
            (elim (q x) as
            (λ c.
            (T c → ⊥) →
            f x + total f (keep (λ y. p y || q y) l) ≡ (f x + total f (keep p l)) + total f (cond c (x ∷ keep q l) (keep q l))) [
              | true ↦ λ (k : Unit {0} → ⊥). absurd (k tt)
              | false ↦ λ (k : ⊥ → ⊥). omega arith
            ])
            (n tt)
        | false ↦
            λ (n : ⊥ → T (q x) → ⊥).
            elim (q x) as
            (λ c.
            total f (cond c (x ∷ keep (λ y. p y || q y) l) (keep (λ y. p y || q y) l))
            ≡ total f (keep p l) + total f (cond c (x ∷ keep q l) (keep q l)))
            [ true ↦ omega arith | false ↦ omega arith ]
      ])
      (h x (Memᴰ.head refl))

  -- what a test keeps sums to as much as the whole in which the others count nothing
  pub total_kept : (f : A → ℕ) (p : A → Bool) (l : List A) → total f (keep p l) ≡ total (λ x. cond (p x) (f x) 0) l
  total_kept f p [] = refl
  total_kept f p (x ∷ l) =
      let rest : total f (keep p l) ≡ total (λ y. cond (p y) (f y) 0) l = total_kept f p l in
      elim (p x) as (λ b. total f (cond b (x ∷ keep p l) (keep p l)) ≡ cond b (f x) 0 + total (λ y. cond (p y) (f y) 0) l)
      [ true ↦ ap (λ (n : ℕ). f x + n) rest | false ↦ omega (arith, rest) ]

  -- a sum is no less than one of its members, and than that of the first
  pub total_at : (f : A → ℕ) (l : List A) (i : ℕ) (d : A) → i < length l → f (get_or l i d) ≤ total f l
  total_at f [] i d h = absurd (not-suc-le-zero h)
  total_at f (x ∷ l) zero d h = omega arith
  total_at f (x ∷ l) (suc i) d h = omega (arith, total_at f l i d (le_of_suc-le-suc h))

  pub total_first : (f : A → ℕ) (l : List A) (i n : ℕ) → i ≤ n → total f (take i l) ≤ total f (take n l)
  total_first f l zero n h = omega arith
  total_first f [] (suc i) n h = omega arith
  total_first f (x ∷ l) (suc i) zero h = absurd (not-suc-le-zero h)
  total_first f (x ∷ l) (suc i) (suc n) h = omega (arith, total_first f l i n (le_of_suc-le-suc h))

  -- one number for each member
  pub total_each : (n : ℕ) (l : List A) → total (λ x. n) l ≡ length l * n
  total_each n [] = omega (arith, zero-mul n)
  total_each n (x ∷ l) = omega (arith, total_each n l, suc-mul (length l) n)

module _ {A B : Type 0} where
  pub total-gather : (f : B → ℕ) (g : A → List B) (l : List A) → total f (gather g l) ≡ total (λ x. total f (g x)) l
  total-gather f g [] = refl
  total-gather f g (x ∷ l) = omega (arith, total-append f (g x) (gather g l), total-gather f g l)

  pub pairwise_map : (r : B → B → Bool) (f : A → B) (l : List A) → pairwise r (map f l) ≡ pairwise (λ x y. r (f x) (f y)) l
  pairwise_map r f [] = refl
  pairwise_map r f (x ∷ l) =
      ap (λ (b : Bool). b && pairwise r (map f l)) (all_map (r (f x)) f l)
      ∙ ap (λ (b : Bool). all (λ y. r (f x) (f y)) l && b) (pairwise_map r f l)

  -- lists one after another, each of different members, and different from list to list
  pub pairwise-gather :
      (q : A → A → Bool) (r : B → B → Bool) (g : A → List B) (l : List A) → T (pairwise q l) →
      ((x : A) → Memᴰ x l → T (pairwise r (g x))) →
      ((x y : A) → T (q x y) → (a b : B) → Memᴰ a (g x) → Memᴰ b (g y) → T (r a b)) →
      T (pairwise r (gather g l))
  pairwise-gather q r g [] t h k = tt
  pairwise-gather q r g (x ∷ l) t h k =
      let first : T (all (q x) l) = and_left (all (q x) l) (pairwise q l) t in
      pairwise_append r (g x) (gather g l) (h x (Memᴰ.head refl))
      (pairwise-gather q r g l (and_right (all (q x) l) (pairwise q l) t) (λ y m. h y (Memᴰ.tail m)) k)
      (λ a b m n. let y = gather_elim g l n in k x y.0 (all_elim (q x) first y.1) a b m y.2)
