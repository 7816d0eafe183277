-- Laws of the set tools: what a member of each is, and what holds of all members. None of them asks for an order.
use Rattle.std.specs.Prelude.{◌≡◌, refl, ◌⊎◌, Bool, true, false, not, cond, ◌&&◌, ◌||◌, ℕ, suc, ◌+◌, ◌*◌, ◌^◌, ◌≤◌, T, leb, length}
use Rattle.std.proofs.Common.{sym, ap, subst, ◌∙◌, inl, inr, ⊎_elim, suc-mul, pow-suc, arith, T_not, leb→le, length-append}
use mathlib.Core.List.{List, [], ◌∷◌, ◌++◌, map, Memᴰ, append_assoc}
use Rattle.std.proofs.Math.Dec.{nleb→lt}
use Rattle.std.proofs.lemmas.List.{length-map}
use Rattle.sets.specs.Sets.{least_of, any, all, keep, total, same_list, has, place, insert, together, choices, gather}
use Rattle.sets.specs.Tests.{or_left, or_right, or_cases, and_left, and_right, and_both, T-cases, cond_true, cond_false}

module _ {A : Type 0} where
  -- a test carried along an equation
  pub holds_at : (p : A → Bool) (x y : A) → x ≡ y → T (p x) → T (p y)
  holds_at p x y e t = subst (λ (z : A). T (p z)) e t

  -- ── some member, every member

  pub any_intro : (p : A → Bool) {x : A} {l : List A} → Memᴰ x l → T (p x) → T (any p l)
  any_intro p {x} (mathlib.Core.List.Memᴰ.head {x = y} {xs = l} e) t = or_left (p y) (any p l) (holds_at p x y e t)
  any_intro p (mathlib.Core.List.Memᴰ.tail {x = y} {xs = l} m) t = or_right (p y) (any p l) (any_intro p m t)

  pub any_elim : (p : A → Bool) (l : List A) → T (any p l) → (x : A) × Memᴰ x l × T (p x)
  any_elim p [] t = absurd t
  any_elim p (y ∷ l) t =
      ⊎_elim
      (λ (h : T (p y)). (y, mathlib.Core.List.Memᴰ.head refl, h))
      (λ (h : T (any p l)). let r = any_elim p l h in (r.0, mathlib.Core.List.Memᴰ.tail r.1, r.2))
      (or_cases (p y) (any p l) t)

  pub all_elim : (p : A → Bool) {x : A} {l : List A} → T (all p l) → Memᴰ x l → T (p x)
  all_elim p {x} t (mathlib.Core.List.Memᴰ.head {x = y} {xs = l} e) = holds_at p y x (sym e) (and_left (p y) (all p l) t)
  all_elim p t (mathlib.Core.List.Memᴰ.tail {x = y} {xs = l} m) = all_elim p (and_right (p y) (all p l) t) m

  pub all_intro : (p : A → Bool) (l : List A) → ((x : A) → Memᴰ x l → T (p x)) → T (all p l)
  all_intro p [] f = tt
  all_intro p (y ∷ l) f =
      and_both (p y) (all p l) (f y (mathlib.Core.List.Memᴰ.head refl)) (all_intro p l (λ x m. f x (mathlib.Core.List.Memᴰ.tail m)))

  -- no member has a test
  pub any_none : (p : A → Bool) (l : List A) → ((x : A) → Memᴰ x l → T (p x) → ⊥) → T (not (any p l))
  any_none p l f =
      ⊎_elim
      (λ (h : T (any p l)). let r = any_elim p l h in absurd (f r.0 r.1 r.2))
      (λ (h : T (not (any p l))). h)
      (T-cases (any p l))

  pub any_not : (p : A → Bool) {x : A} {l : List A} → T (not (any p l)) → Memᴰ x l → T (p x) → ⊥
  any_not p {l = l} n m t = T_not (any p l) n (any_intro p m t)

  pub any_append : (p : A → Bool) (l m : List A) → any p (l ++ m) ≡ (any p l || any p m)
  any_append p [] m = refl
  any_append p (x ∷ l) m =
      elim (p x) as (λ b. (b || any p (l ++ m)) ≡ ((b || any p l) || any p m)) [ true ↦ refl | false ↦ any_append p l m ]

  pub all_append : (p : A → Bool) (l m : List A) → all p (l ++ m) ≡ (all p l && all p m)
  all_append p [] m = refl
  all_append p (x ∷ l) m =
      elim (p x) as (λ b. (b && all p (l ++ m)) ≡ ((b && all p l) && all p m)) [ true ↦ all_append p l m | false ↦ refl ]

  -- ── the members kept

  pub keep_from : (p : A → Bool) {x : A} (l : List A) → Memᴰ x (keep p l) → Memᴰ x l
  keep_from p [] m = m
  keep_from p {x} (y ∷ l) m =
      (elim (p y) as (λ b. Memᴰ x (cond b (y ∷ keep p l) (keep p l)) → Memᴰ x (y ∷ l)) [
        | true ↦
            λ (h : Memᴰ x (y ∷ keep p l)).
            ⊎_elim (λ (e : x ≡ y). mathlib.Core.List.Memᴰ.head e) (λ (k : Memᴰ x (keep p l)). mathlib.Core.List.Memᴰ.tail (keep_from p l k)) (mathlib.Core.List.Memᴰ.cases_cons h)
        | false ↦ λ (h : Memᴰ x (keep p l)). mathlib.Core.List.Memᴰ.tail (keep_from p l h)
      ])
      m

  pub keep_holds : (p : A → Bool) {x : A} (l : List A) → Memᴰ x (keep p l) → T (p x)
  keep_holds p [] m = absurd (mathlib.Core.List.Memᴰ.not-nil m)
  keep_holds p {x} (y ∷ l) m =
      (elim (p y) as (λ b. (T b → T (p y)) → Memᴰ x (cond b (y ∷ keep p l) (keep p l)) → T (p x)) [
        | true ↦
            λ (k : Unit {0} → T (p y)) (h : Memᴰ x (y ∷ keep p l)).
            ⊎_elim (λ (e : x ≡ y). holds_at p y x (sym e) (k tt)) (λ (r : Memᴰ x (keep p l)). keep_holds p l r) (mathlib.Core.List.Memᴰ.cases_cons h)
        | false ↦ λ (k : ⊥ → T (p y)) (h : Memᴰ x (keep p l)). keep_holds p l h
      ])
      (λ t. t)
      m

  pub keep_intro : (p : A → Bool) {x : A} (l : List A) → Memᴰ x l → T (p x) → Memᴰ x (keep p l)
  keep_intro p [] m t = m
  keep_intro p {x} (y ∷ l) m t =
      ⊎_elim
      (λ (e : x ≡ y).
      subst (λ (k : List A). Memᴰ x k)
      (sym (cond_true (p y) (y ∷ keep p l) (keep p l) (holds_at p x y e t)))
      (mathlib.Core.List.Memᴰ.head {xs = keep p l} e))
      (λ (h : Memᴰ x l).
      let r : Memᴰ x (keep p l) = keep_intro p l h t in
      elim (p y) as (λ b. Memᴰ x (cond b (y ∷ keep p l) (keep p l))) [ true ↦ mathlib.Core.List.Memᴰ.tail r | false ↦ r ])
      (mathlib.Core.List.Memᴰ.cases_cons m)

  pub keep_append : (p : A → Bool) (l m : List A) → keep p (l ++ m) ≡ keep p l ++ keep p m
  keep_append p [] m = refl
  keep_append p (x ∷ l) m =
      elim (p x) as (λ b. cond b (x ∷ keep p (l ++ m)) (keep p (l ++ m)) ≡ cond b (x ∷ keep p l) (keep p l) ++ keep p m)
      [ true ↦ ap (λ (r : List A). x ∷ r) (keep_append p l m) | false ↦ keep_append p l m ]

  -- nothing is lost where the test holds of all, and everything where it holds of none
  pub keep_all : (p : A → Bool) (l : List A) → ((x : A) → Memᴰ x l → T (p x)) → keep p l ≡ l
  keep_all p [] f = refl
  keep_all p (x ∷ l) f =
      cond_true (p x) (x ∷ keep p l) (keep p l) (f x (mathlib.Core.List.Memᴰ.head refl))
      ∙ ap (λ (r : List A). x ∷ r) (keep_all p l (λ y m. f y (mathlib.Core.List.Memᴰ.tail m)))

  pub keep_none : (p : A → Bool) (l : List A) → ((x : A) → Memᴰ x l → T (not (p x))) → keep p l ≡ []
  keep_none p [] f = refl
  keep_none p (x ∷ l) f =
      cond_false (p x) (x ∷ keep p l) (keep p l) (f x (mathlib.Core.List.Memᴰ.head refl))
      ∙ keep_none p l (λ y m. f y (mathlib.Core.List.Memᴰ.tail m))

  -- two tests that agree on the members keep the same
  pub keep_same : (p q : A → Bool) (l : List A) → ((x : A) → Memᴰ x l → p x ≡ q x) → keep p l ≡ keep q l
  keep_same p q [] f = refl
  keep_same p q (x ∷ l) f =
      ap (λ (b : Bool). cond b (x ∷ keep p l) (keep p l)) (f x (mathlib.Core.List.Memᴰ.head refl))
      ∙ ap (λ (r : List A). cond (q x) (x ∷ r) r) (keep_same p q l (λ y m. f y (mathlib.Core.List.Memᴰ.tail m)))

  -- keeping twice is keeping by both tests
  pub keep-keep : (p q : A → Bool) (l : List A) → keep p (keep q l) ≡ keep (λ x. q x && p x) l
  keep-keep p q [] = refl
  keep-keep p q (x ∷ l) =
      elim (q x) as
      (λ b. keep p (cond b (x ∷ keep q l) (keep q l)) ≡ cond (b && p x) (x ∷ keep (λ y. q y && p y) l) (keep (λ y. q y && p y) l))
      [ true ↦ ap (λ (r : List A). cond (p x) (x ∷ r) r) (keep-keep p q l) | false ↦ keep-keep p q l ]

  pub keep-length : (p : A → Bool) (l : List A) → length (keep p l) ≤ length l
  keep-length p [] = omega arith
  keep-length p (x ∷ l) =
      let h : length (keep p l) ≤ length l = keep-length p l in
      elim (p x) as (λ b. length (cond b (x ∷ keep p l) (keep p l)) ≤ suc (length l)) [ true ↦ omega arith | false ↦ omega arith ]

  -- ── sums

  pub total-append : (f : A → ℕ) (l m : List A) → total f (l ++ m) ≡ total f l + total f m
  total-append f [] m = omega arith
  total-append f (x ∷ l) m = omega (arith, total-append f l m)

  pub total-keep : (f : A → ℕ) (p : A → Bool) (l : List A) → total f (keep p l) ≤ total f l
  total-keep f p [] = omega arith
  total-keep f p (x ∷ l) =
      let h : total f (keep p l) ≤ total f l = total-keep f p l in
      elim (p x) as (λ b. total f (cond b (x ∷ keep p l) (keep p l)) ≤ f x + total f l) [ true ↦ omega arith | false ↦ omega arith ]

  -- what is kept and what is not make the whole
  pub total_split : (f : A → ℕ) (p : A → Bool) (l : List A) → total f (keep p l) + total f (keep (λ x. not (p x)) l) ≡ total f l
  total_split f p [] = omega arith
  total_split f p (x ∷ l) =
      let h : total f (keep p l) + total f (keep (λ y. not (p y)) l) ≡ total f l = total_split f p l in
      elim (p x) as
      (λ b.
      total f (cond b (x ∷ keep p l) (keep p l))
      + total f (cond (not b) (x ∷ keep (λ y. not (p y)) l) (keep (λ y. not (p y)) l))
      ≡ f x + total f l)
      [ true ↦ omega arith | false ↦ omega arith ]

  -- a stricter test keeps no more
  pub total_narrower : (f : A → ℕ) (p q : A → Bool) (l : List A) → ((x : A) → Memᴰ x l → T (p x) → T (q x)) → total f (keep p l) ≤ total f (keep q l)
  total_narrower f p q [] h = omega arith
  total_narrower f p q (x ∷ l) h =
      let r : total f (keep p l) ≤ total f (keep q l) = total_narrower f p q l (λ y m. h y (mathlib.Core.List.Memᴰ.tail m)) in
      ⊎_elim
      (λ (t : T (p x)).
      rw (cond_true (p x) (x ∷ keep p l) (keep p l) t, cond_true (q x) (x ∷ keep q l) (keep q l) (h x (mathlib.Core.List.Memᴰ.head refl) t)) (omega arith))
      (λ (t : T (not (p x))).
      rw (cond_false (p x) (x ∷ keep p l) (keep p l) t)
      (elim (q x) as (λ b. total f (keep p l) ≤ total f (cond b (x ∷ keep q l) (keep q l))) [ true ↦ omega arith | false ↦ omega arith ]))
      (T-cases (p x))

  -- a sum of numbers each at most n
  pub total_bound : (f : A → ℕ) (n : ℕ) (l : List A) → ((x : A) → Memᴰ x l → f x ≤ n) → total f l ≤ length l * n
  total_bound f n [] h = omega arith
  total_bound f n (x ∷ l) h =
      let a : f x ≤ n = h x (mathlib.Core.List.Memᴰ.head refl) in
      let r : total f l ≤ length l * n = total_bound f n l (λ y m. h y (mathlib.Core.List.Memᴰ.tail m)) in
      rw (suc-mul (length l) n) (omega arith)

  -- ── a member more, two sets together

  pub place_from : (before : A → A → Bool) {x y : A} (l : List A) → Memᴰ y (place before x l) → (y ≡ x) ⊎ Memᴰ y l
  place_from before [] m = mathlib.Core.List.Memᴰ.cases_cons m
  place_from before {x} {y} (z ∷ l) m =
      (elim (before x z) as (λ b. Memᴰ y (cond b (x ∷ z ∷ l) (z ∷ place before x l)) → (y ≡ x) ⊎ Memᴰ y (z ∷ l)) [
        | true ↦ λ (h : Memᴰ y (x ∷ z ∷ l)). mathlib.Core.List.Memᴰ.cases_cons h
        | false ↦
            λ (h : Memᴰ y (z ∷ place before x l)).
            ⊎_elim
            (λ (e : y ≡ z). inr (mathlib.Core.List.Memᴰ.head e))
            (λ (k : Memᴰ y (place before x l)).
            ⊎_elim (λ (e : y ≡ x). inl e) (λ (r : Memᴰ y l). inr (mathlib.Core.List.Memᴰ.tail r)) (place_from before l k))
            (mathlib.Core.List.Memᴰ.cases_cons h)
      ])
      m

  pub place_new : (before : A → A → Bool) (x : A) (l : List A) → Memᴰ x (place before x l)
  place_new before x [] = mathlib.Core.List.Memᴰ.head refl
  place_new before x (z ∷ l) =
      let r : Memᴰ x (place before x l) = place_new before x l in
      elim (before x z) as (λ b. Memᴰ x (cond b (x ∷ z ∷ l) (z ∷ place before x l))) [ true ↦ mathlib.Core.List.Memᴰ.head refl | false ↦ mathlib.Core.List.Memᴰ.tail r ]

  pub place_old : (before : A → A → Bool) (x : A) {y : A} (l : List A) → Memᴰ y l → Memᴰ y (place before x l)
  place_old before x [] m = mathlib.Core.List.Memᴰ.tail m
  place_old before x {y} (z ∷ l) m =
      let r : Memᴰ y l → Memᴰ y (place before x l) = place_old before x l in
      elim (before x z) as (λ b. Memᴰ y (cond b (x ∷ z ∷ l) (z ∷ place before x l))) [
        | true ↦ mathlib.Core.List.Memᴰ.tail m
        | false ↦ ⊎_elim (λ (e : y ≡ z). mathlib.Core.List.Memᴰ.head e) (λ (h : Memᴰ y l). mathlib.Core.List.Memᴰ.tail (r h)) (mathlib.Core.List.Memᴰ.cases_cons m)
      ]

  pub place-length : (before : A → A → Bool) (x : A) (l : List A) → length (place before x l) ≡ suc (length l)
  place-length before x [] = refl
  place-length before x (y ∷ l) =
      elim (before x y) as (λ b. length (cond b (x ∷ y ∷ l) (y ∷ place before x l)) ≡ suc (suc (length l)))
      [ true ↦ refl | false ↦ ap suc (place-length before x l) ]

  module _ (same before : A → A → Bool) where
    pub insert_from : {x y : A} (l : List A) → Memᴰ y (insert same before x l) → (y ≡ x) ⊎ Memᴰ y l
    insert_from {x} {y} l m =
        (elim (has same x l) as (λ b. Memᴰ y (cond b l (place before x l)) → (y ≡ x) ⊎ Memᴰ y l)
        [ true ↦ λ (h : Memᴰ y l). inr h | false ↦ λ (h : Memᴰ y (place before x l)). place_from before l h ])
        m

    pub insert_old : (x : A) {y : A} (l : List A) → Memᴰ y l → Memᴰ y (insert same before x l)
    insert_old x {y} l m =
        elim (has same x l) as (λ b. Memᴰ y (cond b l (place before x l))) [ true ↦ m | false ↦ place_old before x l m ]

    -- x itself, or what counts as x, is in the set with x
    pub insert_new : (x : A) (l : List A) → T (same x x) → (z : A) × Memᴰ z (insert same before x l) × T (same x z)
    insert_new x l t =
        (elim (has same x l) as (λ b. (T b → T (has same x l)) → (z : A) × Memᴰ z (cond b l (place before x l)) × T (same x z)) [
          | true ↦ λ (k : Unit {0} → T (has same x l)). any_elim (same x) l (k tt)
          | false ↦ λ (k : ⊥ → T (has same x l)). (x, place_new before x l, t)
        ])
        (λ h. h)

    pub together_from : {y : A} (l m : List A) → Memᴰ y (together same before l m) → Memᴰ y l ⊎ Memᴰ y m
    together_from l [] h = inl h
    together_from {y} l (x ∷ m) h =
        ⊎_elim
        (λ (e : y ≡ x). inr (mathlib.Core.List.Memᴰ.head e))
        (λ (k : Memᴰ y (together same before l m)).
        ⊎_elim (λ (a : Memᴰ y l). inl a) (λ (b : Memᴰ y m). inr (mathlib.Core.List.Memᴰ.tail b)) (together_from l m k))
        (insert_from (together same before l m) h)

    -- two lists put together with a set, one after the other
    pub together-append : (l m n : List A) → together same before l (m ++ n) ≡ together same before (together same before l n) m
    together-append l [] n = refl
    together-append l (x ∷ m) n = ap (insert same before x) (together-append l m n)

    pub together_left : {y : A} (l m : List A) → Memᴰ y l → Memᴰ y (together same before l m)
    together_left l [] h = h
    together_left l (x ∷ m) h = insert_old x (together same before l m) (together_left l m h)

    -- what counts as y is in the two sets together
    pub together_right : {y : A} (l m : List A) → ((x : A) → T (same x x)) → Memᴰ y m → (z : A) × Memᴰ z (together same before l m) × T (same y z)
    together_right l [] r h = absurd (mathlib.Core.List.Memᴰ.not-nil h)
    together_right {y} l (x ∷ m) r h =
        ⊎_elim
        (λ (e : y ≡ x).
        let k = insert_new x (together same before l m) (r x) in
        (k.0, k.1, subst (λ (u : A). T (same u k.0)) (sym e) k.2))
        (λ (h' : Memᴰ y m).
        let k = together_right l m r h' in
        (k.0, insert_old x (together same before l m) k.1, k.2))
        (mathlib.Core.List.Memᴰ.cases_cons h)

    -- where sameness is equality, y itself is there
    pub together_both : {y : A} (l m : List A) → ((x : A) → T (same x x)) → ((x z : A) → T (same x z) → x ≡ z) → Memᴰ y m → Memᴰ y (together same before l m)
    together_both {y} l m r e h = let k = together_right l m r h in mathlib.Core.List.Memᴰ.cast (e y k.0 k.2) k.1

    -- nothing new comes in where all is there already
    pub together_known : (l m : List A) → ((x : A) → Memᴰ x m → T (has same x l)) → together same before l m ≡ l
    together_known l [] f = refl
    together_known l (x ∷ m) f =
        ap (λ (s : List A). insert same before x s) (together_known l m (λ y h. f y (mathlib.Core.List.Memᴰ.tail h)))
        ∙ cond_true (has same x l) l (place before x l) (f x (mathlib.Core.List.Memᴰ.head refl))

  -- ── all choices

  pub choices_none : (l : List A) → Memᴰ [] (choices l)
  choices_none [] = mathlib.Core.List.Memᴰ.head refl
  choices_none (x ∷ l) = mathlib.Core.List.Memᴰ.append_right (map (λ c. x ∷ c) (choices l)) (choices_none l)

module _ {A B : Type 0} where
  pub map_intro : (f : A → B) {x : A} {l : List A} → Memᴰ x l → Memᴰ (f x) (map f l)
  map_intro f (mathlib.Core.List.Memᴰ.head e) = mathlib.Core.List.Memᴰ.head (ap f e)
  map_intro f (mathlib.Core.List.Memᴰ.tail m) = mathlib.Core.List.Memᴰ.tail (map_intro f m)

  pub map_elim : (f : A → B) {y : B} (l : List A) → Memᴰ y (map f l) → (x : A) × Memᴰ x l × (y ≡ f x)
  map_elim f [] m = absurd (mathlib.Core.List.Memᴰ.not-nil m)
  map_elim f {y} (x ∷ l) m =
      ⊎_elim
      (λ (e : y ≡ f x). (x, mathlib.Core.List.Memᴰ.head refl, e))
      (λ (h : Memᴰ y (map f l)). let r = map_elim f l h in (r.0, mathlib.Core.List.Memᴰ.tail r.1, r.2))
      (mathlib.Core.List.Memᴰ.cases_cons m)

  pub gather_intro : (f : A → List B) {x : A} {y : B} {l : List A} → Memᴰ x l → Memᴰ y (f x) → Memᴰ y (gather f l)
  gather_intro f {x} {y} (mathlib.Core.List.Memᴰ.head {x = z} {xs = l} e) m = mathlib.Core.List.Memᴰ.append_left (gather f l) (subst (λ (u : A). Memᴰ y (f u)) e m)
  gather_intro f (mathlib.Core.List.Memᴰ.tail {x = z} h) m = mathlib.Core.List.Memᴰ.append_right (f z) (gather_intro f h m)

  pub gather_elim : (f : A → List B) {y : B} (l : List A) → Memᴰ y (gather f l) → (x : A) × Memᴰ x l × Memᴰ y (f x)
  gather_elim f [] m = absurd (mathlib.Core.List.Memᴰ.not-nil m)
  gather_elim f {y} (x ∷ l) m =
      ⊎_elim
      (λ (h : Memᴰ y (f x)). (x, mathlib.Core.List.Memᴰ.head refl, h))
      (λ (h : Memᴰ y (gather f l)). let r = gather_elim f l h in (r.0, mathlib.Core.List.Memᴰ.tail r.1, r.2))
      (mathlib.Core.List.Memᴰ.append_cases (f x) m)

  pub gather_append : (f : A → List B) (l m : List A) → gather f (l ++ m) ≡ gather f l ++ gather f m
  gather_append f [] m = refl
  gather_append f (x ∷ l) m = ap (λ (r : List B). f x ++ r) (gather_append f l m) ∙ sym (append_assoc (f x) (gather f l) (gather f m))

module _ {A : Type 0} where
  -- a member of a choice is a member
  pub choices_from : {x : A} {c : List A} (l : List A) → Memᴰ c (choices l) → Memᴰ x c → Memᴰ x l
  choices_from {x} {c} [] m h = subst (λ (d : List A). Memᴰ x d) (⊎_elim (λ (e : c ≡ []). e) (λ (k : Memᴰ c []). absurd (mathlib.Core.List.Memᴰ.not-nil k)) (mathlib.Core.List.Memᴰ.cases_cons m)) h
  choices_from {x} {c} (y ∷ l) m h =
      ⊎_elim
      (λ (k : Memᴰ c (map (λ d. y ∷ d) (choices l))).
      let r = map_elim (λ (d : List A). y ∷ d) (choices l) k in
      ⊎_elim
      (λ (e : x ≡ y). mathlib.Core.List.Memᴰ.head e)
      (λ (g : Memᴰ x r.0). mathlib.Core.List.Memᴰ.tail (choices_from {c = r.0} l r.1 g))
      (mathlib.Core.List.Memᴰ.cases_cons (subst (λ (d : List A). Memᴰ x d) r.2 h)))
      (λ (k : Memᴰ c (choices l)). mathlib.Core.List.Memᴰ.tail (choices_from l k h))
      (mathlib.Core.List.Memᴰ.append_cases (map (λ d. y ∷ d) (choices l)) k₀)
    where
      k₀ : Memᴰ c (map (λ d. y ∷ d) (choices l) ++ choices l)
      k₀ = m

  -- what a test keeps is a choice
  pub choices-keep : (p : A → Bool) (l : List A) → Memᴰ (keep p l) (choices l)
  choices-keep p [] = mathlib.Core.List.Memᴰ.head refl
  choices-keep p (x ∷ l) =
      let r : Memᴰ (keep p l) (choices l) = choices-keep p l in
      elim (p x) as (λ b. Memᴰ (cond b (x ∷ keep p l) (keep p l)) (map (λ d. x ∷ d) (choices l) ++ choices l)) [
        | true ↦ mathlib.Core.List.Memᴰ.append_left (choices l) (map_intro (λ (d : List A). x ∷ d) r)
        | false ↦ mathlib.Core.List.Memᴰ.append_right (map (λ d. x ∷ d) (choices l)) r
      ]

  pub choices-length : (l : List A) → length (choices l) ≡ 2 ^ length l
  choices-length [] = refl
  choices-length (x ∷ l) =
      length-append (map (λ d. x ∷ d) (choices l)) (choices l)
      ∙ omega (arith, length-map (choices l) (λ (d : List A). x ∷ d), choices-length l, pow-suc 2 (length l))

-- ── lists compared member by member

module _ {A : Type 0} (same : A → A → Bool) where
  pub same_list_refl : ((a : A) → T (same a a)) → (l : List A) → T (same_list same l l)
  same_list_refl r [] = tt
  same_list_refl r (x ∷ l) = and_both (same x x) (same_list same l l) (r x) (same_list_refl r l)

  pub same_list_eq : ((a b : A) → T (same a b) → a ≡ b) → (l m : List A) → T (same_list same l m) → l ≡ m
  same_list_eq e [] [] t = refl
  same_list_eq e [] (y ∷ m) t = absurd t
  same_list_eq e (x ∷ l) [] t = absurd t
  same_list_eq e (x ∷ l) (y ∷ m) t =
      let h = e x y (and_left (same x y) (same_list same l m) t) in
      let r = same_list_eq e l m (and_right (same x y) (same_list same l m) t) in
      λ i. h i ∷ r i

-- ── the least of a list

pub least_of_below : {n : ℕ} (l : List ℕ) → Memᴰ n l → least_of l ≤ n
least_of_below [] m = absurd (mathlib.Core.List.Memᴰ.not-nil m)
least_of_below {n} (x ∷ []) m = ⊎_elim (λ (e : n ≡ x). omega arith) (λ (h : Memᴰ n []). absurd (mathlib.Core.List.Memᴰ.not-nil h)) (mathlib.Core.List.Memᴰ.cases_cons m)
least_of_below {n} (x ∷ y ∷ l) m =
    let r : Memᴰ n (y ∷ l) → least_of (y ∷ l) ≤ n = least_of_below (y ∷ l) in
    ⊎_elim (λ (e : n ≡ x). omega arith) (λ (h : Memᴰ n (y ∷ l)). omega (arith, r h)) (mathlib.Core.List.Memᴰ.cases_cons m)

pub least_of_in : (x : ℕ) (l : List ℕ) → Memᴰ (least_of (x ∷ l)) (x ∷ l)
least_of_in x [] = mathlib.Core.List.Memᴰ.head refl
least_of_in x (y ∷ l) =
    let r : Memᴰ (least_of (y ∷ l)) (y ∷ l) = least_of_in y l in
    ⊎_elim
    (λ (t : T (leb x (least_of (y ∷ l)))). mathlib.Core.List.Memᴰ.head (omega (arith, leb→le x (least_of (y ∷ l)) t)))
    (λ (t : T (not (leb x (least_of (y ∷ l))))). mathlib.Core.List.Memᴰ.tail (mathlib.Core.List.Memᴰ.cast (omega (arith, nleb→lt x (least_of (y ∷ l)) t)) r))
    (T-cases (leb x (least_of (y ∷ l))))
