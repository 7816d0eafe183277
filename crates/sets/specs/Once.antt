-- Laws of the least of a list's numbers, of sums over lists of which each member counts once, and of what a choice
-- leaves out of them.
use Rattle.std.specs.Prelude.{◌≡◌, refl, ◌⊎◌, Bool, true, false, not, ◌&&◌, ◌||◌, ℕ, ◌+◌, ◌≤◌, T}
use Rattle.std.proofs.Common.{sym, ap, subst, ◌∙◌, inl, inr, ⊎_elim, arith, T_not}
use mathlib.Core.List.{List, [], ◌∷◌, ◌++◌, map, Memᴰ}
use Rattle.std.proofs.Math.Dec.{not_T}
use Rattle.sets.specs.Sets.{least_of, any, all, keep, total, pairwise, once, choices, gather}
use Rattle.sets.specs.Tests.{and_left, and_right, and_both, T-cases, cond_true, cond_false}
use Rattle.sets.specs.Tests.{neither}
use Rattle.sets.specs.Laws.{all_intro, all_elim, keep_from, keep_holds, keep_intro, keep_append, keep_all, keep_same, keep-keep, total-append, total-keep, total_narrower, map_intro, map_elim, choices_from, choices-keep, least_of_below, least_of_in}

module _ {A : Type 0} (f : A → ℕ) where
  -- the least number of some members is at most each of theirs, and one of theirs
  pub least_below : {x : A} (l : List A) → Memᴰ x l → least_of (map f l) ≤ f x
  least_below l m = least_of_below (map f l) (map_intro f m)

  pub least_reached : {x : A} (l : List A) → Memᴰ x l → (y : A) × Memᴰ y l × (least_of (map f l) ≡ f y)
  least_reached [] m = absurd (mathlib.Core.List.Memᴰ.not-nil m)
  least_reached (z ∷ l) m = map_elim f (z ∷ l) (least_of_in (f z) (map f l))

-- ── sums over other lists

module _ {A B : Type 0} where
  pub total-map : (f : B → ℕ) (g : A → B) (l : List A) → total f (map g l) ≡ total (λ x. f (g x)) l
  total-map f g [] = refl
  total-map f g (x ∷ l) = ap (λ (n : ℕ). f (g x) + n) (total-map f g l)

  pub keep-gather : (p : B → Bool) (g : A → List B) (l : List A) → keep p (gather g l) ≡ gather (λ x. keep p (g x)) l
  keep-gather p g [] = refl
  keep-gather p g (x ∷ l) =
      keep_append p (g x) (gather g l) ∙ ap (λ (r : List B). keep p (g x) ++ r) (keep-gather p g l)

module _ {A : Type 0} where
  pub keep_swap : (p q : A → Bool) (l : List A) → keep p (keep q l) ≡ keep q (keep p l)
  keep_swap p q l =
      keep-keep p q l
      ∙ keep_same (λ x. q x && p x) (λ x. p x && q x) l (λ x m. both (q x) (p x))
      ∙ sym (keep-keep q p l)
    where
      both : (a b : Bool) → (a && b) ≡ (b && a)
      both true true = refl
      both true false = refl
      both false true = refl
      both false false = refl

-- ── each member once

module _ {A : Type 0} (same : A → A → Bool) where
  pub once_from : {x : A} (l : List A) → Memᴰ x (once same l) → Memᴰ x l
  once_from [] m = m
  once_from {x} (y ∷ l) m =
      ⊎_elim
      (λ (e : x ≡ y). mathlib.Core.List.Memᴰ.head e)
      (λ (h : Memᴰ x (keep (λ z. not (same y z)) (once same l))). mathlib.Core.List.Memᴰ.tail (once_from l (keep_from (λ z. not (same y z)) (once same l) h)))
      (mathlib.Core.List.Memᴰ.cases_cons m)

  -- where sameness is equality, every member is still there
  pub once_in : ((x y : A) → T (same x y) → x ≡ y) → {x : A} (l : List A) → Memᴰ x l → Memᴰ x (once same l)
  once_in e [] m = m
  once_in e {x} (y ∷ l) m =
      let r : Memᴰ x l → Memᴰ x (once same l) = once_in e l in
      ⊎_elim
      (λ (d : x ≡ y). mathlib.Core.List.Memᴰ.head d)
      (λ (h : Memᴰ x l).
      ⊎_elim
      (λ (t : T (same y x)). mathlib.Core.List.Memᴰ.head (sym (e y x t)))
      (λ (t : T (not (same y x))). mathlib.Core.List.Memᴰ.tail (keep_intro (λ z. not (same y z)) (once same l) (r h) t))
      (T-cases (same y x)))
      (mathlib.Core.List.Memᴰ.cases_cons m)

  pub once-total : (f : A → ℕ) (l : List A) → total f (once same l) ≤ total f l
  once-total f [] = omega arith
  once-total f (x ∷ l) = omega (arith, once-total f l, total-keep f (λ y. not (same x y)) (once same l))

  -- of two lists: all of the first, and what of the second the first does not have
  pub once-append : (l m : List A) → once same (l ++ m) ≡ once same l ++ keep (λ y. not (any (λ x. same x y) l)) (once same m)
  once-append [] m = sym (keep_all (λ y. true) (once same m) (λ y h. tt))
  once-append (x ∷ l) m =
      ap (λ (r : List A). x ∷ r)
      (ap (λ (r : List A). keep (λ y. not (same x y)) r) (once-append l m)
      ∙ keep_append (λ y. not (same x y)) (once same l) (keep (λ y. not (any (λ z. same z y) l)) (once same m))
      ∙ ap (λ (r : List A). keep (λ y. not (same x y)) (once same l) ++ r)
      (keep-keep (λ y. not (same x y)) (λ y. not (any (λ z. same z y) l)) (once same m)
      ∙ keep_same (λ y. not (any (λ z. same z y) l) && not (same x y)) (λ y. not (same x y || any (λ z. same z y) l)) (once same m)
      (λ y h. neither (same x y) (any (λ z. same z y) l))))

  -- a test that cannot tell the same apart keeps the same before and after
  pub once-keep : (p : A → Bool) → ((x y : A) → T (same x y) → p x ≡ p y) → (l : List A) → keep p (once same l) ≡ once same (keep p l)
  once-keep p respects [] = refl
  once-keep p respects (x ∷ l) =
      let r : keep p (once same l) ≡ once same (keep p l) = once-keep p respects l in
      let other : A → Bool = λ y. not (same x y) in
      let swap : keep p (keep other (once same l)) ≡ keep other (keep p (once same l)) = keep_swap p other (once same l) in
      ⊎_elim
      (λ (t : T (p x)).
      cond_true (p x) (x ∷ keep p (keep other (once same l))) (keep p (keep other (once same l))) t
      ∙ ap (λ (k : List A). x ∷ k) (swap ∙ ap (λ (k : List A). keep other k) r)
      ∙ ap (λ (k : List A). once same k) (sym (cond_true (p x) (x ∷ keep p l) (keep p l) t)))
      (λ (t : T (not (p x))).
      cond_false (p x) (x ∷ keep p (keep other (once same l))) (keep p (keep other (once same l))) t
      ∙ swap
      ∙ keep_all other (keep p (once same l))
      (λ y m.
      not_T (same x y)
      (λ (h : T (same x y)).
      T_not (p x) t (subst (λ (b : Bool). T b) (sym (respects x y h)) (keep_holds p (once same l) m))))
      ∙ r
      ∙ ap (λ (k : List A). once same k) (sym (cond_false (p x) (x ∷ keep p l) (keep p l) t)))
      (T-cases (p x))

  -- ── sums over what is kept of a list with each member once

  module _ (f : A → ℕ) where
    -- what is kept of two lists, each member once: of the first, and of the second what the first does not have
    pub total-once-append :
        (p : A → Bool) (l m : List A) →
        total f (keep p (once same (l ++ m)))
        ≡ total f (keep p (once same l)) + total f (keep (λ y. not (any (λ x. same x y) l) && p y) (once same m))
    total-once-append p l m =
        ap (λ (k : List A). total f (keep p k)) (once-append l m)
        ∙ ap (λ (k : List A). total f k) (keep_append p (once same l) (keep (λ y. not (any (λ x. same x y) l)) (once same m)))
        ∙ total-append f (keep p (once same l)) (keep p (keep (λ y. not (any (λ x. same x y) l)) (once same m)))
        ∙ ap (λ (k : List A). total f (keep p (once same l)) + total f k) (keep-keep p (λ y. not (any (λ x. same x y) l)) (once same m))

    -- a list with less of another behind it is worth no more
    pub once_narrower :
        (p q r : A → Bool) →
        ((x y : A) → T (same x y) → q x ≡ q y) → ((x y : A) → T (same x y) → r x ≡ r y) →
        (l m : List A) → ((x : A) → Memᴰ x m → T (q x) → T (r x)) →
        total f (keep p (once same (l ++ keep q m))) ≤ total f (keep p (once same (l ++ keep r m)))
    once_narrower p q r q-respects r-respects l m h =
        let w : A → Bool = λ y. not (any (λ x. same x y) l) && p y in
        let a : total f (keep w (once same (keep q m))) ≡ total f (keep (λ y. q y && w y) (once same m)) =
        ap (λ (k : List A). total f (keep w k)) (sym (once-keep q q-respects m)) ∙ ap (λ (k : List A). total f k) (keep-keep w q (once same m))
        in
        let b : total f (keep w (once same (keep r m))) ≡ total f (keep (λ y. r y && w y) (once same m)) =
        ap (λ (k : List A). total f (keep w k)) (sym (once-keep r r-respects m)) ∙ ap (λ (k : List A). total f k) (keep-keep w r (once same m))
        in
        let c : total f (keep (λ y. q y && w y) (once same m)) ≤ total f (keep (λ y. r y && w y) (once same m)) =
        total_narrower f (λ y. q y && w y) (λ y. r y && w y) (once same m)
        (λ y k t. and_both (r y) (w y) (h y (once_from m k) (and_left (q y) (w y) t)) (and_right (q y) (w y) t))
        in
        omega (arith, total-once-append p l (keep q m), total-once-append p l (keep r m))

-- ── choices

module _ {A : Type 0} where
  pub choices_cases : (x : A) (l : List A) {c : List A} → Memᴰ c (choices (x ∷ l)) → ((d : List A) × Memᴰ d (choices l) × (c ≡ x ∷ d)) ⊎ Memᴰ c (choices l)
  choices_cases x l {c} m =
      ⊎_elim
      (λ (h : Memᴰ c (map (λ d. x ∷ d) (choices l))). inl (map_elim (λ (d : List A). x ∷ d) (choices l) h))
      (λ (h : Memᴰ c (choices l)). inr h)
      (mathlib.Core.List.Memᴰ.append_cases (map (λ d. x ∷ d) (choices l)) m)

  pub choices_empty : {c : List A} → Memᴰ c (choices []) → c ≡ []
  choices_empty {c} m = ⊎_elim (λ (e : c ≡ []). e) (λ (h : Memᴰ c []). absurd (mathlib.Core.List.Memᴰ.not-nil h)) (mathlib.Core.List.Memᴰ.cases_cons m)

  pub choices_whole : (l : List A) → Memᴰ l (choices l)
  choices_whole l = mathlib.Core.List.Memᴰ.cast (sym (keep_all (λ x. true) l (λ x m. tt))) (choices-keep (λ x. true) l)

  -- a relation between all members holds between the chosen
  pub choices-pairwise : (r : A → A → Bool) (l : List A) {c : List A} → Memᴰ c (choices l) → T (pairwise r l) → T (pairwise r c)
  choices-pairwise r [] {c} m t = subst (λ (d : List A). T (pairwise r d)) (sym (choices_empty m)) tt
  choices-pairwise r (x ∷ l) {c} m t =
      let rest : T (pairwise r l) = and_right (all (r x) l) (pairwise r l) t in
      let here : T (all (r x) l) = and_left (all (r x) l) (pairwise r l) t in
      ⊎_elim
      (λ (h : (d : List A) × Memᴰ d (choices l) × (c ≡ x ∷ d)).
      subst (λ (d : List A). T (pairwise r d)) (sym h.2)
      (and_both (all (r x) h.0) (pairwise r h.0)
      (all_intro (r x) h.0 (λ y k. all_elim (r x) here (choices_from l h.1 k)))
      (choices-pairwise r l h.1 rest)))
      (λ (h : Memᴰ c (choices l)). choices-pairwise r l h rest)
      (choices_cases x l m)

  -- of two numbers, the smaller one's sum over what a choice leaves out is the smaller
  pub choices_total : (f g : A → ℕ) (l : List A) {c : List A} → ((x : A) → Memᴰ x l → f x ≤ g x) → Memᴰ c (choices l) → total f l + total g c ≤ total f c + total g l
  choices_total f g [] {c} h m = subst (λ (d : List A). total f [] + total g d ≤ total f d + total g []) (sym (choices_empty m)) (omega arith)
  choices_total f g (x ∷ l) {c} h m =
      let less : f x ≤ g x = h x (mathlib.Core.List.Memᴰ.head refl) in
      let rest : (d : List A) → Memᴰ d (choices l) → total f l + total g d ≤ total f d + total g l =
      λ d k. choices_total f g l {c = d} (λ y n. h y (mathlib.Core.List.Memᴰ.tail n)) k
      in
      ⊎_elim
      (λ (k : (d : List A) × Memᴰ d (choices l) × (c ≡ x ∷ d)).
      subst (λ (d : List A). total f (x ∷ l) + total g d ≤ total f d + total g (x ∷ l)) (sym k.2)
      (omega (arith, rest k.0 k.1)))
      (λ (k : Memᴰ c (choices l)). omega (arith, rest c k))
      (choices_cases x l m)

module _ {A B : Type 0} (same : B → B → Bool) (f : B → ℕ) (g : A → List B) (h : A → ℕ) (fits : (x : A) → total f (g x) ≤ h x) where
  -- what a choice leaves out brings at most its own sum
  pub choices-once :
      (l : List A) {c : List A} → Memᴰ c (choices l) → (p : B → Bool) →
      total f (keep p (once same (gather g l))) + total h c ≤ total f (keep p (once same (gather g c))) + total h l
  choices-once [] {c} m p =
      subst (λ (d : List A). 0 + total h d ≤ total f (keep p (once same (gather g d))) + 0) (sym (choices_empty m)) (omega arith)
  choices-once (x ∷ l) {c} m p =
      let w : B → Bool = λ z. not (any (λ y. same y z) (g x)) && p z in
      ⊎_elim
      (λ (k : (d : List A) × Memᴰ d (choices l) × (c ≡ x ∷ d)).
      subst
      (λ (d : List A).
      total f (keep p (once same (gather g (x ∷ l)))) + total h d ≤ total f (keep p (once same (gather g d))) + total h (x ∷ l))
      (sym k.2)
      (omega
      (arith, choices-once l k.1 w, total-once-append same f p (g x) (gather g l), total-once-append same f p (g x) (gather g k.0))))
      (λ (k : Memᴰ c (choices l)).
      omega
      (arith, fits x, choices-once l k p, total-once-append same f p (g x) (gather g l), total-keep f p (once same (g x)), once-total same f (g x), total_narrower f w p (once same (gather g l)) (λ y n t. and_right (not (any (λ v. same v y) (g x))) (p y) t)))
      (choices_cases x l m)
