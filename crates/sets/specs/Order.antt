-- Ascending lists: one set has one list, and what is made of ascending lists ascends. Only what is needed of an order is
-- asked for, law by law.
use Rattle.std.specs.Prelude.{◌≡◌, refl, ◌⊎◌, Bool, true, false, not, cond, T}
use Rattle.std.proofs.Common.{sym, ap, subst, ◌∙◌, inl, inr, ⊎_elim, T_not}
use mathlib.Core.List.Memᴰ
use mathlib.Core.List.{List, [], ◌∷◌, ◌++◌, map, Memᴰ}
use Rattle.std.proofs.Math.Dec.{not_T}
use Rattle.sets.specs.Sets.{keep, ascending, has, place, insert, together, once, gather}
use Rattle.sets.specs.Tests.{and_left, and_right, and_both, T-cases, cond_true, cond_false}
use Rattle.sets.specs.Laws.{any_intro, keep_from, keep_all, place_from, together_from, gather_elim}

module _ {A : Type 0} (before : A → A → Bool) where
  pub ascending_tail : (x : A) (l : List A) → T (ascending before (x ∷ l)) → T (ascending before l)
  ascending_tail x [] t = tt
  ascending_tail x (y ∷ l) t = and_right (before x y) (ascending before (y ∷ l)) t

  pub ascending_cons : (x : A) (l : List A) → ((y : A) → Memᴰ y l → T (before x y)) → T (ascending before l) → T (ascending before (x ∷ l))
  ascending_cons x [] f t = tt
  ascending_cons x (y ∷ l) f t = and_both (before x y) (ascending before (y ∷ l)) (f y (Memᴰ.head refl)) t

module _ {A B : Type 0} where
  -- a map that keeps an order keeps a list ascending
  pub ascending_mapped :
      (before : A → A → Bool) (after : B → B → Bool) (f : A → B) → ((x y : A) → T (before x y) → T (after (f x) (f y))) →
      (l : List A) → T (ascending before l) → T (ascending after (map f l))
  ascending_mapped before after f h [] t = tt
  ascending_mapped before after f h (x ∷ []) t = tt
  ascending_mapped before after f h (x ∷ y ∷ l) t =
      and_both (after (f x) (f y)) (ascending after (map f (y ∷ l)))
      (h x y (and_left (before x y) (ascending before (y ∷ l)) t))
      (ascending_mapped before after f h (y ∷ l) (and_right (before x y) (ascending before (y ∷ l)) t))

module _ {A : Type 0} (before : A → A → Bool) (trans : (a b c : A) → T (before a b) → T (before b c) → T (before a c)) where
  -- the first is before all others
  pub ascending_first : (x : A) (l : List A) → T (ascending before (x ∷ l)) → (y : A) → Memᴰ y l → T (before x y)
  ascending_first x [] t y m = absurd (Memᴰ.not-nil m)
  ascending_first x (z ∷ l) t y m =
      let h : T (before x z) = and_left (before x z) (ascending before (z ∷ l)) t in
      ⊎_elim
      (λ (e : y ≡ z). subst (λ (u : A). T (before x u)) (sym e) h)
      (λ (k : Memᴰ y l).
      trans x z y h (ascending_first z l (and_right (before x z) (ascending before (z ∷ l)) t) y k))
      (Memᴰ.cases_cons m)

  pub ascending-keep : (p : A → Bool) (l : List A) → T (ascending before l) → T (ascending before (keep p l))
  ascending-keep p [] t = tt
  ascending-keep p (x ∷ l) t =
      let r : T (ascending before (keep p l)) = ascending-keep p l (ascending_tail before x l t) in
      let f : (y : A) → Memᴰ y (keep p l) → T (before x y) = λ y m. ascending_first x l t y (keep_from p l m) in
      elim (p x) as (λ b. T (ascending before (cond b (x ∷ keep p l) (keep p l)))) [ true ↦ ascending_cons before x (keep p l) f r | false ↦ r ]

  -- a new member, comparable with all others, is placed in order
  pub place-ascending : (x : A) (l : List A) → ((y : A) → Memᴰ y l → T (before x y) ⊎ T (before y x)) → T (ascending before l) → T (ascending before (place before x l))
  place-ascending x [] f t = tt
  place-ascending x (z ∷ l) f t =
      ⊎_elim
      (λ (h : T (before x z)).
      subst (λ (r : List A). T (ascending before r))
      (sym (cond_true (before x z) (x ∷ z ∷ l) (z ∷ place before x l) h))
      (and_both (before x z) (ascending before (z ∷ l)) h t))
      (λ (h : T (not (before x z))).
      let zx : T (before z x) = ⊎_elim (λ (k : T (before x z)). absurd (T_not (before x z) h k)) (λ (k : T (before z x)). k) (f z (Memᴰ.head refl)) in
      let r : T (ascending before (place before x l)) = place-ascending x l (λ y m. f y (Memᴰ.tail m)) (ascending_tail before z l t) in
      let g : (y : A) → Memᴰ y (place before x l) → T (before z y) =
      λ y m.
      ⊎_elim
      (λ (e : y ≡ x). subst (λ (u : A). T (before z u)) (sym e) zx)
      (λ (k : Memᴰ y l). ascending_first z l t y k)
      (place_from before l m)
      in
      subst (λ (s : List A). T (ascending before s))
      (sym (cond_false (before x z) (x ∷ z ∷ l) (z ∷ place before x l) h))
      (ascending_cons before z (place before x l) g r))
      (T-cases (before x z))

  -- the same for a set with a member more, and for two sets together
  pub insert-ascending :
      (same : A → A → Bool) (x : A) (l : List A) →
      ((y : A) → Memᴰ y l → T (not (same x y)) → T (before x y) ⊎ T (before y x)) → T (ascending before l) →
      T (ascending before (insert same before x l))
  insert-ascending same x l f t =
      ⊎_elim
      (λ (h : T (has same x l)). subst (λ (r : List A). T (ascending before r)) (sym (cond_true (has same x l) l (place before x l) h)) t)
      (λ (h : T (not (has same x l))).
      subst (λ (r : List A). T (ascending before r))
      (sym (cond_false (has same x l) l (place before x l) h))
      (place-ascending x l
      (λ y m. f y m (not_T (same x y) (λ (s : T (same x y)). T_not (has same x l) h (any_intro (same x) m s))))
      t))
      (T-cases (has same x l))

  pub together-ascending :
      (same : A → A → Bool) (l m : List A) →
      ((x y : A) → Memᴰ x m → Memᴰ y l ⊎ Memᴰ y m → T (not (same x y)) → T (before x y) ⊎ T (before y x)) →
      T (ascending before l) → T (ascending before (together same before l m))
  together-ascending same l [] f t = t
  together-ascending same l (x ∷ m) f t =
      insert-ascending same x (together same before l m)
      (λ y k n.
      f x y (Memᴰ.head refl)
      (⊎_elim (λ (a : Memᴰ y l). inl a) (λ (b : Memᴰ y m). inr (Memᴰ.tail b)) (together_from same before l m k))
      n)
      (together-ascending same l m
      (λ u v k g n.
      f u v (Memᴰ.tail k)
      (⊎_elim (λ (a : Memᴰ v l). inl a) (λ (b : Memᴰ v m). inr (Memᴰ.tail b)) g)
      n)
      t)

  module _ (irrefl : (a : A) → T (before a a) → ⊥) where
    -- two ascending lists with the same members are one list
    pub ascending_one : (l m : List A) → T (ascending before l) → T (ascending before m) → ((x : A) → Memᴰ x l → Memᴰ x m) → ((x : A) → Memᴰ x m → Memᴰ x l) → l ≡ m
    ascending_one [] [] s t f g = refl
    ascending_one [] (y ∷ m) s t f g = absurd (Memᴰ.not-nil (g y (Memᴰ.head refl)))
    ascending_one (x ∷ l) [] s t f g = absurd (Memᴰ.not-nil (f x (Memᴰ.head refl)))
    ascending_one (x ∷ l) (y ∷ m) s t f g =
        let e : x ≡ y = heads (Memᴰ.cases_cons (f x (Memᴰ.head refl))) (Memᴰ.cases_cons (g y (Memᴰ.head refl))) in
        let r : l ≡ m =
        ascending_one l m (ascending_tail before x l s) (ascending_tail before y m t)
        (λ z k. later z k e (Memᴰ.cases_cons (f z (Memᴰ.tail k))))
        (λ z k. later' z k e (Memᴰ.cases_cons (g z (Memᴰ.tail k))))
        in
        λ i. e i ∷ r i
      where
        heads : (x ≡ y) ⊎ Memᴰ x m → (y ≡ x) ⊎ Memᴰ y l → x ≡ y
        heads (inl e) k = e
        heads (inr h) (inl e) = sym e
        heads (inr h) (inr k) =
            absurd (irrefl x (trans x y x (ascending_first x l s y k) (ascending_first y m t x h)))

        later : (z : A) → Memᴰ z l → x ≡ y → (z ≡ y) ⊎ Memᴰ z m → Memᴰ z m
        later z k e (inl d) = absurd (irrefl x (subst (λ (v : A). T (before x v)) (d ∙ sym e) (ascending_first x l s z k)))
        later z k e (inr h) = h

        later' : (z : A) → Memᴰ z m → x ≡ y → (z ≡ x) ⊎ Memᴰ z l → Memᴰ z l
        later' z k e (inl d) = absurd (irrefl y (subst (λ (v : A). T (before y v)) (d ∙ e) (ascending_first y m t z k)))
        later' z k e (inr h) = h

    -- an ascending list has each member once, for any sameness that no order allows
    pub ascending-once : (same : A → A → Bool) → ((a b : A) → T (same a b) → T (before a b) → ⊥) → (l : List A) → T (ascending before l) → once same l ≡ l
    ascending-once same never [] t = refl
    ascending-once same never (x ∷ l) t =
        ap (λ (r : List A). x ∷ keep (λ y. not (same x y)) r) (ascending-once same never l (ascending_tail before x l t))
        ∙ ap (λ (r : List A). x ∷ r)
        (keep_all (λ y. not (same x y)) l (λ y m. not_T (same x y) (λ (s : T (same x y)). never x y s (ascending_first x l t y m))))

-- ── lists one after another

module _ {A : Type 0} (before : A → A → Bool) (trans : (a b c : A) → T (before a b) → T (before b c) → T (before a c)) where
  -- two ascending lists, all of the first before all of the second
  pub ascending-append :
      (l m : List A) → T (ascending before l) → T (ascending before m) →
      ((x y : A) → Memᴰ x l → Memᴰ y m → T (before x y)) → T (ascending before (l ++ m))
  ascending-append [] m s t h = t
  ascending-append (x ∷ l) m s t h =
      ascending_cons before x (l ++ m)
      (λ y k.
      ⊎_elim
      (λ (a : Memᴰ y l). ascending_first before trans x l s y a)
      (λ (b : Memᴰ y m). h x y (Memᴰ.head refl) b)
      (Memᴰ.append_cases l k))
      (ascending-append l m (ascending_tail before x l s) t (λ u v a b. h u v (Memᴰ.tail a) b))

  -- ascending lists of ascending members, each before those of the next
  pub ascending-gather :
      {B : Type 0} (ahead : B → B → Bool) → ((a b c : B) → T (ahead a b) → T (ahead b c) → T (ahead a c)) →
      (f : B → List A) → ((u v : B) (x y : A) → T (ahead u v) → Memᴰ x (f u) → Memᴰ y (f v) → T (before x y)) →
      (l : List B) → T (ascending ahead l) → ((u : B) → Memᴰ u l → T (ascending before (f u))) →
      T (ascending before (gather f l))
  ascending-gather ahead ahead-trans f h [] t each = tt
  ascending-gather ahead ahead-trans f h (u ∷ l) t each =
      ascending-append (f u) (gather f l) (each u (Memᴰ.head refl))
      (ascending-gather ahead ahead-trans f h l (ascending_tail ahead u l t) (λ v m. each v (Memᴰ.tail m)))
      (λ x y a b.
      let r = gather_elim f l b in
      h u r.0 x y (ascending_first ahead ahead-trans u l t r.0 r.1) a r.2)
