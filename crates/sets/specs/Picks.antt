-- What tests pick out of one ascending list, seen through a map: picks with a member more, picks put together or taken
-- from each other, and that the picks determine the list.
use Rattle.std.specs.Prelude.{◌≡◌, refl, ◌⊎◌, Bool, true, false, not, cond, ◌&&◌, ◌||◌, T}
use Rattle.std.proofs.Common.{sym, ap, subst, ◌∙◌, inl, inr, ⊎_elim, T_not}
use mathlib.Core.List.{List, [], ◌∷◌, map, Memᴰ}
use Rattle.sets.specs.Sets.{keep, ascending, has, place, together}
use Rattle.sets.specs.Tests.{or_left, or_right, or_cases, T-cases, same_test, cond_true, cond_false}
use Rattle.sets.specs.Laws.{holds_at, any_intro, any_elim, keep_from, keep_holds, keep_intro, keep_same, keep-keep, together_from, together_left, together_right, map_intro, map_elim}
use Rattle.sets.specs.Order.{ascending_mapped, ascending_tail, ascending_first, ascending-keep, together-ascending, ascending_one}
use Rattle.sets.specs.Count.{ascending_two, ascending_neither}
use Rattle.sets.specs.Maps.{keep-map, picked_elim, picked_intro}

-- ── a member more

module _ {A : Type 0} where
  -- a test that fails of it does not see it
  pub keep-place_out : (before : A → A → Bool) (p : A → Bool) (x : A) (l : List A) → p x ≡ false → keep p (place before x l) ≡ keep p l
  keep-place_out before p x [] e = ap (λ (b : Bool). cond b (x ∷ []) []) e
  keep-place_out before p x (y ∷ l) e =
      elim (before x y) as (λ b. keep p (cond b (x ∷ y ∷ l) (y ∷ place before x l)) ≡ keep p (y ∷ l)) [
        | true ↦ ap (λ (b : Bool). cond b (x ∷ keep p (y ∷ l)) (keep p (y ∷ l))) e
        | false ↦ ap (λ (r : List A). cond (p y) (y ∷ r) r) (keep-place_out before p x l e)
      ]

  -- what is before all members is placed first
  pub place_first : (before : A → A → Bool) (x : A) (l : List A) → ((y : A) → Memᴰ y l → T (before x y)) → place before x l ≡ x ∷ l
  place_first before x [] f = refl
  place_first before x (y ∷ l) f = cond_true (before x y) (x ∷ y ∷ l) (y ∷ place before x l) (f y (mathlib.Core.List.Memᴰ.head refl))

  -- a test that holds of it picks it in its place
  pub keep-place_in :
      (before : A → A → Bool) → ((a b c : A) → T (before a b) → T (before b c) → T (before a c)) →
      (p : A → Bool) (x : A) (l : List A) → T (ascending before l) → p x ≡ true → keep p (place before x l) ≡ place before x (keep p l)
  keep-place_in before trans p x [] t e = ap (λ (b : Bool). cond b (x ∷ []) []) e
  keep-place_in before trans p x (y ∷ l) t e =
      ⊎_elim
      (λ (h : T (before x y)).
      ap (keep p) (cond_true (before x y) (x ∷ y ∷ l) (y ∷ place before x l) h)
      ∙ ap (λ (b : Bool). cond b (x ∷ keep p (y ∷ l)) (keep p (y ∷ l))) e
      ∙ sym
      (place_first before x (keep p (y ∷ l))
      (λ z m.
      ⊎_elim
      (λ (q : z ≡ y). subst (λ (u : A). T (before x u)) (sym q) h)
      (λ (k : Memᴰ z l). trans x y z h (ascending_first before trans y l t z k))
      (mathlib.Core.List.Memᴰ.cases_cons (keep_from p (y ∷ l) m)))))
      (λ (h : T (not (before x y))).
      let r : keep p (place before x l) ≡ place before x (keep p l) = keep-place_in before trans p x l (ascending_tail before y l t) e in
      ap (keep p) (cond_false (before x y) (x ∷ y ∷ l) (y ∷ place before x l) h)
      ∙ ap (λ (k : List A). cond (p y) (y ∷ k) k) r
      ∙ (elim (p y) as (λ b. cond b (y ∷ place before x (keep p l)) (place before x (keep p l)) ≡ place before x (cond b (y ∷ keep p l) (keep p l)))
      [ true ↦ sym (cond_false (before x y) (x ∷ y ∷ keep p l) (y ∷ place before x (keep p l)) h) | false ↦ refl ]))
      (T-cases (before x y))

-- ── picks of one list that ascends through a map

module _ {A B : Type 0} (f : A → B) (before : B → B → Bool) (trans : (a b c : B) → T (before a b) → T (before b c) → T (before a c)) where
  -- a pick ascends
  pub pick_ascending : (p : A → Bool) (l : List A) → T (ascending (λ a b. before (f a) (f b)) l) → T (ascending before (map f (keep p l)))
  pick_ascending p l t =
      ascending_mapped (λ a b. before (f a) (f b)) before f (λ x y h. h) (keep p l)
      (ascending-keep (λ a b. before (f a) (f b)) (λ a b c. trans (f a) (f b) (f c)) p l t)

module _ {A B : Type 0} (f : A → B) (same before : B → B → Bool)
    (trans : (a b c : B) → T (before a b) → T (before b c) → T (before a c))
    (refl-same : (a : B) → T (same a a)) (symm : (a b : B) → T (same a b) → T (same b a))
    (never : (a b : B) → T (same a b) → T (before a b) → ⊥) where
  -- two members seen as the same are one
  pub seen_one :
      (l : List A) → T (ascending (λ a b. before (f a) (f b)) l) → {x y : A} → Memᴰ x l → Memᴰ y l →
      T (same (f x) (f y)) → x ≡ y
  seen_one l t {x} {y} m n s =
      ascending_neither (λ a b. before (f a) (f b)) (λ a b c. trans (f a) (f b) (f c)) l t m n
      (never (f x) (f y) s)
      (never (f y) (f x) (symm (f x) (f y) s))

  -- a member is in a pick where the test holds of it
  pub pick_has :
      (p : A → Bool) (l : List A) → T (ascending (λ a b. before (f a) (f b)) l) → (x : A) → Memᴰ x l →
      has same (f x) (map f (keep p l)) ≡ p x
  pick_has p l t x m =
      same_test (has same (f x) (map f (keep p l))) (p x)
      (λ (h : T (has same (f x) (map f (keep p l)))).
      let r = any_elim (same (f x)) (map f (keep p l)) h in
      let k = map_elim f (keep p l) r.1 in
      let e : x ≡ k.0 = seen_one l t m (keep_from p l k.1) (subst (λ (u : B). T (same (f x) u)) k.2 r.2) in
      subst (λ (u : A). T (p u)) (sym e) (keep_holds p l k.1))
      (λ (h : T (p x)). any_intro (same (f x)) (map_intro f (keep_intro p l m h)) (refl-same (f x)))

  -- a pick without what is in another
  pub pick_without :
      (p q : A → Bool) (l : List A) → T (ascending (λ a b. before (f a) (f b)) l) →
      keep (λ y. not (has same y (map f (keep q l)))) (map f (keep p l)) ≡ map f (keep (λ x. p x && not (q x)) l)
  pick_without p q l t =
      keep-map (λ y. not (has same y (map f (keep q l)))) f (keep p l)
      ∙ ap (map f)
      (keep-keep (λ x. not (has same (f x) (map f (keep q l)))) p l
      ∙ keep_same (λ x. p x && not (has same (f x) (map f (keep q l)))) (λ x. p x && not (q x)) l
      (λ x m. ap (λ (b : Bool). p x && not b) (pick_has q l t x m)))

  -- two picks together
  pub pick_together :
      (p q : A → Bool) (l : List A) → T (ascending (λ a b. before (f a) (f b)) l) →
      together same before (map f (keep p l)) (map f (keep q l)) ≡ map f (keep (λ x. p x || q x) l)
  pick_together p q l t =
      ascending_one before trans (λ a h. never a a (refl-same a) h)
      (together same before (map f (keep p l)) (map f (keep q l)))
      (map f (keep (λ x. p x || q x) l))
      (together-ascending before trans same (map f (keep p l)) (map f (keep q l))
      (λ x y m n d.
      let a = picked q x m in
      let b = either y n in
      ⊎_elim
      (λ (e : a.0 ≡ b.0).
      absurd
      (T_not (same x y) d
      (subst (λ (u : B). T (same x u)) (a.2 ∙ ap f e ∙ sym b.2) (refl-same x))))
      (λ (h : T (before (f a.0) (f b.0)) ⊎ T (before (f b.0) (f a.0))).
      ⊎_elim
      (λ (k : T (before (f a.0) (f b.0))).
      inl (subst (λ (u : B). T (before u y)) (sym a.2) (subst (λ (v : B). T (before (f a.0) v)) (sym b.2) k)))
      (λ (k : T (before (f b.0) (f a.0))).
      inr (subst (λ (u : B). T (before u x)) (sym b.2) (subst (λ (v : B). T (before (f b.0) v)) (sym a.2) k)))
      h)
      (ascending_two (λ a b. before (f a) (f b)) (λ a b c. trans (f a) (f b) (f c)) l t a.1 b.1))
      (pick_ascending f before trans p l t))
      (pick_ascending f before trans (λ x. p x || q x) l t)
      (λ y m.
      ⊎_elim
      (λ (h : Memᴰ y (map f (keep p l))).
      let r = map_elim f (keep p l) h in
      mathlib.Core.List.Memᴰ.cast r.2
      (map_intro f (keep_intro (λ x. p x || q x) l (keep_from p l r.1) (or_left (p r.0) (q r.0) (keep_holds p l r.1)))))
      (λ (h : Memᴰ y (map f (keep q l))).
      let r = map_elim f (keep q l) h in
      mathlib.Core.List.Memᴰ.cast r.2
      (map_intro f (keep_intro (λ x. p x || q x) l (keep_from q l r.1) (or_right (p r.0) (q r.0) (keep_holds q l r.1)))))
      (together_from same before (map f (keep p l)) (map f (keep q l)) m))
      (λ y m.
      let r = map_elim f (keep (λ x. p x || q x) l) m in
      let inl-l : Memᴰ r.0 l = keep_from (λ x. p x || q x) l r.1 in
      ⊎_elim
      (λ (h : T (p r.0)).
      together_left same before (map f (keep p l)) (map f (keep q l))
      (mathlib.Core.List.Memᴰ.cast r.2 (map_intro f (keep_intro p l inl-l h))))
      (λ (h : T (q r.0)).
      let z = together_right same before (map f (keep p l)) (map f (keep q l)) refl-same (map_intro f (keep_intro q l inl-l h)) in
      let k = either z.0 (together_from same before (map f (keep p l)) (map f (keep q l)) z.1) in
      let e : r.0 ≡ k.0 = seen_one l t inl-l k.1 (subst (λ (u : B). T (same (f r.0) u)) k.2 z.2) in
      mathlib.Core.List.Memᴰ.cast (r.2 ∙ ap f e ∙ sym k.2) z.1)
      (or_cases (p r.0) (q r.0) (keep_holds (λ x. p x || q x) l r.1)))
    where
      picked : (g : A → Bool) (y : B) → Memᴰ y (map f (keep g l)) → (x : A) × Memᴰ x l × (y ≡ f x)
      picked g y m = let r = map_elim f (keep g l) m in (r.0, keep_from g l r.1, r.2)

      either : (y : B) → Memᴰ y (map f (keep p l)) ⊎ Memᴰ y (map f (keep q l)) → (x : A) × Memᴰ x l × (y ≡ f x)
      either y (inl m) = picked p y m
      either y (inr m) = picked q y m

-- ── the picks determine the list

module _ {A K I : Type 0} (before : A → A → Bool) (trans : (a b c : A) → T (before a b) → T (before b c) → T (before a c)) (key : A → K) (one_key : (a b : A) → key a ≡ key b → T (before a b) → ⊥) (p : I → A → Bool) where
  -- what passes a test in one list passes it in the other, under the same key
  across : (l m : List A) (i : I) → map key (keep (p i) l) ≡ map key (keep (p i) m) → (a : A) → Memᴰ a l → T (p i a) → (b : A) × Memᴰ b m × T (p i b) × (key a ≡ key b)
  across l m i e a h t =
      picked_elim (p i) key m (subst (λ (r : List K). Memᴰ (key a) r) e (picked_intro (p i) key l h t))

  passes : (l m : List A) → T (ascending before m) → (i : I) → map key (keep (p i) l) ≡ map key (keep (p i) m) → (a b : A) → Memᴰ a l → Memᴰ b m → key a ≡ key b → T (p i a) → T (p i b)
  passes l m t i e a b h k q r =
      let c = across l m i e a h r in
      holds_at (p i) c.0 b (once c.0 b c.1 k (sym c.3 ∙ q)) c.2
    where
      once : (x y : A) → Memᴰ x m → Memᴰ y m → key x ≡ key y → x ≡ y
      once x y u v d = ascending_neither before trans m t u v (one_key x y d) (one_key y x (sym d))

  -- where a key and the tests passed determine a member, and each member passes some test
  members :
      (l m : List A) → T (ascending before l) → T (ascending before m) → ((a : A) → Memᴰ a l → (i : I) × T (p i a)) →
      ((a b : A) → Memᴰ a l → Memᴰ b m → key a ≡ key b → ((i : I) → p i a ≡ p i b) → a ≡ b) →
      ((i : I) → map key (keep (p i) l) ≡ map key (keep (p i) m)) → (a : A) → Memᴰ a l → Memᴰ a m
  members l m s t some whole e a h =
      let i = some a h in
      let b = across l m i.0 (e i.0) a h i.1 in
      let d : a ≡ b.0 =
      whole a b.0 h b.1 b.3
      (λ j.
      same_test (p j a) (p j b.0)
      (passes l m t j (e j) a b.0 h b.1 b.3)
      (passes m l s j (sym (e j)) b.0 a b.1 h (sym b.3)))
      in
      mathlib.Core.List.Memᴰ.cast d b.1

  -- two ascending lists with equal picks for each test are one list
  pub picks_one :
      (l m : List A) → T (ascending before l) → T (ascending before m) → ((a : A) → Memᴰ a l → (i : I) × T (p i a)) →
      ((a : A) → Memᴰ a m → (i : I) × T (p i a)) →
      ((a b : A) → Memᴰ a l → Memᴰ b m → key a ≡ key b → ((i : I) → p i a ≡ p i b) → a ≡ b) →
      ((i : I) → map key (keep (p i) l) ≡ map key (keep (p i) m)) → l ≡ m
  picks_one l m s t some some' whole e =
      ascending_one before trans (λ (a : A). one_key a a refl) l m s t
      (members l m s t some whole e)
      (members m l t s some' (λ a b h k q f. sym (whole b a k h (sym q) (λ i. sym (f i)))) (λ i. sym (e i)))
