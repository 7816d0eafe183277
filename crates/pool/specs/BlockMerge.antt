-- Laws of merge: two ascending lists into one, with the members of both and no other; and what a test keeps of it.
use Rattle.std.specs.Prelude.{◌≡◌, refl, ◌⊎◌, Bool, true, false, not, cond, T}
use Rattle.std.proofs.Common.{sym, ap, subst, ◌∙◌, inl, inr, ⊎_elim, T_not}
use mathlib.Core.List.{List, [], ◌∷◌, Memᴰ}
use Rattle.sets.specs.Sets.{all, keep, ascending}
use Rattle.sets.specs.Tests.{T-cases, cond_true, cond_false}
use Rattle.sets.specs.Laws.{all_intro, all_elim, keep_none}
use Rattle.sets.specs.Order.{ascending_tail, ascending_cons, ascending_first}
use Rattle.pool.specs.Book.{merge, merge_ahead}

module _ {A : Type 0} (before : A → A → Bool) where
  -- ── members

  ahead_from :
      (x : A) (rest : List A → List A) {z : A} (l m : List A) → ((n : List A) → Memᴰ z (rest n) → Memᴰ z l ⊎ Memᴰ z n) →
      Memᴰ z (merge_ahead before x rest m) → Memᴰ z (x ∷ l) ⊎ Memᴰ z m
  ahead_from x rest {z} l [] f h =
      ⊎_elim
      (λ (e : z ≡ x). inl (mathlib.Core.List.Memᴰ.head e))
      (λ (k : Memᴰ z (rest [])).
      ⊎_elim (λ (a : Memᴰ z l). inl (mathlib.Core.List.Memᴰ.tail a)) (λ (b : Memᴰ z []). absurd (mathlib.Core.List.Memᴰ.not-nil b)) (f [] k))
      (mathlib.Core.List.Memᴰ.cases_cons h)
  ahead_from x rest {z} l (y ∷ m) f h =
      let later : Memᴰ z (merge_ahead before x rest m) → Memᴰ z (x ∷ l) ⊎ Memᴰ z m = ahead_from x rest l m f in
      (elim (before y x) as
      (λ b. Memᴰ z (cond b (y ∷ merge_ahead before x rest m) (x ∷ rest (y ∷ m))) → Memᴰ z (x ∷ l) ⊎ Memᴰ z (y ∷ m)) [
        | true ↦
            λ (k : Memᴰ z (y ∷ merge_ahead before x rest m)).
            ⊎_elim
            (λ (e : z ≡ y). inr (mathlib.Core.List.Memᴰ.head e))
            (λ (g : Memᴰ z (merge_ahead before x rest m)).
            ⊎_elim (λ (a : Memᴰ z (x ∷ l)). inl a) (λ (b : Memᴰ z m). inr (mathlib.Core.List.Memᴰ.tail b)) (later g))
            (mathlib.Core.List.Memᴰ.cases_cons k)
        | false ↦
            λ (k : Memᴰ z (x ∷ rest (y ∷ m))).
            ⊎_elim
            (λ (e : z ≡ x). inl (mathlib.Core.List.Memᴰ.head e))
            (λ (g : Memᴰ z (rest (y ∷ m))).
            ⊎_elim (λ (a : Memᴰ z l). inl (mathlib.Core.List.Memᴰ.tail a)) (λ (b : Memᴰ z (y ∷ m)). inr b) (f (y ∷ m) g))
            (mathlib.Core.List.Memᴰ.cases_cons k)
      ])
      h

  -- a member of the merged list is a member of one of the two
  pub merge_from : {z : A} (l m : List A) → Memᴰ z (merge before l m) → Memᴰ z l ⊎ Memᴰ z m
  merge_from [] m h = inr h
  merge_from (x ∷ l) m h = ahead_from x (merge before l) l m (λ n k. merge_from l n k) h

  ahead_first : (x : A) (rest : List A → List A) (m : List A) → Memᴰ x (merge_ahead before x rest m)
  ahead_first x rest [] = mathlib.Core.List.Memᴰ.head refl
  ahead_first x rest (y ∷ m) =
      let later : Memᴰ x (merge_ahead before x rest m) = ahead_first x rest m in
      elim (before y x) as (λ b. Memᴰ x (cond b (y ∷ merge_ahead before x rest m) (x ∷ rest (y ∷ m))))
      [ true ↦ mathlib.Core.List.Memᴰ.tail later | false ↦ mathlib.Core.List.Memᴰ.head refl ]

  ahead_rest : (x : A) (rest : List A → List A) {z : A} → ((n : List A) → Memᴰ z (rest n)) → (m : List A) → Memᴰ z (merge_ahead before x rest m)
  ahead_rest x rest f [] = mathlib.Core.List.Memᴰ.tail (f [])
  ahead_rest x rest {z} f (y ∷ m) =
      let later : Memᴰ z (merge_ahead before x rest m) = ahead_rest x rest f m in
      elim (before y x) as (λ b. Memᴰ z (cond b (y ∷ merge_ahead before x rest m) (x ∷ rest (y ∷ m))))
      [ true ↦ mathlib.Core.List.Memᴰ.tail later | false ↦ mathlib.Core.List.Memᴰ.tail (f (y ∷ m)) ]

  -- every member of the first is in the merged list
  pub merge_left : {z : A} (l m : List A) → Memᴰ z l → Memᴰ z (merge before l m)
  merge_left [] m h = absurd (mathlib.Core.List.Memᴰ.not-nil h)
  merge_left {z} (x ∷ l) m h =
      let later : (n : List A) → Memᴰ z l → Memᴰ z (merge before l n) = λ n k. merge_left l n k in
      ⊎_elim
      (λ (e : z ≡ x). subst (λ (u : A). Memᴰ u (merge_ahead before x (merge before l) m)) (sym e) (ahead_first x (merge before l) m))
      (λ (k : Memᴰ z l). ahead_rest x (merge before l) (λ n. later n k) m)
      (mathlib.Core.List.Memᴰ.cases_cons h)

  ahead_right :
      (x : A) (rest : List A → List A) {z : A} → ((n : List A) → Memᴰ z n → Memᴰ z (rest n)) → (m : List A) →
      Memᴰ z m → Memᴰ z (merge_ahead before x rest m)
  ahead_right x rest f [] h = absurd (mathlib.Core.List.Memᴰ.not-nil h)
  ahead_right x rest {z} f (y ∷ m) h =
      let later : Memᴰ z m → Memᴰ z (merge_ahead before x rest m) = ahead_right x rest f m in
      elim (before y x) as (λ b. Memᴰ z (cond b (y ∷ merge_ahead before x rest m) (x ∷ rest (y ∷ m)))) [
        | true ↦ ⊎_elim (λ (e : z ≡ y). mathlib.Core.List.Memᴰ.head e) (λ (k : Memᴰ z m). mathlib.Core.List.Memᴰ.tail (later k)) (mathlib.Core.List.Memᴰ.cases_cons h)
        | false ↦ mathlib.Core.List.Memᴰ.tail (f (y ∷ m) h)
      ]

  -- every member of the second is in the merged list
  pub merge_right : {z : A} (l m : List A) → Memᴰ z m → Memᴰ z (merge before l m)
  merge_right [] m h = h
  merge_right {z} (x ∷ l) m h = ahead_right x (merge before l) (λ n k. merge_right l n k) m h

  -- what holds of all members of both holds of all merged
  pub merge_all : (p : A → Bool) (l m : List A) → T (all p l) → T (all p m) → T (all p (merge before l m))
  merge_all p l m s t =
      all_intro p (merge before l m)
      (λ x h. ⊎_elim (λ (a : Memᴰ x l). all_elim p s a) (λ (b : Memᴰ x m). all_elim p t b) (merge_from l m h))

  -- ── what a test keeps

  ahead_keep :
      (p : A → Bool) (x : A) (rest : List A → List A) (kept : List A) → ((n : List A) → ((y : A) → Memᴰ y n → T (not (p y))) → keep p (rest n) ≡ kept) →
      (m : List A) → ((y : A) → Memᴰ y m → T (not (p y))) → keep p (merge_ahead before x rest m) ≡ cond (p x) (x ∷ kept) kept
  ahead_keep p x rest kept f [] h = ap (λ (r : List A). cond (p x) (x ∷ r) r) (f [] h)
  ahead_keep p x rest kept f (y ∷ m) h =
      let later : keep p (merge_ahead before x rest m) ≡ cond (p x) (x ∷ kept) kept = ahead_keep p x rest kept f m (λ z k. h z (mathlib.Core.List.Memᴰ.tail k)) in
      elim (before y x) as (λ b. keep p (cond b (y ∷ merge_ahead before x rest m) (x ∷ rest (y ∷ m))) ≡ cond (p x) (x ∷ kept) kept) [
        | true ↦
            cond_false (p y) (y ∷ keep p (merge_ahead before x rest m)) (keep p (merge_ahead before x rest m)) (h y (mathlib.Core.List.Memᴰ.head refl))
            ∙ later
        | false ↦ ap (λ (r : List A). cond (p x) (x ∷ r) r) (f (y ∷ m) h)
      ]

  -- a test that holds of no member of the second keeps what it keeps of the first
  pub merge_keep : (p : A → Bool) (l m : List A) → ((y : A) → Memᴰ y m → T (not (p y))) → keep p (merge before l m) ≡ keep p l
  merge_keep p [] m h = keep_none p m h
  merge_keep p (x ∷ l) m h = ahead_keep p x (merge before l) (keep p l) (λ n g. merge_keep p l n g) m h

-- ── order

module _ {A : Type 0} (before : A → A → Bool) (trans : (a b c : A) → T (before a b) → T (before b c) → T (before a c)) where
  ahead_ascending :
      (x : A) (l m : List A) → ((y : A) → Memᴰ y l → T (before x y)) → ((y : A) → Memᴰ y m → T (before x y) ⊎ T (before y x)) →
      ((n : List A) → ((y : A) → Memᴰ y n → Memᴰ y m) → T (ascending before n) → T (ascending before (merge before l n))) →
      T (ascending before m) → T (ascending before (merge_ahead before x (merge before l) m))
  ahead_ascending x l [] first apart f t =
      ascending_cons before x (merge before l [])
      (λ y h. ⊎_elim (λ (a : Memᴰ y l). first y a) (λ (b : Memᴰ y []). absurd (mathlib.Core.List.Memᴰ.not-nil b)) (merge_from before l [] h))
      (f [] (λ y h. h) tt)
  ahead_ascending x l (y ∷ m) first apart f t =
      ⊎_elim
      (λ (k : T (before y x)).
      let r : T (ascending before (merge_ahead before x (merge before l) m)) =
      ahead_ascending x l m first (λ z h. apart z (mathlib.Core.List.Memᴰ.tail h)) (λ n h. f n (λ z g. mathlib.Core.List.Memᴰ.tail (h z g))) (ascending_tail before y m t)
      in
      subst (λ (s : List A). T (ascending before s))
      (sym (cond_true (before y x) (y ∷ merge_ahead before x (merge before l) m) (x ∷ merge before l (y ∷ m)) k))
      (ascending_cons before y (merge_ahead before x (merge before l) m)
      (λ z h.
      ⊎_elim
      (λ (a : Memᴰ z (x ∷ l)).
      ⊎_elim
      (λ (e : z ≡ x). subst (λ (u : A). T (before y u)) (sym e) k)
      (λ (b : Memᴰ z l). trans y x z k (first z b))
      (mathlib.Core.List.Memᴰ.cases_cons a))
      (λ (b : Memᴰ z m). ascending_first before trans y m t z b)
      (merge_from before (x ∷ l) m h))
      r))
      (λ (k : T (not (before y x))).
      let xy : T (before x y) = ⊎_elim (λ (a : T (before x y)). a) (λ (b : T (before y x)). absurd (T_not (before y x) k b)) (apart y (mathlib.Core.List.Memᴰ.head refl)) in
      subst (λ (s : List A). T (ascending before s))
      (sym (cond_false (before y x) (y ∷ merge_ahead before x (merge before l) m) (x ∷ merge before l (y ∷ m)) k))
      (ascending_cons before x (merge before l (y ∷ m))
      (λ z h.
      ⊎_elim
      (λ (a : Memᴰ z l). first z a)
      (λ (b : Memᴰ z (y ∷ m)).
      ⊎_elim
      (λ (e : z ≡ y). subst (λ (u : A). T (before x u)) (sym e) xy)
      (λ (c : Memᴰ z m). trans x y z xy (ascending_first before trans y m t z c))
      (mathlib.Core.List.Memᴰ.cases_cons b))
      (merge_from before l (y ∷ m) h))
      (f (y ∷ m) (λ z h. h) t)))
      (T-cases (before y x))

  -- two ascending lists, of whose members each of one is before or after each of the other, merge into an ascending one
  pub merge_ascending :
      (l m : List A) → ((x y : A) → Memᴰ x l → Memᴰ y m → T (before x y) ⊎ T (before y x)) →
      T (ascending before l) → T (ascending before m) → T (ascending before (merge before l m))
  merge_ascending [] m apart s t = t
  merge_ascending (x ∷ l) m apart s t =
      ahead_ascending x l m (ascending_first before trans x l s) (λ y h. apart x y (mathlib.Core.List.Memᴰ.head refl) h)
      (λ n g u. merge_ascending l n (λ a b h k. apart a b (mathlib.Core.List.Memᴰ.tail h) (g b k)) (ascending_tail before x l s) u)
      t
