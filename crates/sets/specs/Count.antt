-- Counting different members: a list without repeats, each of whose members counts as some member of a second list, is
-- no longer than the second. With it the lengths and sums that follow, and members of ascending lists compared.
use Rattle.std.specs.Prelude.{◌≡◌, refl, ◌⊎◌, Bool, true, false, not, cond, ◌||◌, ℕ, zero, suc, ◌*◌, ◌≤◌, ◌<◌, T, length, get_or, take}
use Rattle.std.proofs.Common.{sym, subst, ⊎_elim, not-suc-le-zero, le_of_suc-le-suc, suc-mul, arith, T_not, length-append, length-take, get_or-take}
use mathlib.Core.List.Memᴰ
use mathlib.Core.List.{List, [], ◌∷◌, Memᴰ}
use Rattle.std.proofs.Math.Dec.{not_T}
use Rattle.sets.specs.Sets.{any, all, keep, pairwise, ascending, has, place, together, gather}
use Rattle.sets.specs.Tests.{and_left, and_right, and_both, T-cases, cond_true, cond_false}
use Rattle.sets.specs.Laws.{any_intro, any_elim, all_intro, all_elim, keep_intro, keep-length, place_from, together_from, together_right}
use Rattle.sets.specs.Order.{ascending_tail, ascending_first}
use Rattle.sets.specs.Sums.{pairwise_two, pairwise_wider}

module _ {A : Type 0} where
  -- what is among the first n is a member
  pub take_from : {x : A} (n : ℕ) (l : List A) → Memᴰ x (take n l) → Memᴰ x l
  take_from zero l m = absurd (Memᴰ.not-nil m)
  take_from (suc n) [] m = m
  take_from {x} (suc n) (y ∷ l) m =
      ⊎_elim
      (λ (e : x ≡ y). Memᴰ.head e)
      (λ (h : Memᴰ x (take n l)). Memᴰ.tail (take_from n l h))
      (Memᴰ.cases_cons m)

  -- what stands at a place is a member, and one of the first n where the place is
  pub member_at : (l : List A) (i : ℕ) (d : A) → i < length l → Memᴰ (get_or l i d) l
  member_at [] i d h = absurd (not-suc-le-zero h)
  member_at (x ∷ l) zero d h = Memᴰ.head refl
  member_at (x ∷ l) (suc i) d h = Memᴰ.tail (member_at l i d (le_of_suc-le-suc h))

  pub member_first : (l : List A) (n i : ℕ) (d : A) → i < n → i < length l → Memᴰ (get_or l i d) (take n l)
  member_first l n i d g h =
      Memᴰ.cast (sym (get_or-take n l i d g)) (member_at (take n l) i d (omega (arith, length-take n l)))

  -- what holds of the first and of all others holds of every member
  pub each_cons : (P : A → Type 0) (x : A) (l : List A) → P x → ((y : A) → Memᴰ y l → P y) → (y : A) → Memᴰ y (x ∷ l) → P y
  each_cons P x l first others y m =
      ⊎_elim (λ (e : y ≡ x). subst P (sym e) first) (λ (h : Memᴰ y l). others y h) (Memᴰ.cases_cons m)

  -- less is left of a list when what counts as one of its members is taken out
  pub keep_shorter : (same : A → A → Bool) (x : A) (v : List A) → T (has same x v) → length (keep (λ y. not (same x y)) v) < length v
  keep_shorter same x [] t = absurd t
  keep_shorter same x (y ∷ v) t =
      (elim (same x y) as
      (λ b.
      T (b || any (same x) v) →
      length (cond (not b) (y ∷ keep (λ z. not (same x z)) v) (keep (λ z. not (same x z)) v)) < suc (length v)) [
        | true ↦ λ (h : Unit {0}). omega (arith, keep-length (λ z. not (same x z)) v)
        | false ↦ λ (h : T (any (same x) v)). omega (arith, keep_shorter same x v h)
      ])
      t

module _ {A B : Type 0} where
  -- lists of at most n members each, one after another
  pub gather-length : (f : A → List B) (n : ℕ) (l : List A) → ((x : A) → Memᴰ x l → length (f x) ≤ n) → length (gather f l) ≤ length l * n
  gather-length f n [] h = omega arith
  gather-length f n (x ∷ l) h =
      let a : length (f x) ≤ n = h x (Memᴰ.head refl) in
      let r : length (gather f l) ≤ length l * n = gather-length f n l (λ y m. h y (Memᴰ.tail m)) in
      rw (length-append (f x) (gather f l), suc-mul (length l) n) (omega arith)

module _ {A : Type 0} (before : A → A → Bool) (trans : (a b c : A) → T (before a b) → T (before b c) → T (before a c)) where
  -- each member of an ascending list is before all members after it
  ascending-pairwise : (l : List A) → T (ascending before l) → T (pairwise before l)
  ascending-pairwise [] t = tt
  ascending-pairwise (x ∷ l) t =
      and_both (all (before x) l) (pairwise before l) (all_intro (before x) l (ascending_first before trans x l t))
      (ascending-pairwise l (ascending_tail before x l t))

  -- of two members of an ascending list, either they are one, or one is before the other
  pub ascending_two :
      {x y : A} (l : List A) → T (ascending before l) → Memᴰ x l → Memᴰ y l →
      (x ≡ y) ⊎ (T (before x y) ⊎ T (before y x))
  ascending_two l t m n = pairwise_two before l (ascending-pairwise l t) m n

  -- two members of an ascending list, neither before the other, are one
  pub ascending_neither :
      {x y : A} (l : List A) → T (ascending before l) → Memᴰ x l → Memᴰ y l →
      (T (before x y) → ⊥) → (T (before y x) → ⊥) → x ≡ y
  ascending_neither {x} {y} l t m n f g =
      ⊎_elim
      (λ (e : x ≡ y). e)
      (λ (h : T (before x y) ⊎ T (before y x)).
      absurd (⊎_elim (λ (k : T (before x y)). f k) (λ (k : T (before y x)). g k) h))
      (ascending_two l t m n)

  -- an ascending list has no repeats, for any sameness that no order allows
  pub ascending_different :
      (same : A → A → Bool) → ((a b : A) → T (same a b) → T (before a b) → ⊥) → (l : List A) → T (ascending before l) →
      T (pairwise (λ a b. not (same a b)) l)
  ascending_different same never l t =
      pairwise_wider before (λ a b. not (same a b)) l (λ x y m n s. not_T (same x y) (λ (e : T (same x y)). never x y e s)) (ascending-pairwise l t)

-- ── a sameness: symmetric and transitive

module _ {A : Type 0} (same : A → A → Bool) (symm : (a b : A) → T (same a b) → T (same b a)) where
  pub place_different :
      (before : A → A → Bool) (x : A) (l : List A) → T (all (λ b. not (same x b)) l) →
      T (pairwise (λ a b. not (same a b)) l) → T (pairwise (λ a b. not (same a b)) (place before x l))
  place_different before x [] f t = tt
  place_different before x (z ∷ l) f t =
      let fz : T (not (same x z)) = and_left (not (same x z)) (all (λ b. not (same x b)) l) f in
      let fl : T (all (λ b. not (same x b)) l) = and_right (not (same x z)) (all (λ b. not (same x b)) l) f in
      let tz : T (all (λ b. not (same z b)) l) = and_left (all (λ b. not (same z b)) l) (pairwise (λ a b. not (same a b)) l) t in
      let tl : T (pairwise (λ a b. not (same a b)) l) = and_right (all (λ b. not (same z b)) l) (pairwise (λ a b. not (same a b)) l) t in
      let r : T (pairwise (λ a b. not (same a b)) (place before x l)) = place_different before x l fl tl in
      let g : T (all (λ b. not (same z b)) (place before x l)) =
      all_intro (λ b. not (same z b)) (place before x l)
      (λ y m.
      ⊎_elim
      (λ (e : y ≡ x).
      subst (λ (u : A). T (not (same z u))) (sym e)
      (not_T (same z x) (λ (s : T (same z x)). T_not (same x z) fz (symm z x s))))
      (λ (k : Memᴰ y l). all_elim (λ b. not (same z b)) tz k)
      (place_from before l m))
      in
      elim (before x z) as (λ b. T (pairwise (λ a b. not (same a b)) (cond b (x ∷ z ∷ l) (z ∷ place before x l)))) [
        | true ↦ and_both (all (λ b. not (same x b)) (z ∷ l)) (pairwise (λ a b. not (same a b)) (z ∷ l)) f t
        | false ↦ and_both (all (λ b. not (same z b)) (place before x l)) (pairwise (λ a b. not (same a b)) (place before x l)) g r
      ]

  -- two sets together have no repeats where the first has none
  pub together_different :
      (before : A → A → Bool) (l m : List A) → T (pairwise (λ a b. not (same a b)) l) →
      T (pairwise (λ a b. not (same a b)) (together same before l m))
  together_different before l [] t = t
  together_different before l (x ∷ m) t =
      let r : T (pairwise (λ a b. not (same a b)) (together same before l m)) = together_different before l m t in
      let s : List A = together same before l m in
      ⊎_elim
      (λ (h : T (has same x s)). rw (cond_true (has same x s) s (place before x s) h) r)
      (λ (h : T (not (has same x s))).
      rw (cond_false (has same x s) s (place before x s) h)
      (place_different before x s
      (all_intro (λ b. not (same x b)) s
      (λ y k. not_T (same x y) (λ (q : T (same x y)). T_not (has same x s) h (any_intro (same x) k q))))
      r))
      (T-cases (has same x s))

  module _ (trans : (a b c : A) → T (same a b) → T (same b c) → T (same a c)) where
    -- a list without repeats, each of whose members counts as some member of v, is no longer than v
    pub different_fewer : (u v : List A) → T (pairwise (λ a b. not (same a b)) u) → ((x : A) → Memᴰ x u → T (has same x v)) → length u ≤ length v
    different_fewer [] v t f = omega arith
    different_fewer (x ∷ u) v t f =
        let fx : T (has same x v) = f x (Memᴰ.head refl) in
        let tx : T (all (λ b. not (same x b)) u) = and_left (all (λ b. not (same x b)) u) (pairwise (λ a b. not (same a b)) u) t in
        let r : length u ≤ length (keep (λ y. not (same x y)) v) =
        different_fewer u (keep (λ y. not (same x y)) v)
        (and_right (all (λ b. not (same x b)) u) (pairwise (λ a b. not (same a b)) u) t)
        (λ z m.
        let k = any_elim (same z) v (f z (Memᴰ.tail m)) in
        any_intro (same z)
        (keep_intro (λ y. not (same x y)) v k.1
        (not_T (same x k.0)
        (λ (s : T (same x k.0)).
        T_not (same x z) (all_elim (λ b. not (same x b)) tx m) (trans x k.0 z s (symm z k.0 k.2)))))
        k.2)
        in
        omega (arith, r, keep_shorter same x v fx)

    -- so it is no longer than the set of a list that has what counts as each of its members
    pub different_fewer_set :
        (before : A → A → Bool) → ((a : A) → T (same a a)) → (u m : List A) → T (pairwise (λ a b. not (same a b)) u) →
        ((x : A) → Memᴰ x u → T (has same x m)) → length u ≤ length (together same before [] m)
    different_fewer_set before refl-same u m t f =
        different_fewer u (together same before [] m) t
        (λ x h.
        let k = any_elim (same x) m (f x h) in
        let z = together_right same before [] m refl-same k.1 in
        any_intro (same x) z.1 (trans x k.0 z.0 k.2 z.2))

    -- a list each of whose members counts as some member of a second has no more different members
    pub set_fewer :
        (before : A → A → Bool) → ((a : A) → T (same a a)) → (l m : List A) →
        ((x : A) → Memᴰ x l → T (has same x m)) → length (together same before [] l) ≤ length (together same before [] m)
    set_fewer before refl-same l m f =
        different_fewer_set before refl-same (together same before [] l) m (together_different before [] l tt)
        (λ x h.
        ⊎_elim
        (λ (k : Memᴰ x []). absurd (Memᴰ.not-nil k))
        (λ (k : Memᴰ x l). f x k)
        (together_from same before [] l h))

    -- the set of a list has as many members as any list of the same members without repeats
    pub set_length :
        (before : A → A → Bool) → ((a : A) → T (same a a)) → (l u : List A) → T (pairwise (λ a b. not (same a b)) u) →
        ((x : A) → Memᴰ x l → Memᴰ x u) → ((x : A) → Memᴰ x u → Memᴰ x l) →
        length (together same before [] l) ≡ length u
    set_length before refl-same l u t f g =
        let fewer : length (together same before [] l) ≤ length u =
        different_fewer (together same before [] l) u (together_different before [] l tt)
        (λ x h.
        ⊎_elim
        (λ (k : Memᴰ x []). absurd (Memᴰ.not-nil k))
        (λ (k : Memᴰ x l). any_intro (same x) (f x k) (refl-same x))
        (together_from same before [] l h))
        in
        let more : length u ≤ length (together same before [] l) =
        different_fewer_set before refl-same u l t (λ x h. any_intro (same x) (g x h) (refl-same x))
        in
        omega arith
