-- Laws for code over lists: what a test or a sum over the first i members becomes with one member more, what is left
-- behind them, flags joined one by one, and arrays with a count and nothing in the other places.
use Rattle.std.specs.Prelude.{◌≡◌, refl, Bool, true, false, cond, ◌&&◌, ◌||◌, List, [], ◌∷◌, ◌++◌, map, ℕ, zero, suc, ◌+◌, ◌-◌, ◌≤◌, ◌<◌, max, T, eqb, length, get_or, take, drop, replicate}
use Rattle.std.proofs.Common.{sym, ap, ap₂, subst, ◌∙◌, not-suc-le-zero, le_of_suc-le-suc, add-one, sub-one, arith, drop_of_length-le, length-drop, take-append-drop, take-suc, take_all, drop-cons, get_or-take, length-take-le, eqb-true}
use Rattle.std.proofs.Math.Bool.{and-true, and-false, and_assoc, or-false}
use mir.Val.{bool_byte}
use Rattle.sets.specs.Sets.{every, any, all, total, ascending, same_list}
use Rattle.sets.specs.Tests.{and_left, and_right, and_both}
use Rattle.sets.specs.Laws.{all_elim, any_append, all_append, total-append}
use Rattle.sets.specs.Count.{member_first}

-- a flag that stands for a guard and a test, with one test more
pub guarded_step : (g a b ok here : Bool) → ok ≡ (g && a) → (a && here) ≡ b → (ok && here) ≡ (g && b)
guarded_step g a b ok here e f = rw (e, ← f) (and_assoc g a here)

-- ── a list of tests: flag by flag as code joins them, and all their facts as one tuple

abbrev pub joined : Bool → List Bool → Bool
joined a [] = a
joined a (b ∷ l) = joined (a && b) l

pub joined_every : (a : Bool) (l : List Bool) → joined a l ≡ every (a ∷ l)
joined_every a [] = sym (and-true a)
joined_every a (b ∷ l) = joined_every (a && b) l ∙ and_assoc a b (every l)

abbrev pub Holds : List Bool → Type 0
Holds [] = Unit {0}
Holds (b ∷ l) = T b × Holds l

pub every_facts : (l : List Bool) → T (every l) → Holds l
every_facts [] t = tt
every_facts (b ∷ l) t = (and_left b (every l) t, every_facts l (and_right b (every l) t))

pub every_holds : (l : List Bool) → Holds l → T (every l)
every_holds [] f = tt
every_holds (b ∷ l) f = and_both b (every l) f.0 (every_holds l f.1)

-- one test that fails, and not all hold
pub every_fails : (l : List Bool) (i : ℕ) → get_or l i true ≡ false → every l ≡ false
every_fails [] i e = e
every_fails (b ∷ l) zero e = ap (λ (x : Bool). x && every l) e
every_fails (b ∷ l) (suc i) e = ap (λ (x : Bool). b && x) (every_fails l i e) ∙ and-false b

-- past the end of an empty list there is nothing
none_left : {P : Type 0} {i : ℕ} → i < 0 → P
none_left h = absurd (not-suc-le-zero h)

module _ {A : Type 0} where
  pub all_more : (p : A → Bool) (l : List A) (i : ℕ) (d : A) → i < length l → all p (take (i + 1) l) ≡ (all p (take i l) && p (get_or l i d))
  all_more p l i d h =
      rw (add-one, take-suc l i d h)
      (all_append p (take i l) (get_or l i d ∷ []) ∙ ap (λ (b : Bool). all p (take i l) && b) (and-true (p (get_or l i d))))

  pub any_more : (p : A → Bool) (l : List A) (i : ℕ) (d : A) → i < length l → any p (take (i + 1) l) ≡ (any p (take i l) || p (get_or l i d))
  any_more p l i d h =
      rw (add-one, take-suc l i d h)
      (any_append p (take i l) (get_or l i d ∷ []) ∙ ap (λ (b : Bool). any p (take i l) || b) (or-false (p (get_or l i d))))

  pub total_more : (f : A → ℕ) (l : List A) (i : ℕ) (d : A) → i < length l → total f (take (i + 1) l) ≡ total f (take i l) + f (get_or l i d)
  total_more f l i d h =
      rw (add-one, take-suc l i d h) (omega (arith, total-append f (take i l) (get_or l i d ∷ [])))

  ascending_suc : (before : A → A → Bool) (l : List A) (i : ℕ) (d : A) → suc i < length l →
      ascending before (take (suc (suc i)) l) ≡ (ascending before (take (suc i) l) && before (get_or l i d) (get_or l (suc i) d))
  ascending_suc before [] i d h = none_left h
  ascending_suc before (x ∷ []) i d h = none_left (le_of_suc-le-suc h)
  ascending_suc before (x ∷ y ∷ l) zero d h = and-true (before x y)
  ascending_suc before (x ∷ y ∷ l) (suc i) d h =
      ap (λ (b : Bool). before x y && b) (ascending_suc before (y ∷ l) i d (le_of_suc-le-suc h))
      ∙ sym (and_assoc (before x y) (ascending before (take (suc i) (y ∷ l))) (before (get_or (y ∷ l) i d) (get_or (y ∷ l) (suc i) d)))

  pub ascending_more : (before : A → A → Bool) (l : List A) (i : ℕ) (d : A) → 1 ≤ i → i < length l →
      ascending before (take (i + 1) l) ≡ (ascending before (take i l) && before (get_or l (i - 1) d) (get_or l i d))
  ascending_more before l zero d g h = none_left g
  ascending_more before l (suc i) d g h = rw (add-one, sub-one) (ascending_suc before l i d h)

  pub ascending_start : (before : A → A → Bool) (l : List A) → ascending before (take 1 l) ≡ true
  ascending_start before [] = refl
  ascending_start before (x ∷ l) = refl

  -- a count of none or one asks for nothing
  pub ascending_end : (before : A → A → Bool) (l : List A) (n i : ℕ) → 1 ≤ i → n ≤ i → i ≤ max 1 n → ascending before (take i l) ≡ ascending before (take n l)
  ascending_end before l zero i g h k =
      let e : i ≡ 1 = omega arith in
      ap (λ (j : ℕ). ascending before (take j l)) e ∙ ascending_start before l
  ascending_end before l (suc n) i g h k =
      let e : i ≡ suc n = omega arith in
      ap (λ (j : ℕ). ascending before (take j l)) e

  -- ── a flag that a loop carries: it has looked at the first i members, and looks at one more

  pub all_step :
      (p : A → Bool) (l : List A) (i : ℕ) (d : A) (ok here : Bool) → i < length l →
      ok ≡ all p (take i l) → here ≡ p (get_or l i d) → (ok && here) ≡ all p (take (i + 1) l)
  all_step p l i d ok here h e f = rw (e, f) (sym (all_more p l i d h))

  pub any_step :
      (p : A → Bool) (l : List A) (i : ℕ) (d : A) (found here : Bool) → i < length l →
      found ≡ any p (take i l) → here ≡ p (get_or l i d) → (found || here) ≡ any p (take (i + 1) l)
  any_step p l i d found here h e f = rw (e, f) (sym (any_more p l i d h))

  pub all_end : (p : A → Bool) (l : List A) (n i : ℕ) (ok : Bool) → i ≤ n → n ≤ i → ok ≡ all p (take i l) → ok ≡ all p (take n l)
  all_end p l n i ok g h e =
      let k : i ≡ n = omega arith in
      subst (λ (j : ℕ). ok ≡ all p (take j l)) k e

  -- what is said of the first n is said of each of them
  pub all_at : (p : A → Bool) (l : List A) (n i : ℕ) (d : A) → T (all p (take n l)) → i < n → i < length l → T (p (get_or l i d))
  all_at p l n i d t h k = all_elim p t (member_first l n i d h k)

  pub ascending_step :
      (before : A → A → Bool) (l : List A) (i : ℕ) (d : A) (ok here : Bool) → 1 ≤ i → i < length l →
      ok ≡ ascending before (take i l) → here ≡ before (get_or l (i - 1) d) (get_or l i d) → (ok && here) ≡ ascending before (take (i + 1) l)
  ascending_step before l i d ok here g h e f = rw (e, f) (sym (ascending_more before l i d g h))

  -- ── the same told by what is left: the flag and a test of the members from i on

  pub rest_step :
      (p : A → Bool) (l : List A) (i : ℕ) (d : A) (ok here r : Bool) → i < length l →
      (ok && all p (drop i l)) ≡ r → here ≡ p (get_or l i d) → ((ok && here) && all p (drop (i + 1) l)) ≡ r
  rest_step p l i d ok here r h e f =
      rw (add-one, f)
      (and_assoc ok (p (get_or l i d)) (all p (drop (suc i) l))
      ∙ ap (λ (m : List A). ok && all p m) (sym (drop-cons l i d h))
      ∙ e)

  pub rest_end : (p : A → Bool) (l : List A) (i : ℕ) (ok r : Bool) → length l ≤ i → (ok && all p (drop i l)) ≡ r → ok ≡ r
  rest_end p l i ok r h e =
      sym (and-true ok) ∙ ap (λ (m : List A). ok && all p m) (sym (drop_of_length-le l h)) ∙ e

  pub same_step :
      (same : A → A → Bool) (l m : List A) (i : ℕ) (d : A) (ok here r : Bool) → i < length l → i < length m →
      (ok && same_list same (drop i l) (drop i m)) ≡ r → here ≡ same (get_or l i d) (get_or m i d) →
      ((ok && here) && same_list same (drop (i + 1) l) (drop (i + 1) m)) ≡ r
  same_step same l m i d ok here r h k e f =
      rw (add-one, f)
      (and_assoc ok (same (get_or l i d) (get_or m i d)) (same_list same (drop (suc i) l) (drop (suc i) m))
      ∙ ap₂ (λ (u v : List A). ok && same_list same u v) (sym (drop-cons l i d h)) (sym (drop-cons m i d k))
      ∙ e)

  pub same_end :
      (same : A → A → Bool) (l m : List A) (i : ℕ) (ok r : Bool) → length l ≤ i → length m ≤ i →
      (ok && same_list same (drop i l) (drop i m)) ≡ r → ok ≡ r
  same_end same l m i ok r h k e =
      sym (and-true ok)
      ∙ ap₂ (λ (u v : List A). ok && same_list same u v) (sym (drop_of_length-le l h)) (sym (drop_of_length-le m k))
      ∙ e

  -- ── two tests in one

  pub all_both : (p q : A → Bool) (l : List A) → all (λ x. p x && q x) l ≡ (all p l && all q l)
  all_both p q [] = refl
  all_both p q (x ∷ l) = rw (all_both p q l) (swap (p x) (q x) (all p l) (all q l))
    where
      swap : (a b c d : Bool) → ((a && b) && (c && d)) ≡ ((a && c) && (b && d))
      swap true true c d = refl
      swap true false true d = refl
      swap true false false d = refl
      swap false b c d = refl

  -- a list of members that are all one, and the other way round
  pub all_one : (p : A → Bool) (z : A) → ((x : A) → T (p x) → x ≡ z) → (l : List A) → T (all p l) → l ≡ replicate (length l) z
  all_one p z one [] t = refl
  all_one p z one (x ∷ l) t =
      let e = one x (and_left (p x) (all p l) t) in
      let r = all_one p z one l (and_right (p x) (all p l) t) in
      λ i. e i ∷ r i

  pub all_replicate : (p : A → Bool) (z : A) (n : ℕ) → T (p z) → T (all p (replicate n z))
  all_replicate p z zero t = tt
  all_replicate p z (suc n) t = and_both (p z) (all p (replicate n z)) t (all_replicate p z n t)

  -- two arrays of one length with the same first members and nothing behind them are equal, and so are their counts
  pub places_one :
      (p : A → Bool) (z : A) → ((x : A) → T (p x) → x ≡ z) →
      (l m : List A) (i j : ℕ) → length l ≡ length m → i ≤ length l → j ≤ length m →
      T (all p (drop i l)) → T (all p (drop j m)) → take i l ≡ take j m → (i ≡ j) × (l ≡ m)
  places_one p z one l m i j e hi hj f g t = (c, r)
    where
      c : i ≡ j
      c = sym (length-take-le i l hi) ∙ ap length t ∙ length-take-le j m hj

      d : length (drop i l) ≡ length (drop j m)
      d = length-drop i l ∙ ap₂ (λ (a b : ℕ). a - b) e c ∙ sym (length-drop j m)

      b : drop i l ≡ drop j m
      b = all_one p z one (drop i l) f ∙ ap (λ (k : ℕ). replicate k z) d ∙ sym (all_one p z one (drop j m) g)

      r : l ≡ m
      r = sym (take-append-drop i l) ∙ ap₂ (λ (u v : List A). u ++ v) t b ∙ take-append-drop j m

-- ── a list that is made of another

module _ {A B : Type 0} where
  pub ascending-map : (f : A → B) (before : B → B → Bool) (l : List A) → ascending before (map f l) ≡ ascending (λ x y. before (f x) (f y)) l
  ascending-map f before [] = refl
  ascending-map f before (x ∷ []) = refl
  ascending-map f before (x ∷ y ∷ l) = ap (λ (b : Bool). before (f x) (f y) && b) (ascending-map f before (y ∷ l))

  -- where f tells apart the members that have a test, it tells apart lists of them
  pub map_one :
      (f : A → B) (p : A → Bool) → ((x y : A) → T (p x) → T (p y) → f x ≡ f y → x ≡ y) →
      (l m : List A) → T (all p l) → T (all p m) → map f l ≡ map f m → l ≡ m
  map_one f p one [] [] s t e = refl
  map_one f p one [] (y ∷ m) s t e = let z : ◌≡◌ {A = ℕ} 0 1 = cc in absurd (omega arith)
  map_one f p one (x ∷ l) [] s t e = let z : ◌≡◌ {A = ℕ} 0 1 = cc in absurd (omega arith)
  map_one f p one (x ∷ l) (y ∷ m) s t e =
      let h : f x ≡ f y = cc in
      let k : map f l ≡ map f m = cc in
      let u = one x y (and_left (p x) (all p l) s) (and_left (p y) (all p m) t) h in
      let r = map_one f p one l m (and_right (p x) (all p l) s) (and_right (p y) (all p m) t) k in
      λ i. u i ∷ r i

-- ── every pair of two lists, one pair a turn: a member of the first with each of the second, and then the next member

module _ {A B : Type 0} (r : A → B → Bool) where
  -- the first i members with all of m, and the next one with the first j
  abbrev pub pairs_to : List A → List B → A → ℕ → ℕ → Bool
  pairs_to l m d i j = all (λ x. all (r x) m) (take i l) && all (r (get_or l i d)) (take j m)

  -- one pair more, with the first n of m; at the last of them the next member is begun
  pub pairs_turn :
      (l : List A) (m : List B) (d : A) (e : B) (n i j : ℕ) (ok here last : Bool) (next : ℕ) → n ≤ length m → i < length l → j < n →
      ok ≡ pairs_to l (take n m) d i j → here ≡ r (get_or l i d) (get_or m j e) → last ≡ eqb (j + 1) n → next ≡ cond last 0 (j + 1) →
      (ok && here) ≡ pairs_to l (take n m) d (i + bool_byte last) next
  pairs_turn l m d e n i j ok here last next g h k f u v w = by_flag last next v w
    where
      x : A
      x = get_or l i d

      these : List B
      these = take n m

      front : Bool
      front = all (λ y. all (r y) these) (take i l)

      size : length these ≡ n
      size = length-take-le n m g

      more : (ok && here) ≡ (front && all (r x) (take (j + 1) these))
      more =
          rw (f, u, ← get_or-take n m j e k)
          (and_assoc front (all (r x) (take j these)) (r x (get_or these j e))
          ∙ ap (λ (b : Bool). front && b) (sym (all_more (r x) these j e (omega (arith, size)))))

      by_flag : (last : Bool) (next : ℕ) → last ≡ eqb (j + 1) n → next ≡ cond last 0 (j + 1) → (ok && here) ≡ pairs_to l these d (i + bool_byte last) next
      by_flag true next v w =
          let whole : take (j + 1) these ≡ these = take_all (j + 1) these (omega (arith, size, eqb-true (j + 1) n (sym v))) in
          more
          ∙ ap (λ (t : List B). front && all (r x) t) whole
          ∙ sym (all_more (λ y. all (r y) these) l i d h)
          ∙ sym (and-true (all (λ y. all (r y) these) (take (i + 1) l)))
          ∙ ap (λ (b : ℕ). all (λ y. all (r y) these) (take (i + 1) l) && all (r (get_or l (i + 1) d)) (take b these)) (sym w)
      by_flag false next v w =
          let same : i + 0 ≡ i = omega arith in
          more ∙ ap₂ (λ (a b : ℕ). pairs_to l these d a b) (sym same) (sym w)

  -- after the last turn every pair has been looked at
  pub pairs_end :
      (l : List A) (m : List B) (d : A) (n i j : ℕ) (ok : Bool) → i ≤ n → n ≤ i → (n ≤ i → j ≡ 0) → ok ≡ pairs_to l m d i j →
      ok ≡ all (λ x. all (r x) m) (take n l)
  pairs_end l m d n i j ok g h k e =
      let all_done : i ≡ n = omega arith in
      e
      ∙ ap₂ (λ (a b : ℕ). pairs_to l m d a b) all_done (k h)
      ∙ and-true (all (λ x. all (r x) m) (take n l))

  -- with an empty list there is no pair
  pub pairs_none : (l : List A) → all (λ x. all (r x) []) l ≡ true
  pairs_none [] = refl
  pairs_none (x ∷ l) = pairs_none l
