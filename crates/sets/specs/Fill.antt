-- Laws for loops that fill an array: a list from the front and one value behind it, with a member more or none at each turn.
use Rattle.std.specs.Prelude.{◌≡◌, refl, Bool, true, false, not, cond, List, [], ◌∷◌, ◌++◌, map, ℕ, zero, suc, ◌+◌, ◌-◌, ◌*◌, ◌/◌, ◌%◌, ◌^◌, ◌≤◌, ◌<◌, min, T, ltb, length, get_or, take, set, replicate, drop}
use Rattle.std.proofs.Common.{sym, ap, subst, ◌∙◌, ⊎_elim, append_assoc, append-nil, not-suc-le-zero, le_of_suc-le-suc, add-one, arith, ltb→lt, lt→ltb, nltb→le, length-append, length-take, length-drop, take-append-drop, take-suc, take_all, get_or-take}
use Rattle.std.proofs.lemmas.List.{map-append, replicate-append-replicate, length-map, length-replicate, set_at}
use Rattle.std.proofs.Math.Nat.{sub-zero}
use Rattle.std.specs.Int.{w64}
use mir.Val.{Fits, bool_byte}
use Rattle.std.proofs.Math.Dec.{not_T}
use Rattle.std.proofs.Math.ListN.{get_or-append, get_or-map}
use Rattle.std.proofs.Math.Seq.{take-append_seam, drop-append_seam, set_out, append_snoc}
use Rattle.sets.specs.Walks.{all_one, all_replicate}
use Rattle.sets.specs.Sets.{all, keep, total, gather}
use Rattle.sets.specs.Tests.{T-cases, cond_true, cond_false}
use Rattle.sets.specs.Laws.{keep_append, total-append, gather_append}

-- a flag counts as none or one
pub flag_most : (live : Bool) → bool_byte live ≤ 1
flag_most true = omega arith
flag_most false = omega arith

pub flag_more : (k i : ℕ) (live : Bool) → k ≤ i → k + bool_byte live ≤ i + 1
flag_more k i live h = omega (arith, flag_most live)

pub flag_fits : (k : ℕ) (live : Bool) → k < 2 ^ 63 → Fits w64 (k + bool_byte live)
flag_fits k live h = record { fits = omega (arith, flag_most live) }

module _ {A : Type 0} where
  -- the n places of an array: a list, and z behind it
  abbrev pub filled : ℕ → A → List A → List A
  filled n z l = l ++ replicate (n - length l) z

  pub filled-length : (n : ℕ) (z : A) (l : List A) → length l ≤ n → length (filled n z l) ≡ n
  filled-length n z l h =
      omega (arith, length-append l (replicate (n - length l) z), length-replicate (n - length l) z)

  -- the list stands in the first places
  pub filled_first : (n : ℕ) (z : A) (l : List A) → take (length l) (l ++ replicate (n - length l) z) ≡ l
  filled_first n z l = take-append_seam l (replicate (n - length l) z)

  -- what holds of the one value holds of all places behind the list
  pub filled_rest : (p : A → Bool) (n : ℕ) (z : A) (l : List A) → T (p z) → T (all p (drop (length l) (l ++ replicate (n - length l) z)))
  filled_rest p n z l t =
      subst (λ (r : List A). T (all p r)) (sym (drop-append_seam l (replicate (n - length l) z))) (all_replicate p z (n - length l) t)

  -- an array with nothing behind its first places is those, and z behind
  pub places_filled :
      (p : A → Bool) (z : A) → ((x : A) → T (p x) → x ≡ z) → (n : ℕ) (l : List A) (i : ℕ) → length l ≡ n → i ≤ n →
      T (all p (drop i l)) → l ≡ filled n z (take i l)
  places_filled p z one n l i e h t =
      let rest : length (drop i l) ≡ n - length (take i l) = omega (arith, length-drop i l, length-take i l) in
      sym (take-append-drop i l)
      ∙ ap (λ (r : List A). take i l ++ r) (all_one p z one (drop i l) t ∙ ap (λ (k : ℕ). replicate k z) rest)

  -- what stands behind a list and is worth nothing adds nothing
  total_none : (f : A → ℕ) (z : A) (n : ℕ) → f z ≡ 0 → total f (replicate n z) ≡ 0
  total_none f z zero e = refl
  total_none f z (suc n) e = omega (arith, total_none f z n e)

  pub total-filled : (f : A → ℕ) (n : ℕ) (z : A) (l : List A) → f z ≡ 0 → total f (filled n z l) ≡ total f l
  total-filled f n z l e = omega (arith, total-append f l (replicate (n - length l) z), total_none f z (n - length l) e)

  pub filled_none : (n : ℕ) (z : A) → filled n z [] ≡ replicate n z
  filled_none n z = ap (λ (k : ℕ). replicate k z) (sub-zero n)

  -- the first place behind the list
  filled_open : (n : ℕ) (z : A) (l : List A) → length l < n → filled n z l ≡ l ++ z ∷ replicate (n - suc (length l)) z
  filled_open n z l h =
      let e : n - length l ≡ suc (n - suc (length l)) = omega arith in
      ap (λ (k : ℕ). l ++ replicate k z) e

  -- a member more is written into the first place behind the list
  pub filled_next : (n : ℕ) (z : A) (l : List A) (i : ℕ) (x : A) → length l ≡ i → i < n → set (filled n z l) i x ≡ filled n z (l ++ x ∷ [])
  filled_next n z l i x at h =
      let e : n - suc (length l) ≡ n - length (l ++ x ∷ []) = omega (arith, length-append l (x ∷ [])) in
      ap (λ (a : List A). set a i x) (filled_open n z l (omega arith))
      ∙ set_at l z (replicate (n - suc (length l)) z) x i at
      ∙ sym (append_snoc l x (replicate (n - suc (length l)) z))
      ∙ ap (λ (k : ℕ). (l ++ x ∷ []) ++ replicate k z) e

  -- what stands behind the list is written over by itself
  pub filled_same : (n : ℕ) (z : A) (l : List A) → set (filled n z l) (length l) z ≡ filled n z l
  filled_same n z l =
      ⊎_elim
      (λ (t : T (ltb (length l) n)).
      let h : length l < n = ltb→lt (length l) n t in
      ap (λ (a : List A). set a (length l) z) (filled_open n z l h)
      ∙ set_at l z (replicate (n - suc (length l)) z) z (length l) refl
      ∙ sym (filled_open n z l h))
      (λ (t : T (not (ltb (length l) n))).
      let h : n ≤ length l = nltb→le (length l) n t in
      set_out (filled n z l) (length l) z
      (omega (arith, length-append l (replicate (n - length l) z), length-replicate (n - length l) z)))
      (T-cases (ltb (length l) n))

  -- ── one member more, or none: a flag says which, and a count goes up by the flag

  abbrev pub one : Bool → A → List A
  one live x = cond live (x ∷ []) []

  -- the list so far goes from l to m
  pub turn_count : (l m : List A) (k : ℕ) (live : Bool) (x : A) → k ≡ length l → m ≡ l ++ one live x → k + bool_byte live ≡ length m
  turn_count l m k true x e f = omega (arith, ap length f, length-append l (x ∷ []))
  turn_count l m k false x e f = omega (arith, ap length f, length-append l [])

  -- the array a holds l, and v is the value where it counts, z where it does not
  pub turn_filled :
      (n : ℕ) (z : A) (l m a : List A) (k : ℕ) (live : Bool) (x v : A) → k < n →
      k ≡ length l → a ≡ filled n z l → v ≡ cond live x z → m ≡ l ++ one live x → set a k v ≡ filled n z m
  turn_filled n z l m a k live x v h e f g u = rw (f, e, g, u) (by_flag live)
    where
      room : length l < n
      room = omega arith

      by_flag : (b : Bool) → set (filled n z l) (length l) (cond b x z) ≡ filled n z (l ++ one b x)
      by_flag true = filled_next n z l (length l) x refl room
      by_flag false = filled_same n z l ∙ ap (λ (r : List A). filled n z r) (sym (append-nil l))

  -- ── the first i members, and one more

  pub keep_more : (p : A → Bool) (l : List A) (i : ℕ) (d : A) → i < length l → keep p (take (i + 1) l) ≡ keep p (take i l) ++ one (p (get_or l i d)) (get_or l i d)
  keep_more p l i d h = rw (add-one, take-suc l i d h) (keep_append p (take i l) (get_or l i d ∷ []))

  -- none is left to add past the end
  pub take_more : (l : List A) (i : ℕ) (d : A) → take (i + 1) l ≡ take i l ++ one (ltb i (length l)) (get_or l i d)
  take_more l i d =
      ⊎_elim
      (λ (h : T (ltb i (length l))).
      rw (add-one, take-suc l i d (ltb→lt i (length l) h), cond_true (ltb i (length l)) (get_or l i d ∷ []) [] h) refl)
      (λ (h : T (not (ltb i (length l)))).
      let g : length l ≤ i = nltb→le i (length l) h in
      rw (cond_false (ltb i (length l)) (get_or l i d ∷ []) [] h, take_all i l g, append-nil) (take_all (i + 1) l (omega arith)))
      (T-cases (ltb i (length l)))

  -- the same of the first k members, told by a flag on k
  pub take_slot : (l : List A) (k j : ℕ) (d : A) → j < length l → one (ltb j (length (take k l))) (get_or (take k l) j d) ≡ one (ltb j k) (get_or l j d)
  take_slot l k j d h =
      ⊎_elim
      (λ (t : T (ltb j k)).
      let g : j < k = ltb→lt j k t in
      let u : T (ltb j (length (take k l))) = lt→ltb j (length (take k l)) (omega (arith, length-take k l)) in
      cond_true (ltb j (length (take k l))) (get_or (take k l) j d ∷ []) [] u
      ∙ ap (λ (x : A). x ∷ []) (get_or-take k l j d g)
      ∙ sym (cond_true (ltb j k) (get_or l j d ∷ []) [] t))
      (λ (t : T (not (ltb j k))).
      let g : k ≤ j = nltb→le j k t in
      let u : T (not (ltb j (length (take k l)))) =
      not_T (ltb j (length (take k l))) (λ (w : T (ltb j (length (take k l)))). omega (arith, ltb→lt j (length (take k l)) w, length-take k l))
      in
      cond_false (ltb j (length (take k l))) (get_or (take k l) j d ∷ []) [] u
      ∙ sym (cond_false (ltb j k) (get_or l j d ∷ []) [] t))
      (T-cases (ltb j k))

  -- a count past the end takes the whole list
  pub take_capped : (l : List A) (k n : ℕ) → length l ≤ n → take (min k n) l ≡ take k l
  take_capped l k n h =
      ⊎_elim
      (λ (t : T (ltb k n)).
      let e : min k n ≡ k = omega (arith, ltb→lt k n t) in
      ap (λ (j : ℕ). take j l) e)
      (λ (t : T (not (ltb k n))).
      let g : n ≤ k = nltb→le k n t in
      take_all (min k n) l (omega arith) ∙ sym (take_all k l (omega arith)))
      (T-cases (ltb k n))

  -- a loop up to a count, or to the end of the array where the count is past it, has taken as much as the count says
  pub take_done : (l : List A) (k n e i : ℕ) → length l ≡ n → e ≡ min k n → i ≤ e → e ≤ i → take i l ≡ take k l
  take_done l k n e i h f g u =
      let w : i ≡ min k n = omega arith in
      ap (λ (j : ℕ). take j l) w ∙ take_capped l k n (omega arith)

module _ {A B : Type 0} where
  pub mapped_length : (f : A → B) (l : List A) (n : ℕ) → length (map f l) ≡ n → length l ≡ n
  mapped_length f l n e = sym (length-map l f) ∙ e

  -- a place of a mapped list
  pub mapped_at : (f : A → B) (l : List A) (j : ℕ) (d : A) (e : B) → j < length l → get_or (map f l) j e ≡ f (get_or l j d)
  mapped_at f [] j d e h = absurd (not-suc-le-zero h)
  mapped_at f (x ∷ l) zero d e h = refl
  mapped_at f (x ∷ l) (suc j) d e h = mapped_at f l j d e (le_of_suc-le-suc h)

  -- so of one laid into an array
  pub filled_at : (n : ℕ) (z e : B) (f : A → B) (l : List A) (j : ℕ) (d : A) → j < length l → get_or (filled n z (map f l)) j e ≡ f (get_or l j d)
  filled_at n z e f l j d h =
      get_or-append (map f l) (replicate (n - length (map f l)) z) e j (omega (arith, length-map l f)) ∙ mapped_at f l j d e h

  map_one : (f : A → B) (live : Bool) (x : A) → map f (one live x) ≡ one live (f x)
  map_one f true x = refl
  map_one f false x = refl

  pub map_more : (f : A → B) (l : List A) (i : ℕ) (d : A) → i < length l → map f (take (i + 1) l) ≡ map f (take i l) ++ f (get_or l i d) ∷ []
  map_more f l i d h = rw (add-one, take-suc l i d h) (map-append f (take i l) (get_or l i d ∷ []))

  -- a turn of a loop that writes what each member gives
  pub map_turn :
      (n : ℕ) (z : B) (f : A → B) (l : List A) (i : ℕ) (d : A) (a : List B) (v : B) → i < n → length l ≡ n →
      a ≡ filled n z (map f (take i l)) → v ≡ f (get_or l i d) → set a i v ≡ filled n z (map f (take (i + 1) l))
  map_turn n z f l i d a v h e g t =
      let k : i ≡ length (map f (take i l)) = omega (arith, length-map (take i l) f, length-take i l) in
      turn_filled n z (map f (take i l)) (map f (take (i + 1) l)) a i true (f (get_or l i d)) v h k g t
      (map_more f l i d (omega arith))

  -- where each member gives what stands behind the list anyway, nothing is to be seen of it
  blank : (z : B) (l : List A) → map (λ x. z) l ≡ replicate (length l) z
  blank z [] = refl
  blank z (x ∷ l) = ap (λ (r : List B). z ∷ r) (blank z l)

  pub filled_blank : (n : ℕ) (z : B) (l : List A) → length l ≤ n → filled n z (map (λ x. z) l) ≡ replicate n z
  filled_blank n z l h =
      let k : length l + (n - length l) ≡ n = omega arith in
      ap (filled n z) (blank z l)
      ∙ ap (λ (m : ℕ). replicate (length l) z ++ replicate (n - m) z) (length-replicate (length l) z)
      ∙ replicate-append-replicate (length l) (n - length l) z
      ∙ ap (λ (m : ℕ). replicate m z) k

  -- the place behind what the first i members gave
  pub map_behind : (n : ℕ) (z : B) (f : A → B) (l : List A) (i : ℕ) → i ≤ length l → set (filled n z (map f (take i l))) i z ≡ filled n z (map f (take i l))
  map_behind n z f l i h =
      let k : length (map f (take i l)) ≡ i = omega (arith, length-map (take i l) f, length-take i l) in
      subst (λ (j : ℕ). set (filled n z (map f (take i l))) j z ≡ filled n z (map f (take i l))) k (filled_same n z (map f (take i l)))

  pub map_count : (f : A → B) (l : List A) (k n e : ℕ) → length l ≡ n → e ≡ min k n → e ≡ length (map f (take k l))
  map_count f l k n e h g = omega (arith, length-map (take k l) f, length-take k l)

  pub map-keep_more :
      (f : A → B) (p : A → Bool) (l : List A) (i : ℕ) (d : A) → i < length l →
      map f (keep p (take (i + 1) l)) ≡ map f (keep p (take i l)) ++ one (p (get_or l i d)) (f (get_or l i d))
  map-keep_more f p l i d h =
      ap (map f) (keep_more p l i d h)
      ∙ map-append f (keep p (take i l)) (one (p (get_or l i d)) (get_or l i d))
      ∙ ap (λ (r : List B). map f (keep p (take i l)) ++ r)
      (map_one f (p (get_or l i d)) (get_or l i d))

  -- ── lists of at most eight members, one after another: eight slots to each, a slot past its end left out

  -- what the first i slots hold
  abbrev pub slots : (A → List B) → List A → A → ℕ → List B
  slots f l d i = gather f (take (i / 8) l) ++ take (i % 8) (f (get_or l (i / 8) d))

  pub slots_more :
      (f : A → List B) (l : List A) (d : A) (i : ℕ) (e : B) → i / 8 < length l → length (f (get_or l (i / 8) d)) ≤ 8 →
      slots f l d (i + 1) ≡ slots f l d i ++ one (ltb (i % 8) (length (f (get_or l (i / 8) d)))) (get_or (f (get_or l (i / 8) d)) (i % 8) e)
  slots_more f l d i e h g =
      ⊎_elim
      (λ (t : T (ltb (i % 8) 7)).
      let s : i % 8 < 7 = ltb→lt (i % 8) 7 t in
      let q : (i + 1) / 8 ≡ i / 8 = omega arith in
      let r : (i + 1) % 8 ≡ i % 8 + 1 = omega arith in
      rw (q, r) (ap (λ (m : List B). front ++ m) inner ∙ sym (append_assoc front (take (i % 8) row) more)))
      (λ (t : T (not (ltb (i % 8) 7))).
      let s : 7 ≤ i % 8 = nltb→le (i % 8) 7 t in
      let q : (i + 1) / 8 ≡ suc (i / 8) = omega arith in
      let r : (i + 1) % 8 ≡ 0 = omega arith in
      let w : 8 ≡ i % 8 + 1 = omega arith in
      rw (q, r)
      (append-nil (gather f (take (suc (i / 8)) l))
      ∙ ap (gather f) (take-suc l (i / 8) d h)
      ∙ gather_append f (take (i / 8) l) (get_or l (i / 8) d ∷ [])
      ∙ ap (λ (m : List B). front ++ m)
      (append-nil row ∙ sym (take_all 8 row g) ∙ ap (λ (k : ℕ). take k row) w ∙ inner)
      ∙ sym (append_assoc front (take (i % 8) row) more)))
      (T-cases (ltb (i % 8) 7))
    where
      row : List B
      row = f (get_or l (i / 8) d)

      front : List B
      front = gather f (take (i / 8) l)

      more : List B
      more = one (ltb (i % 8) (length row)) (get_or row (i % 8) e)

      inner : take (i % 8 + 1) row ≡ take (i % 8) row ++ more
      inner = take_more row (i % 8) e

  -- where each list is the first n members of one of eight
  pub slots_taken :
      (n : A → ℕ) (g : A → List B) (l : List A) (d : A) (i : ℕ) (e : B) → i / 8 < length l → length (g (get_or l (i / 8) d)) ≡ 8 →
      slots (λ x. take (n x) (g x)) l d (i + 1)
      ≡ slots (λ x. take (n x) (g x)) l d i ++ one (ltb (i % 8) (n (get_or l (i / 8) d))) (get_or (g (get_or l (i / 8) d)) (i % 8) e)
  slots_taken n g l d i e h k =
      let t : A = get_or l (i / 8) d in
      slots_more (λ x. take (n x) (g x)) l d i e h (omega (arith, length-take (n t) (g t)))
      ∙ ap (λ (m : List B). slots (λ x. take (n x) (g x)) l d i ++ m) (take_slot (g t) (n t) (i % 8) e (omega arith))

  -- all slots of the first n members
  slots_all : (f : A → List B) (l : List A) (d : A) (n i : ℕ) → i ≡ n * 8 → slots f l d i ≡ gather f (take n l)
  slots_all f l d n i e =
      let q : i / 8 ≡ n = omega arith in
      let r : i % 8 ≡ 0 = omega arith in
      rw (q, r) (append-nil (gather f (take n l)))

  -- a loop over all slots of as many members as a count says, or of all where the count is past the end
  pub slots_done :
      (f : A → List B) (l : List A) (d : A) (k n e i : ℕ) → length l ≡ n → e ≡ min k n → i ≤ e * 8 → e * 8 ≤ i →
      slots f l d i ≡ gather f (take k l)
  slots_done f l d k n e i h g u v =
      slots_all f l d e i (omega arith) ∙ ap (gather f) (ap (λ (j : ℕ). take j l) g ∙ take_capped l k n (omega arith))

module _ {A B C : Type 0} where
  -- where each list is made of such members
  pub slots_mapped :
      (n : A → ℕ) (g : A → List B) (w : A → B → C) (l : List A) (d : A) (i : ℕ) (e : B) → i / 8 < length l → length (g (get_or l (i / 8) d)) ≡ 8 →
      slots (λ x. map (w x) (take (n x) (g x))) l d (i + 1)
      ≡ slots (λ x. map (w x) (take (n x) (g x))) l d i
      ++ one (ltb (i % 8) (n (get_or l (i / 8) d))) (w (get_or l (i / 8) d) (get_or (g (get_or l (i / 8) d)) (i % 8) e))
  slots_mapped n g w l d i e h k =
      let t : A = get_or l (i / 8) d in
      let row : List B = take (n t) (g t) in
      slots_more (λ x. map (w x) (take (n x) (g x))) l d i (w t e) h (omega (arith, length-map row (w t), length-take (n t) (g t)))
      ∙ ap (λ (m : List C). slots (λ x. map (w x) (take (n x) (g x))) l d i ++ m)
      (ap (λ (k : ℕ). one (ltb (i % 8) k) (get_or (map (w t) row) (i % 8) (w t e))) (length-map row (w t))
      ∙ ap (one (ltb (i % 8) (length row))) (get_or-map (w t) row (i % 8) e)
      ∙ sym (map_one (w t) (ltb (i % 8) (length row)) (get_or row (i % 8) e))
      ∙ ap (map (w t)) (take_slot (g t) (n t) (i % 8) e (omega arith))
      ∙ map_one (w t) (ltb (i % 8) (n t)) (get_or (g t) (i % 8) e))

  pub gather-map : (f : B → List C) (g : A → B) (l : List A) → gather f (map g l) ≡ gather (λ x. f (g x)) l
  gather-map f g [] = refl
  gather-map f g (x ∷ l) = ap (λ (r : List C). f (g x) ++ r) (gather-map f g l)

module _ {A : Type 0} where
  -- ── a loop that looks at one place after another and takes what stands there, or not

  -- what the first i places gave
  abbrev pub gained : (ℕ → Bool) → (ℕ → A) → ℕ → List A
  gained live at zero = []
  gained live at (suc i) = gained live at i ++ one (live i) (at i)

  -- Before a turn: the array a of n places holds what the first i of end places gave, k in number, and z behind.
  abbrev pub Gaining : ℕ → A → (ℕ → Bool) → (ℕ → A) → ℕ → List A → ℕ → ℕ → Type 0
  Gaining n z live at end a k i =
      (i ≤ end) × (end ≤ n) × (k ≤ i) × (k ≡ length (gained live at i)) × (a ≡ filled n z (gained live at i))

  pub gaining_start : (n : ℕ) (z : A) (live : ℕ → Bool) (at : ℕ → A) (end : ℕ) (a : List A) → end ≤ n → a ≡ replicate n z → Gaining n z live at end a 0 0
  gaining_start n z live at end a h e = (omega arith, h, omega arith, refl, e ∙ sym (filled_none n z))

  -- a turn keeps it
  pub gaining_turn :
      (n : ℕ) (z : A) (live : ℕ → Bool) (at : ℕ → A) (end : ℕ) (a : List A) (k i : ℕ) (flag : Bool) (v : A) → i < end →
      flag ≡ live i → v ≡ cond flag (at i) z → Gaining n z live at end a k i → Gaining n z live at end (set a k v) (k + bool_byte flag) (i + 1)
  gaining_turn n z live at end a k i flag v h f e g =
      let more : gained live at (i + 1) ≡ gained live at i ++ one flag (at i) = rw (add-one, f) refl in (
        omega (arith, h),
        g.1,
        flag_more k i flag g.2,
        turn_count (gained live at i) (gained live at (i + 1)) k flag (at i) g.3 more,
        turn_filled n z (gained live at i) (gained live at (i + 1)) a k flag (at i) v (omega (arith, h, g.1, g.2)) g.3 g.4 e more,
      )

module _ {A B : Type 0} where
  -- where the flags are a test of a list's members, what is gained is what the test keeps
  pub gained_kept :
      (live : ℕ → Bool) (f : A → B) (p : A → Bool) (l : List A) (d : A) (i : ℕ) → i ≤ length l →
      ((j : ℕ) → j < i → live j ≡ p (get_or l j d)) → gained live (λ j. f (get_or l j d)) i ≡ map f (keep p (take i l))
  gained_kept live f p l d zero h same = refl
  gained_kept live f p l d (suc i) h same =
      let so_far : gained live (λ j. f (get_or l j d)) i ≡ map f (keep p (take i l)) =
      gained_kept live f p l d i (omega arith) (λ j g. same j (omega arith))
      in
      let flag : live i ≡ p (get_or l i d) = same i (omega arith) in
      (λ t. so_far t ++ one (flag t) (f (get_or l i d)))
      ∙ sym (map-keep_more f p l i d h)
      ∙ ap (λ (k : ℕ). map f (keep p (take k l))) (add-one i)
