-- What a list in fixed memory holds after the loops that fill it, turn by turn.
use Rattle.std.specs.Prelude.{ℕ, ◌+◌, ◌*◌, ◌≡◌, ◌≤◌, ◌<◌, refl, Bool, true, false, List, [], ◌∷◌, ◌++◌, length, take, map, get_or}
use Rattle.std.proofs.Common.{ap, sym, ◌∙◌, arith, length-append, length-take, append-nil, append_assoc, take_all, mul-le-mul_left}
use Rattle.std.proofs.lemmas.List.{length-map, take_more}
use borrow.Author.Tests.{tests}
use Rattle.sets.specs.Sets.{keep, gather}
use Rattle.sets.specs.Laws.{keep-length, gather_append}
use Rattle.sets.specs.Fill.{filled_next, filled_first, one, map_more, keep_more, map-keep_more}
use Rattle.sets.specs.Placing.{keep-map_more}
use Rattle.fixed.specs.declared.Filled.{Filled}
use Rattle.fixed.specs.Filled.{filled_of, items_in, with_item, with_items}

module _ {T : Type 0} where
  push_room : (n : ℕ) (z : T) (l : List T) (x : T) → length l < n → with_item (filled_of n z l) x ≡ filled_of n z (l ++ x ∷ [])
  push_room n z l x h = grind (arith, tests, filled_next n z l (length l) x refl h, length-append l (x ∷ []))

  -- where there is room, an item more stands behind the others
  pub push_more :
      (n : ℕ) (z : T) (l m : List T) (x : T) (old new : Filled T n) →
      old ≡ filled_of n z l → length l < n → m ≡ l ++ x ∷ [] → new ≡ with_item old x → new ≡ filled_of n z m
  push_more n z l m x old new a h e w =
      w ∙ ap (λ (f : Filled T n). with_item f x) a ∙ push_room n z l x h ∙ ap (filled_of n z) (sym e)

  -- where there is room for all, more items stand behind the others
  pub extend_more :
      (n : ℕ) (z : T) (l m : List T) (old new : Filled T n) →
      old ≡ filled_of n z l → length l + length m ≤ n → new ≡ with_items old m → new ≡ filled_of n z (l ++ m)
  extend_more n z l [] old new a h w = w ∙ a ∙ ap (filled_of n z) (sym (append-nil l))
  extend_more n z l (x ∷ m) old new a h w =
      extend_more n z (l ++ x ∷ []) m (with_item old x) new (push_more n z l (l ++ x ∷ []) x old _ a (omega arith) refl refl)
      (omega (arith, length-append l (x ∷ []))) w
      ∙ ap (filled_of n z) (append_assoc l (x ∷ []) m)

  -- a list is what stands in its places
  pub items-filled : (n : ℕ) (z : T) (l : List T) → items_in (filled_of n z l) ≡ l
  items-filled n z l = filled_first n z l

  -- a turn that pushes nothing
  pub pass_more :
      (n : ℕ) (z : T) (l m : List T) (old : Filled T n) → old ≡ filled_of n z l → m ≡ l ++ [] → old ≡ filled_of n z m
  pass_more n z l m old a e = a ∙ ap (filled_of n z) (sym (e ∙ append-nil l))

  -- a turn of a loop that pushes the members of which a test holds, at such a member and at another
  pub kept_pushed :
      (n : ℕ) (z : T) (p : T → Bool) (l : List T) (i : ℕ) (d : T) (old new : Filled T n) →
      old ≡ filled_of n z (keep p (take i l)) → i < length l → length l ≤ n → p (get_or l i d) ≡ true →
      new ≡ with_item old (get_or l i d) → new ≡ filled_of n z (keep p (take (i + 1) l))
  kept_pushed n z p l i d old new a h room holds w =
      push_more n z (keep p (take i l)) _ _ old new a
      (omega (arith, keep-length p (take i l), length-take i l))
      (keep_more p l i d h ∙ ap (λ (b : Bool). keep p (take i l) ++ one b (get_or l i d)) holds) w

  pub kept_passed :
      (n : ℕ) (z : T) (p : T → Bool) (l : List T) (i : ℕ) (d : T) (old : Filled T n) →
      old ≡ filled_of n z (keep p (take i l)) → i < length l → p (get_or l i d) ≡ false →
      old ≡ filled_of n z (keep p (take (i + 1) l))
  kept_passed n z p l i d old a h fails =
      pass_more n z (keep p (take i l)) _ old a
      (keep_more p l i d h ∙ ap (λ (b : Bool). keep p (take i l) ++ one b (get_or l i d)) fails)

module _ {A B : Type 0} where
  -- a turn of a loop that pushes what each member gives
  pub map_pushed :
      (n : ℕ) (z : B) (f : A → B) (l : List A) (i : ℕ) (d : A) (old new : Filled B n) →
      old ≡ filled_of n z (map f (take i l)) → i < length l → length l ≤ n → new ≡ with_item old (f (get_or l i d)) →
      new ≡ filled_of n z (map f (take (i + 1) l))
  map_pushed n z f l i d old new a h room w =
      push_more n z (map f (take i l)) _ _ old new a
      (omega (arith, length-map (take i l) f, length-take i l)) (map_more f l i d h) w

  -- a turn of a loop that pushes what each member gives of which a test holds
  pub map-keep_pushed :
      (n : ℕ) (z : B) (f : A → B) (p : A → Bool) (l : List A) (i : ℕ) (d : A) (old new : Filled B n) →
      old ≡ filled_of n z (map f (keep p (take i l))) → i < length l → length l ≤ n → p (get_or l i d) ≡ true →
      new ≡ with_item old (f (get_or l i d)) → new ≡ filled_of n z (map f (keep p (take (i + 1) l)))
  map-keep_pushed n z f p l i d old new a h room holds w =
      push_more n z (map f (keep p (take i l))) _ _ old new a
      (omega (arith, length-map (keep p (take i l)) f, keep-length p (take i l), length-take i l))
      (map-keep_more f p l i d h ∙ ap (λ (b : Bool). map f (keep p (take i l)) ++ one b (f (get_or l i d))) holds) w

  pub map-keep_passed :
      (n : ℕ) (z : B) (f : A → B) (p : A → Bool) (l : List A) (i : ℕ) (d : A) (old : Filled B n) →
      old ≡ filled_of n z (map f (keep p (take i l))) → i < length l → p (get_or l i d) ≡ false →
      old ≡ filled_of n z (map f (keep p (take (i + 1) l)))
  map-keep_passed n z f p l i d old a h fails =
      pass_more n z (map f (keep p (take i l))) _ old a
      (map-keep_more f p l i d h ∙ ap (λ (b : Bool). map f (keep p (take i l)) ++ one b (f (get_or l i d))) fails)

  -- a turn of a loop that works out what each member gives, and pushes it where a test holds of that
  pub keep-map_pushed :
      (n : ℕ) (z : B) (p : B → Bool) (f : A → B) (l : List A) (i : ℕ) (d : A) (old new : Filled B n) →
      old ≡ filled_of n z (keep p (map f (take i l))) → i < length l → length l ≤ n → p (f (get_or l i d)) ≡ true →
      new ≡ with_item old (f (get_or l i d)) → new ≡ filled_of n z (keep p (map f (take (i + 1) l)))
  keep-map_pushed n z p f l i d old new a h room holds w =
      push_more n z (keep p (map f (take i l))) _ _ old new a
      (omega (arith, keep-length p (map f (take i l)), length-map (take i l) f, length-take i l))
      (keep-map_more p f l i d h ∙ ap (λ (b : Bool). keep p (map f (take i l)) ++ one b (f (get_or l i d))) holds) w

  pub keep-map_passed :
      (n : ℕ) (z : B) (p : B → Bool) (f : A → B) (l : List A) (i : ℕ) (d : A) (old : Filled B n) →
      old ≡ filled_of n z (keep p (map f (take i l))) → i < length l → p (f (get_or l i d)) ≡ false →
      old ≡ filled_of n z (keep p (map f (take (i + 1) l)))
  keep-map_passed n z p f l i d old a h fails =
      pass_more n z (keep p (map f (take i l))) _ old a
      (keep-map_more p f l i d h ∙ ap (λ (b : Bool). keep p (map f (take i l)) ++ one b (f (get_or l i d))) fails)

module _ {A B : Type 0} where
  -- at a loop's end all members were taken
  pub all_taken : (n : ℕ) (z : B) (f : List A → List B) (l m : List A) (i : ℕ) (old : Filled B n) → old ≡ filled_of n z (f (take i l)) → length l ≤ i → l ≡ m → old ≡ filled_of n z (f m)
  all_taken n z f l m i old a h e = a ∙ ap (λ (k : List A). filled_of n z (f k)) (take_all i l h ∙ e)

module _ {A B : Type 0} where
  -- a loop that gathers lists of at most k members each, one behind the other
  pub record Gathered (n : ℕ) (z : B) (k : ℕ) (f : A → List B) (l : List A) (i : ℕ) (so_far : Filled B n) : Type 0 where
    pub value : so_far ≡ filled_of n z (gather f (take i l))
    pub few : length (gather f (take i l)) ≤ i * k

  pub gather_none : (n : ℕ) (z : B) (k : ℕ) (f : A → List B) (l : List A) (old : Filled B n) → old ≡ filled_of n z [] → Gathered n z k f l 0 old
  gather_none n z k f l old a = record { value = a; few = omega arith }

  pub gather_extended :
      (n : ℕ) (z : B) (k : ℕ) (f : A → List B) (l : List A) (i : ℕ) (d : A) (m : List B) (old new : Filled B n) →
      Gathered n z k f l i old → i < length l → length l * k ≤ n → m ≡ f (get_or l i d) → length m ≤ k →
      new ≡ with_items old m → Gathered n z k f l (i + 1) new
  gather_extended n z k f l i d m old new g h room e few w =
      record {
        value = extend_more n z (gather f (take i l)) m old new g.value fits w ∙ ap (filled_of n z) (sym more);
        few = omega (arith, ap length more, length-append (gather f (take i l)) m, g.few);
      }
    where
      more : gather f (take (i + 1) l) ≡ gather f (take i l) ++ m
      more =
          ap (gather f) (take_more l i d h)
          ∙ gather_append f (take i l) (get_or l i d ∷ [])
          ∙ ap (λ (r : List B). gather f (take i l) ++ r) (append-nil (f (get_or l i d)) ∙ sym e)

      fits : length (gather f (take i l)) + length m ≤ n
      fits = omega (arith, g.few, mul-le-mul_left {m = i + 1} {n = length l} k (omega arith))

  pub all_gathered : (n : ℕ) (z : B) (k : ℕ) (f : A → List B) (l m : List A) (i : ℕ) (old : Filled B n) → Gathered n z k f l i old → length l ≤ i → l ≡ m → old ≡ filled_of n z (gather f m)
  all_gathered n z k f l m i old g h e = all_taken n z (gather f) l m i old g.value h e
