-- Lists laid flat are read back as they were, and what a search of the references of one list in another tells of each:
-- whether it is there.
use Rattle.std.specs.Prelude.{ℕ, ◌<◌, min, ◌≡◌, Bool, List, map, ltb, length, get_or, take}
use Rattle.std.proofs.Common.{ap, ◌∙◌, sym, arith, length-take, get_or-take}
use Rattle.std.proofs.lemmas.List.{length-map}
use Rattle.std.proofs.Math.ListN.{get_or-map}
use Rattle.sets.specs.Sets.{has}
use Rattle.sets.specs.Fill.{filled, filled_first, filled_at}
use Rattle.sets.specs.Maps.{any-map}
use Rattle.rules.specs.declared.Reference.{Reference}
use Rattle.rules.specs.declared.Entry.{Entry}
use Rattle.rules.specs.Sizes.{most_references, most_transactions}
use Rattle.rules.specs.Chain.{same_reference, same_entry}
use Rattle.chain.specs.View.{zero_reference, zero_transaction, view_transaction, view_block}
use Rattle.chain.specs.declared.Transaction.{Transaction}
use Rattle.pool.specs.declared.Held.{Held}
use Rattle.flat.specs.Flat.{Refs, Places, zero_entry, refs_of, made_of, places_of, block_of, refs_in, made_in, seek}
use Rattle.flat.specs.SeekLaws.{seek_found}

-- ── laid flat and read back

pub refs_back : (l : List Reference) → refs_in (refs_of l) ≡ l
refs_back l = filled_first most_references zero_reference l

pub made_back : (l : List Entry) → made_in (made_of l) ≡ l
made_back l = filled_first most_references zero_entry l

pub block_back : (l : List Transaction) → view_block (block_of l) ≡ map view_transaction l
block_back l = ap (map view_transaction) (filled_first most_transactions zero_transaction l)

-- the count of a list that is held: no more than the array has places
pub refs_count : (r : Refs) (n : ℕ) → length r.items ≡ most_references → n ≡ min r.count most_references → n ≡ length (refs_in r)
refs_count r n h e = omega (arith, length-take r.count r.items)

-- ── found

-- an entry is in a list exactly where its reference is among the list's
pub has_entry : (e : Entry) (l : List Entry) → has same_entry e l ≡ has same_reference e.reference (map (λ x. x.reference) l)
has_entry e l = sym (any-map (same_reference e.reference) (λ x. x.reference) l)

-- and so of a list of entries with their marks
pub has_held : (e : Entry) (l : List Held) → has same_entry e (map (λ h. h.entry) l) ≡ has same_reference e.reference (map (λ h. h.entry.reference) l)
has_held e l = any-map (same_entry e) (λ h. h.entry) l ∙ sym (any-map (same_reference e.reference) (λ h. h.entry.reference) l)

-- for each of the first places of an array, a flag tells a test of what stands there
abbrev pub Tells : {A : Type 0} → (A → Bool) → List A → A → List ℕ → ℕ → ℕ → Type 0
Tells p l d at stop end = (i : ℕ) → i < end → ltb (get_or at i 0) stop ≡ p (get_or l i d)

module _ {A : Type 0} (f : A → Reference) (l : List A) (n : ℕ) (a : Refs) (e : a ≡ refs_of (map f (take n l))) where
  -- the references of the used places are as many as those
  pub count_of : a.count ≡ min n (length l)
  count_of = ap (λ (r : Refs). r.count) e ∙ length-map (take n l) f ∙ length-take n l

  -- each was found at its place in the other list
  pub place_of :
      (d : A) (b : Refs) (p : Places) (those : List Reference) → refs_in b ≡ those → p ≡ places_of (map (λ x. seek x (refs_in b)) (refs_in a)) →
      (i : ℕ) → i < a.count → get_or p.items i 0 ≡ seek (f (get_or l i d)) those
  place_of d b p those g h i t =
      let from : refs_in a ≡ map f (take n l) = ap refs_in e ∙ refs_back (map f (take n l)) in
      let few : i < n = omega (arith, count_of) in
      let long : i < length (map f (take n l)) = omega (arith, length-map (take n l) f, length-take n l, count_of) in
      ap (λ (q : Places). get_or q.items i 0) h
      ∙ (λ k. get_or (filled most_references 0 (map (λ x. seek x (g k)) (from k))) i 0)
      ∙ filled_at most_references 0 0 (λ x. seek x those) (map f (take n l)) i (f d) long
      ∙ ap (λ (r : Reference). seek r those) (get_or-map f (take n l) i d ∙ ap f (get_or-take n l i d few))

  -- so the places tell which are in the other list
  pub tells :
      (d : A) (b : Refs) (p : Places) (those : List Reference) (stop : ℕ) → refs_in b ≡ those →
      p ≡ places_of (map (λ x. seek x (refs_in b)) (refs_in a)) → stop ≡ length those →
      Tells (λ x. has same_reference (f x) those) l d p.items stop a.count
  tells d b p those stop g h k i t = (λ j. ltb (place_of d b p those g h i t j) (k j)) ∙ seek_found (f (get_or l i d)) those

-- two tests that agree are told by the same flags
pub tells_same :
    {A : Type 0} (p q : A → Bool) → ((x : A) → p x ≡ q x) → (l : List A) (d : A) (at : List ℕ) (stop end : ℕ) →
    Tells p l d at stop end → Tells q l d at stop end
tells_same p q h l d at stop end t i k = t i k ∙ h (get_or l i d)
