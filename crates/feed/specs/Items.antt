-- Items as the code reads them, one by one into an array: what has been read so far, and what is still to be read.
use Rattle.std.specs.Prelude.{◌≡◌, refl, List, [], ◌∷◌, ◌++◌, ℕ, zero, suc, ◌+◌, ◌-◌, ◌≤◌, ◌<◌, length, set, replicate, Ok, Err}
use Rattle.std.proofs.Common.{sym, ap, ◌∙◌, arith, length-append}
use Rattle.std.proofs.Math.Option.{Option, none, some}
use Rattle.sets.specs.Fill.{filled, filled_none, filled_next}
use Rattle.format.specs.Fields.{Reading, got, fault, Reader, onward, items}
use Rattle.format.specs.Loops.{onto, onto_none, items_end, items_more, items_fault}
use Rattle.feed.specs.Structs.{items_read}

module _ {A : Type 0} (item : Option A → Reader A) (bytes : List ℕ) where
  -- as many items are read as were asked for
  pub items_length : (count : ℕ) (last : Option A) (place : ℕ) (l : List A) (next : ℕ) → items item count last bytes place ≡ got l next → length l ≡ count
  items_length zero last place l next e =
      let none-there : [] ≡ l = cc in
      ap (λ (m : List A). length m) (sym none-there)
  items_length (suc count) last place l next e =
      here (λ (x : A) (at : ℕ) (m : List A) (k : ℕ). items_length count (some x) at m k) (item last bytes place) e
    where
      rest : (x : A) (at : ℕ) → ((m : List A) (k : ℕ) → items item count (some x) bytes at ≡ got m k → length m ≡ count) →
          (r : Reading (List A)) → items item count (some x) bytes at ≡ r → onward r (λ m k. got (x ∷ m) k) ≡ got l next → length l ≡ suc count
      rest x at ih (got m k) f g =
          let same : x ∷ m ≡ l = cc in
          ap (λ (v : List A). length v) (sym same) ∙ ap suc (ih m k f)
      rest x at ih (fault p) f g =
          let z : ◌≡◌ {A = ℕ} 0 1 = cc in
          let never : ⊥ = omega arith in
          absurd never

      here : ((x : A) (at : ℕ) (m : List A) (k : ℕ) → items item count (some x) bytes at ≡ got m k → length m ≡ count) →
          (r : Reading A) → onward r (λ x at. onward (items item count (some x) bytes at) (λ m k. got (x ∷ m) k)) ≡ got l next → length l ≡ suc count
      here ih (got x at) g = rest x at (ih x at) (items item count (some x) bytes at) refl g
      here ih (fault p) g =
          let z : ◌≡◌ {A = ℕ} 0 1 = cc in
          let never : ⊥ = omega arith in
          absurd never

module _ {A : Type 0} (item : Option A → Reader A) (z : A) (n : ℕ) (bytes : List ℕ) (start count : ℕ) where
  -- Of so many items from a start the first i have been read, up to a place; the array holds them, and z elsewhere.
  pub record Progress (held : List A) (i : ℕ) (last : Option A) (place : ℕ) : Type 0 where
    pub so_far : List A
    pub many : length so_far ≡ i
    pub holds : held ≡ filled n z so_far
    pub reading : onto so_far (items item (count - i) last bytes place) ≡ items item count none bytes start

  -- at first none
  pub progress_start : Progress (replicate n z) 0 none start
  progress_start =
      let e : count - 0 ≡ count = omega arith in
      record {
        so_far = [];
        many = refl;
        holds = sym (filled_none n z);
        reading = onto_none (items item (count - 0) none bytes start) ∙ ap (λ (k : ℕ). items item k none bytes start) e;
      }

  -- one item more, which the next is held against
  pub progress_step :
      (held : List A) (i : ℕ) (last : Option A) (place : ℕ) (x : A) (next : ℕ) →
      Progress held i last place → i < count → count ≤ n → got x next ≡ item last bytes place →
      Progress (set held i x) (i + 1) (some x) next
  progress_step held i last place x next p h fit e =
      let l = p.so_far in
      let m = p.many in
      let left : count - i ≡ suc (count - (i + 1)) = omega arith in
      record {
        so_far = l ++ (x ∷ []);
        many = omega (arith, length-append l (x ∷ []));
        holds = ap (λ (a : List A). set a i x) p.holds ∙ filled_next n z l i x m (omega arith);
        reading =
            sym (items_more item bytes l (count - (i + 1)) last place x next (sym e))
            ∙ ap (λ (k : ℕ). onto l (items item k last bytes place)) (sym left)
            ∙ p.reading;
      }

  -- the item that is to be read next faults, and with it the list
  pub progress_fault :
      (held : List A) (i : ℕ) (last : Option A) (place p : ℕ) →
      Progress held i last place → i < count → fault p ≡ item last bytes place →
      record { answer = Err (record { place = p }); value = replicate n z } ≡ items_read n z (items item count none bytes start)
  progress_fault held i last place p g h e =
      let left : count - i ≡ suc (count - (i + 1)) = omega arith in
      ap (items_read n z)
      (sym (items_fault item bytes g.so_far (count - (i + 1)) last place p (sym e))
      ∙ ap (λ (k : ℕ). onto g.so_far (items item k last bytes place)) (sym left)
      ∙ g.reading)

  -- all items have been read
  pub progress_end :
      (held : List A) (i : ℕ) (last : Option A) (place : ℕ) → Progress held i last place → i ≤ count → count ≤ i →
      record { answer = Ok place; value = held } ≡ items_read n z (items item count none bytes start)
  progress_end held i last place p g h =
      let none_left : count - i ≡ 0 = omega arith in
      (λ j. record { answer = Ok place; value = p.holds j })
      ∙ ap (items_read n z)
      (sym (items_end item bytes p.so_far last place)
      ∙ ap (λ (k : ℕ). onto p.so_far (items item k last bytes place)) (sym none_left)
      ∙ p.reading)
