-- Laws for loops that read items one by one, what was read so far beside what is still to be read; and a number as it
-- is put together byte by byte.
use Rattle.std.specs.Prelude.{◌≡◌, refl, List, [], ◌∷◌, ◌++◌, ℕ, zero, suc, ◌+◌, ◌*◌, ◌<◌, length, get_or, take}
use Rattle.std.proofs.Common.{sym, ap, ◌∙◌, append-nil, append_assoc, add-one, drop-cons}
use Rattle.std.proofs.Math.Option.{Option, some}
use Rattle.format.specs.Fields.{Reading, got, fault, Reader, little, number_at, onward, items}

-- a number's first byte, and the others at the next place
pub number_more : (width : ℕ) (bytes : List ℕ) (place : ℕ) → place < length bytes →
    number_at (suc width) bytes place ≡ get_or bytes place 0 + 256 * number_at width bytes (place + 1)
number_more width bytes place h =
    ap (λ (l : List ℕ). little (take (suc width) l)) (drop-cons bytes place 0 h)
    ∙ ap (λ (p : ℕ). get_or bytes place 0 + 256 * number_at width bytes p) (sym (add-one place))

module _ {A : Type 0} where
  -- a reading of further items, behind those read so far
  abbrev pub onto : List A → Reading (List A) → Reading (List A)
  onto l (got m next) = got (l ++ m) next
  onto l (fault place) = fault place

  pub onto_none : (m : Reading (List A)) → onto [] m ≡ m
  onto_none (got m next) = refl
  onto_none (fault place) = refl

  module _ (item : Option A → Reader A) (bytes : List ℕ) where
    -- all items read
    pub items_end : (l : List A) (last : Option A) (place : ℕ) → onto l (items item zero last bytes place) ≡ got l place
    items_end l last place = ap (λ (m : List A). got m place) (append-nil l)

    -- one item more
    pub items_more : (l : List A) (count : ℕ) (last : Option A) (place : ℕ) (x : A) (next : ℕ) → item last bytes place ≡ got x next →
        onto l (items item (suc count) last bytes place) ≡ onto (l ++ (x ∷ [])) (items item count (some x) bytes next)
    items_more l count last place x next e =
        ap (λ (m : Reading A). onto l (onward m (λ y n. onward (items item count (some y) bytes n) (λ rest k. got (y ∷ rest) k)))) e
        ∙ behind (items item count (some x) bytes next)
      where
        behind : (m : Reading (List A)) → onto l (onward m (λ rest k. got (x ∷ rest) k)) ≡ onto (l ++ (x ∷ [])) m
        behind (got m k) = ap (λ (r : List A). got r k) (sym (append_assoc l (x ∷ []) m))
        behind (fault p) = refl

    -- an item that faults
    pub items_fault : (l : List A) (count : ℕ) (last : Option A) (place p : ℕ) → item last bytes place ≡ fault p →
        onto l (items item (suc count) last bytes place) ≡ fault p
    items_fault l count last place p e =
        ap (λ (m : Reading A). onto l (onward m (λ y n. onward (items item count (some y) bytes n) (λ rest k. got (y ∷ rest) k)))) e
