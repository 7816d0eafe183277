-- How fields are read: numbers of some bytes, little endian, one after another. A reading gives what was read with the
-- next place, or the place of the first fault: the start of the field that is cut short or breaks its rule.
use Rattle.std.specs.Prelude.{ℕ, zero, suc, ◌+◌, ◌*◌, Bool, true, cond, ◌&&◌, List, [], ◌∷◌, leb, length, take, drop}
use Rattle.std.proofs.Math.Option.{Option, none, some}

-- A reading's answer: what was read and the next place, or a fault's place.
pub data Reading (A : Type 0) : Type 0 where
  got : A → ℕ → Reading A
  fault : ℕ → Reading A

-- A field's reading: a number and the next place, or a fault's place.
abbrev pub Field : Type 0
Field = Reading ℕ

-- A reader reads some bytes from a place on.
abbrev pub Reader : Type 0 → Type 0
Reader A = List ℕ → ℕ → Reading A

-- the number that some bytes make, little endian
abbrev pub little : List ℕ → ℕ
little [] = 0
little (b ∷ l) = b + 256 * little l

-- the number of some width at a place
abbrev pub number_at : ℕ → List ℕ → ℕ → ℕ
number_at width bytes place = little (take width (drop place bytes))

-- A field of some width that has to keep a rule. Cut short or against the rule, it faults at its start.
unfoldable pub field : ℕ → (ℕ → Bool) → Reader ℕ
field width rule bytes place =
    let value = number_at width bytes place in
    cond (leb (place + width) (length bytes) && rule value) (got value (place + width)) (fault place)

-- the rule of a field that may be any number
abbrev pub any_number : ℕ → Bool
any_number n = true

module _ {A : Type 0} where
  -- nothing to read
  abbrev pub done : A → Reader A
  done x bytes place = got x place

module _ {A B : Type 0} where
  -- a rule between an item and the one before it; the first item has none before it
  abbrev pub follows : (A → B → Bool) → Option A → B → Bool
  follows rule none x = true
  follows rule (some last) x = rule last x

  -- the first fault stays; else reading goes on at the next place
  abbrev pub onward : Reading A → (A → ℕ → Reading B) → Reading B
  onward (got x next) rest = rest x next
  onward (fault place) rest = fault place

  infixl 20 ◌>>=◌
  -- one reader after another
  abbrev pub ◌>>=◌ : Reader A → (A → Reader B) → Reader B
  ◌>>=◌ first rest bytes place = onward (first bytes place) (λ x next. rest x bytes next)

module _ {A : Type 0} where
  -- So many items, each read in view of the one before it.
  abbrev pub items : (Option A → Reader A) → ℕ → Option A → Reader (List A)
  items item zero last = done []
  items item (suc count) last = do
    x ← item last
    rest ← items item count (some x)
    done (x ∷ rest)
