-- How a reading of the format is written down: a body or a feed in bytes, and what is told of it.
use Rattle.std.specs.Prelude.{ℕ, ◌≡◌, true, false, List, ◌∷◌}
use Rattle.format.specs.Bodies.{Body, read_body}
use Rattle.format.specs.Writing.{write_body}
use Rattle.format.specs.Feed.{well_formed, found, row_kind, row_body, Event, events, own_of}

-- a field that holds a small number, and what follows it
abbrev pub u8 : ℕ → List ℕ → List ℕ
u8 n l = n ∷ l

abbrev pub u16 : ℕ → List ℕ → List ℕ
u16 n l = n ∷ 0 ∷ l

abbrev pub u32 : ℕ → List ℕ → List ℕ
u32 n l = n ∷ 0 ∷ 0 ∷ 0 ∷ l

abbrev pub u64 : ℕ → List ℕ → List ℕ
u64 n l = n ∷ 0 ∷ 0 ∷ 0 ∷ 0 ∷ 0 ∷ 0 ∷ 0 ∷ l

-- a row of the table: kind, zero, body length, body offset
abbrev pub row : ℕ → ℕ → ℕ → List ℕ → List ℕ
row kind length offset l = u8 kind (u8 0 (u16 length (u32 offset l)))

abbrev pub input : ℕ → ℕ → List ℕ → List ℕ
input n i l = u64 n (u16 i l)

abbrev pub output : ℕ → ℕ → ℕ → List ℕ → List ℕ
output i a v l = u16 i (u32 a (u64 v l))

-- a transaction's head: number, input count, output count
abbrev pub head : ℕ → ℕ → ℕ → List ℕ → List ℕ
head n is os l = u64 n (u8 is (u8 os l))

abbrev pub event : ℕ → Body → Event
event kind body = record { kind = kind; body = body }

pub data Sample : Type 0 where
  -- a body of some kind reads so
  body : ℕ → List ℕ → Body → Sample
  -- a body is written so
  written : Body → List ℕ → Sample
  -- a well formed feed has this own list and these events
  feed : List ℕ → List ℕ → List Event → Sample
  -- a feed is well formed, or refused
  accepted : List ℕ → Sample
  refused : List ℕ → Sample
  -- a feed's row: found, kind and part
  row_of : List ℕ → ℕ → ℕ → ℕ → List ℕ → Sample

-- the sample comes out as told
abbrev pub ComesOut : Sample → Type 0
ComesOut (body kind bytes told) = read_body kind bytes ≡ told
ComesOut (written b bytes) = write_body b ≡ bytes
ComesOut (feed bytes own told) = (well_formed bytes ≡ true) × (own_of bytes ≡ own) × (events bytes ≡ told)
ComesOut (accepted bytes) = well_formed bytes ≡ true
ComesOut (refused bytes) = well_formed bytes ≡ false
ComesOut (row_of bytes n there kind part) = (found bytes n ≡ there) × (row_kind bytes n ≡ kind) × (row_body bytes n ≡ part)
