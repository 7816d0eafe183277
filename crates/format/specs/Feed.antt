-- The feed: head, table of rows, bodies. It is well formed or refused with 1 as a whole. Rows count from 1.
use Rattle.std.specs.Prelude.{ℕ, zero, suc, ◌+◌, ◌-◌, ◌*◌, Bool, cond, ◌&&◌, List, [], ◌∷◌, map, eqb, leb, length, take, drop}
use Rattle.sets.specs.Sets.{every}
use Rattle.format.specs.Fields.{number_at}
use Rattle.format.specs.Bodies.{Body, own_body, block_body, pay_body, back_body, fault_at, own_kind, block_kind, back_kind, read_body, body_answer}

-- ── sizes

abbrev pub most_bytes : ℕ
most_bytes = 65_536

abbrev pub feed_version : ℕ
feed_version = 1

abbrev pub fewest_rows : ℕ
fewest_rows = 1

abbrev pub most_rows : ℕ
most_rows = 256

abbrev pub head_bytes : ℕ
head_bytes = 4

abbrev pub row_bytes : ℕ
row_bytes = 8

-- ── what stands in the head and in the table, right or wrong

-- Head: version u16, row count u16.
abbrev pub version_in : List ℕ → ℕ
version_in feed = number_at 2 feed 0

abbrev pub count_in : List ℕ → ℕ
count_in feed = number_at 2 feed 2

-- where a row starts, and where the table ends
abbrev pub row_place : ℕ → ℕ
row_place n = head_bytes + row_bytes * (n - 1)

abbrev pub table_end : List ℕ → ℕ
table_end feed = head_bytes + row_bytes * count_in feed

-- Row: kind u8, zero u8, body length u16, body offset u32 from the feed's start.
abbrev pub kind_in : List ℕ → ℕ → ℕ
kind_in feed n = number_at 1 feed (row_place n)

abbrev pub zero_in : List ℕ → ℕ → ℕ
zero_in feed n = number_at 1 feed (row_place n + 1)

abbrev pub length_in : List ℕ → ℕ → ℕ
length_in feed n = number_at 2 feed (row_place n + 2)

abbrev pub offset_in : List ℕ → ℕ → ℕ
offset_in feed n = number_at 4 feed (row_place n + 4)

abbrev pub body_in : List ℕ → ℕ → List ℕ
body_in feed n = take (length_in feed n) (drop (offset_in feed n) feed)

-- ── well formed

-- Kinds 1 to 4 only; the first row is kind 1 and no other row is.
abbrev pub kind_fits : ℕ → ℕ → Bool
kind_fits n kind = cond (eqb n 1) (eqb kind own_kind) (leb block_kind kind && leb kind back_kind)

-- A row is right when its body starts at a place: where the body before it ended.
unfoldable pub row_right : List ℕ → ℕ → ℕ → Bool
row_right feed n place =
    every
    (kind_fits n (kind_in feed n)
    ∷ eqb (zero_in feed n) 0
    ∷ eqb (offset_in feed n) place
    ∷ [])

-- So many rows from row n on, the bodies in row order without gaps from a place on, the last ending with the feed.
abbrev pub rows_right : List ℕ → ℕ → ℕ → ℕ → Bool
rows_right feed zero n place = eqb place (length feed)
rows_right feed (suc count) n place = row_right feed n place && rows_right feed count (suc n) (place + length_in feed n)

unfoldable pub well_formed : List ℕ → Bool
well_formed feed =
    every
    (leb (length feed) most_bytes
    ∷ leb head_bytes (length feed)
    ∷ eqb (version_in feed) feed_version
    ∷ leb fewest_rows (count_in feed)
    ∷ leb (count_in feed) most_rows
    ∷ leb (table_end feed) (length feed)
    -- the first body straight after the table
    ∷ rows_right feed (count_in feed) 1 (table_end feed)
    -- a fault in the own list refuses the whole feed
    ∷ eqb (body_answer (read_body own_kind (body_in feed 1))) 0
    ∷ [])

-- ── what a caller gets: of a refused feed nothing

unfoldable pub row_count : List ℕ → ℕ
row_count feed = cond (well_formed feed) (count_in feed) 0

-- whether a row is there, and the same as 0 or 1
abbrev pub is_row : List ℕ → ℕ → Bool
is_row feed n = leb 1 n && leb n (row_count feed)

unfoldable pub found : List ℕ → ℕ → ℕ
found feed n = cond (is_row feed n) 1 0

-- A row's kind (0 for a row that is not there) and its body, a part of the feed (else the empty part).
unfoldable pub row_kind : List ℕ → ℕ → ℕ
row_kind feed n = cond (is_row feed n) (kind_in feed n) 0

unfoldable pub row_body : List ℕ → ℕ → List ℕ
row_body feed n = cond (is_row feed n) (body_in feed n) []

-- so many numbers from n on
abbrev pub numbers_from : ℕ → ℕ → List ℕ
numbers_from n zero = []
numbers_from n (suc count) = n ∷ numbers_from (suc n) count

-- An event: a row's kind and its body's reading.
pub record Event : Type 0 where
  pub kind : ℕ
  pub body : Body

abbrev pub event_at : List ℕ → ℕ → Event
event_at feed n = record { kind = row_kind feed n; body = read_body (row_kind feed n) (row_body feed n) }

-- The events in row order; none of a refused feed.
unfoldable pub events : List ℕ → List Event
events feed = map (event_at feed) (numbers_from 1 (row_count feed))

-- the own addresses that a body brings
abbrev pub own_in : Body → List ℕ
own_in (own_body own) = own
own_in (block_body b) = []
own_in (pay_body t) = []
own_in back_body = []
own_in (fault_at place) = []

-- The own list of a feed: that of its first row; empty for a refused feed.
unfoldable pub own_of : List ℕ → List ℕ
own_of feed = own_in (read_body own_kind (row_body feed 1))
