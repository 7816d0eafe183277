-- Rows of a feed: in a well formed feed each row's body lies inside it, the bodies follow the table without gaps up to
-- the end, and the own list is read; of a refused feed a caller gets nothing.
use Rattle.std.specs.Prelude.{◌≡◌, refl, Bool, true, false, not, cond, List, [], ◌∷◌, ◌++◌, map, ℕ, zero, suc, ◌+◌, ◌-◌, ◌≤◌, ◌<◌, T, eqb, leb, length, get_or, take, drop}
use Rattle.std.proofs.Common.{sym, ap, subst, ◌∙◌, arith, eqb→eq, leb→le, le→leb, take-append-drop, drop_of_length-le, drop-drop}
use Rattle.std.proofs.Math.Dec.{not_T}
use Rattle.sets.specs.Sets.{gather}
use Rattle.sets.specs.Tests.{and_left, and_right, and_both, every_at, cond_true, cond_false}
use Rattle.rules.specs.Chain.{shaped_own}
use Rattle.format.specs.Fields.{Reading, got, fault}
use Rattle.format.specs.Bodies.{read_own, own_body, fault_at, own_kind, used_up, read_body, body_answer}
use Rattle.format.specs.Feed.{most_bytes, head_bytes, feed_version, fewest_rows, most_rows, version_in, count_in, table_end, kind_in, zero_in, length_in, offset_in, body_in, kind_fits, row_right, rows_right, well_formed, row_count, is_row, found, row_kind, row_body, numbers_from, event_at, events, own_in, own_of}
use Rattle.format.proofs.WrittenRead.{own_shaped}

-- ── what a right row says

pub row_offset : (feed : List ℕ) (n place : ℕ) → T (row_right feed n place) → offset_in feed n ≡ place
unfolding row_right
row_offset feed n place t =
    eqb→eq (offset_in feed n) place
    (every_at (kind_fits n (kind_in feed n) ∷ eqb (zero_in feed n) 0 ∷ eqb (offset_in feed n) place ∷ []) 2 t)

pub row_kind_lem : (feed : List ℕ) (n place : ℕ) → T (row_right feed n place) → T (kind_fits n (kind_in feed n))
unfolding row_right
row_kind_lem feed n place t =
    every_at (kind_fits n (kind_in feed n) ∷ eqb (zero_in feed n) 0 ∷ eqb (offset_in feed n) place ∷ []) 0 t

-- ── rows from one on

rows_end : (feed : List ℕ) (count n place : ℕ) → T (rows_right feed count n place) → place ≤ length feed
rows_end feed zero n place t = omega (arith, eqb→eq place (length feed) t)
rows_end feed (suc count) n place t =
    omega (arith, rows_end feed count (suc n) (place + length_in feed n) (and_right (row_right feed n place) (rows_right feed count (suc n) (place + length_in feed n)) t))

-- each of them is right at some place, and its body ends inside the feed
rows_row : (feed : List ℕ) (count n place i : ℕ) → T (rows_right feed count n place) → i < count →
    (at : ℕ) × T (row_right feed (n + i) at) × (at + length_in feed (n + i) ≤ length feed)
rows_row feed zero n place i t h = let never : ⊥ = omega arith in absurd never
rows_row feed (suc count) n place zero t h =
    let here = and_left (row_right feed n place) (rows_right feed count (suc n) (place + length_in feed n)) t in
    let rest = and_right (row_right feed n place) (rows_right feed count (suc n) (place + length_in feed n)) t in
    let e : n ≡ n + 0 = omega arith in
    subst (λ (k : ℕ). (at : ℕ) × T (row_right feed k at) × (at + length_in feed k ≤ length feed)) e
    (place, here, rows_end feed count (suc n) (place + length_in feed n) rest)
rows_row feed (suc count) n place (suc i) t h =
    let rest = and_right (row_right feed n place) (rows_right feed count (suc n) (place + length_in feed n)) t in
    let e : suc n + i ≡ n + suc i = omega arith in
    subst (λ (k : ℕ). (at : ℕ) × T (row_right feed k at) × (at + length_in feed k ≤ length feed)) e
    (rows_row feed count (suc n) (place + length_in feed n) i rest (omega arith))

rows_joined : (feed : List ℕ) (count n place : ℕ) → T (rows_right feed count n place) → gather (body_in feed) (numbers_from n count) ≡ drop place feed
rows_joined feed zero n place t = sym (drop_of_length-le feed {i = place} (omega (arith, eqb→eq place (length feed) t)))
rows_joined feed (suc count) n place t =
    let here = and_left (row_right feed n place) (rows_right feed count (suc n) (place + length_in feed n)) t in
    let rest = and_right (row_right feed n place) (rows_right feed count (suc n) (place + length_in feed n)) t in
    let long = length_in feed n in
    ap (λ (p : ℕ). take long (drop p feed) ++ gather (body_in feed) (numbers_from (suc n) count)) (row_offset feed n place here)
    ∙ ap (λ (l : List ℕ). take long (drop place feed) ++ l) (rows_joined feed count (suc n) (place + long) rest ∙ sym (drop-drop long place feed))
    ∙ take-append-drop long (drop place feed)

-- ── a well formed feed

-- the tests of `well_formed`, in its order
abbrev pub form_tests : List ℕ → List Bool
form_tests feed =
    leb (length feed) most_bytes
    ∷ leb head_bytes (length feed)
    ∷ eqb (version_in feed) feed_version
    ∷ leb fewest_rows (count_in feed)
    ∷ leb (count_in feed) most_rows
    ∷ leb (table_end feed) (length feed)
    ∷ rows_right feed (count_in feed) 1 (table_end feed)
    ∷ eqb (body_answer (read_body own_kind (body_in feed 1))) 0
    ∷ []

pub form_test : (feed : List ℕ) (i : ℕ) → T (well_formed feed) → T (get_or (form_tests feed) i true)
unfolding well_formed
form_test feed i t = every_at (form_tests feed) i t

-- Each row's kind fits, and its body lies inside the feed.
pub row_inside : (feed : List ℕ) (n : ℕ) → T (well_formed feed) → 1 ≤ n → n ≤ count_in feed →
    T (kind_fits n (kind_in feed n)) × (offset_in feed n + length_in feed n ≤ length feed)
row_inside feed n t g h =
    let e : 1 + (n - 1) ≡ n = omega arith in
    let r = rows_row feed (count_in feed) 1 (table_end feed) (n - 1) (form_test feed 6 t) (omega arith) in
    subst (λ (k : ℕ). T (kind_fits k (kind_in feed k)) × (offset_in feed k + length_in feed k ≤ length feed)) e
    (row_kind_lem feed (1 + (n - 1)) r.0 r.1, omega (arith, row_offset feed (1 + (n - 1)) r.0 r.1, r.2))

-- Without gaps: a well formed feed is its head and table, and then all bodies in row order.
pub bodies_joined : (feed : List ℕ) → T (well_formed feed) → take (table_end feed) feed ++ gather (body_in feed) (numbers_from 1 (count_in feed)) ≡ feed
bodies_joined feed t =
    ap (λ (l : List ℕ). take (table_end feed) feed ++ l) (rows_joined feed (count_in feed) 1 (table_end feed) (form_test feed 6 t))
    ∙ take-append-drop (table_end feed) feed

-- ── what a caller gets

pub row_found_lem : (feed : List ℕ) (n : ℕ) → T (is_row feed n) → (found feed n ≡ 1) × (row_kind feed n ≡ kind_in feed n) × (row_body feed n ≡ body_in feed n)
unfolding found row_kind row_body
row_found_lem feed n t =
    (cond_true (is_row feed n) 1 0 t, cond_true (is_row feed n) (kind_in feed n) 0 t, cond_true (is_row feed n) (body_in feed n) [] t)

pub row_not_found : (feed : List ℕ) (n : ℕ) → T (not (is_row feed n)) → (found feed n ≡ 0) × (row_kind feed n ≡ 0) × (row_body feed n ≡ [])
unfolding found row_kind row_body
row_not_found feed n t =
    (cond_false (is_row feed n) 1 0 t, cond_false (is_row feed n) (kind_in feed n) 0 t, cond_false (is_row feed n) (body_in feed n) [] t)

pub count_of_formed : (feed : List ℕ) → T (well_formed feed) → row_count feed ≡ count_in feed
unfolding row_count
count_of_formed feed t = cond_true (well_formed feed) (count_in feed) 0 t

pub count_of_refused : (feed : List ℕ) → T (not (well_formed feed)) → row_count feed ≡ 0
unfolding row_count
count_of_refused feed t = cond_false (well_formed feed) (count_in feed) 0 t

-- A row that is there: of a well formed feed, from 1 to the count.
pub is_row_lem : (feed : List ℕ) (n : ℕ) → T (well_formed feed) → 1 ≤ n → n ≤ count_in feed → T (is_row feed n)
is_row_lem feed n t g h =
    and_both (leb 1 n) (leb n (row_count feed)) (le→leb 1 n g) (le→leb n (row_count feed) (omega (arith, count_of_formed feed t)))

-- A refused feed has no row.
pub refused_no_row : (feed : List ℕ) (n : ℕ) → T (not (well_formed feed)) → T (not (is_row feed n))
refused_no_row feed n t =
    not_T (is_row feed n)
    (λ (h : T (is_row feed n)).
    omega (arith, count_of_refused feed t, leb→le 1 n (and_left (leb 1 n) (leb n (row_count feed)) h), leb→le n (row_count feed) (and_right (leb 1 n) (leb n (row_count feed)) h)))

-- A refused feed has no event.
pub refused_no_event : (feed : List ℕ) → T (not (well_formed feed)) → events feed ≡ []
unfolding events
refused_no_event feed t = ap (λ (count : ℕ). map (event_at feed) (numbers_from 1 count)) (count_of_refused feed t)

-- ── the own list

own_read_lem : (bytes : List ℕ) → body_answer (read_body own_kind bytes) ≡ 0 → read_body own_kind bytes ≡ own_body (own_in (read_body own_kind bytes))
unfolding read_body
own_read_lem bytes e = used (read_own bytes 0) e
  where
    used : (m : Reading (List ℕ)) → body_answer (used_up own_body bytes m) ≡ 0 → used_up own_body bytes m ≡ own_body (own_in (used_up own_body bytes m))
    used (got x next) =
        elim (eqb next (length bytes)) as
        (λ b. body_answer (cond b (own_body x) (fault_at next)) ≡ 0 → cond b (own_body x) (fault_at next) ≡ own_body (own_in (cond b (own_body x) (fault_at next))))
        [ true ↦ λ h. refl | false ↦ λ h. let never : ⊥ = omega arith in absurd never ]
    used (fault p) = λ h. let never : ⊥ = omega arith in absurd never

-- The first row's body of a well formed feed reads as its own list, which is shaped.
pub own_of_feed : (feed : List ℕ) → T (well_formed feed) → (read_body own_kind (row_body feed 1) ≡ own_body (own_of feed)) × T (shaped_own (own_of feed))
unfolding own_of
own_of_feed feed t =
    let few = leb→le fewest_rows (count_in feed) (form_test feed 3 t) in
    let there : row_body feed 1 ≡ body_in feed 1 = (row_found_lem feed 1 (is_row_lem feed 1 t (omega arith) few)).2 in
    let right : body_answer (read_body own_kind (row_body feed 1)) ≡ 0 =
    ap (λ (l : List ℕ). body_answer (read_body own_kind l)) there
    ∙ eqb→eq (body_answer (read_body own_kind (body_in feed 1))) 0 (form_test feed 7 t)
    in
    let e = own_read_lem (row_body feed 1) right in
    (e, own_shaped own_kind (row_body feed 1) (own_in (read_body own_kind (row_body feed 1))) e)
