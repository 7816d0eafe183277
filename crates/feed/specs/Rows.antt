-- The feed's rows as the code reads them: a field in the table, the rows one by one, the tests of a well formed feed, and a
-- row that is there or not.
use Rattle.std.specs.Prelude.{◌≡◌, refl, Bool, true, false, cond, List, ℕ, suc, ◌+◌, ◌-◌, ◌/◌, ◌≤◌, ◌<◌, eqb, length, Result, Ok, Err, is_ok}
use Rattle.std.proofs.Common.{sym, ap, ◌∙◌, arith}
use Rattle.format.specs.Fields.{number_at}
use Rattle.format.specs.Bodies.{own_kind, read_body, body_answer}
use Rattle.format.specs.Feed.{count_in, length_in, body_in, row_place, row_right, rows_right, well_formed, row_count, found}
use Rattle.feed.specs.Structs.{answered}
use Rattle.feed.specs.Bodies.{own_read, own_reading, answer_number}
use Rattle.feed.specs.Whole.{own_told}
use Rattle.feed.specs.Numbers.{number_behind}
use Rattle.feed.specs.declared.fields.Fault.{Fault}
use Rattle.feed.specs.declared.items.Read.{Read}
use Rattle.feed.specs.declared.bodies.Own.{Own}

-- whether a row was found, 0 or 1
abbrev pub row_found : List ℕ → ℕ → ℕ
row_found = found

-- ── a row's place

-- a row that is not in the bytes
pub row_behind : (feed : List ℕ) (n skip width : ℕ) → length feed / 8 < n - 1 → 0 ≡ number_at width feed (row_place n + skip)
row_behind feed n skip width h = sym (number_behind width feed (row_place n + skip) (omega arith))

-- ── one row after another

-- a right row, and those behind it
pub rows_turn :
    (feed : List ℕ) (count n place long : ℕ) → n ≤ count → row_right feed n place ≡ true → long ≡ length_in feed n →
    rows_right feed (count + 1 - (n + 1)) (n + 1) (place + long) ≡ rows_right feed (count + 1 - n) n place
rows_turn feed count n place long h e f =
    let left : count + 1 - n ≡ suc (count + 1 - (n + 1)) = omega arith in
    let next : n + 1 ≡ suc n = omega arith in
    rw (left, next, f, e) refl

-- ── well formed

-- the own list's answer as a flag
pub own_flag : (feed body : List ℕ) (read : Read Own) (ok : Bool) → ok ≡ is_ok read.answer →
    read ≡ own_read (own_reading (length body) (read_body own_kind body)) → body ≡ body_in feed 1 →
    ok ≡ eqb (body_answer (read_body own_kind (body_in feed 1))) 0
own_flag feed body read ok g f e =
    g
    ∙ ap (λ (r : Read Own). is_ok r.answer) f
    ∙ flag (answered (own_reading (length body) (read_body own_kind body)))
    ∙ ap (λ (n : ℕ). eqb n 0) (own_told body).0
    ∙ ap (λ (l : List ℕ). eqb (body_answer (read_body own_kind l)) 0) e
  where
    flag : (a : Result ℕ Fault) → is_ok a ≡ eqb (answer_number a) 0
    flag (Ok next) = refl
    flag (Err f) = refl

-- ── what a caller gets

pub count_formed : (feed : List ℕ) (b : Bool) → b ≡ well_formed feed → b ≡ true → count_in feed ≡ row_count feed
unfolding row_count
count_formed feed b e f = ap (λ (x : Bool). cond x (count_in feed) 0) (sym f ∙ e)

pub count_refused : (feed : List ℕ) (b : Bool) → b ≡ well_formed feed → b ≡ false → 0 ≡ row_count feed
unfolding row_count
count_refused feed b e f = ap (λ (x : Bool). cond x (count_in feed) 0) (sym f ∙ e)
