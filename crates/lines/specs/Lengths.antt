-- How long a sheet can be: a head line and at most 256 lines, none longer than 94 bytes.
use Rattle.std.specs.Prelude.{ℕ, suc, ◌+◌, ◌*◌, ◌≤◌, true, false, cond, List, [], ◌∷◌, ◌++◌, T, eqb, leb, ℤ, pos, negsuc, nat_abs, length}
use Rattle.std.proofs.Common.{ap, arith, leb→le, length-append}
use Rattle.sets.specs.Sets.{all, gather}
use Rattle.sets.specs.Tests.{and_left, and_right}
use Rattle.rules.specs.Sizes.{largest_amount, most_references}
use Rattle.rules.specs.Chain.{shaped_own}
use Rattle.rules.specs.States.{Wallet, opened}
use Rattle.rules.specs.Sound.{sound}
use Rattle.rules.specs.Steps.{Refusal, Step, answer_of, step_to, payment_refusals, block_refusals, rollback_refusals, opening, block, pay, roll_back}
use Rattle.rules.specs.Calls.{block_call, pay_call, back_call}
use Rattle.rules.specs.StepLaws.{answer_of_step}
use Rattle.soundness.specs.Kept.{opening_sound, step_sound}
use Rattle.soundness.specs.Bounds.{available_bound, total_bound, minimum_bound, movement_bound}
use Rattle.format.specs.Bodies.{Body, own_body, block_body, pay_body, back_body, fault_at}
use Rattle.format.specs.Feed.{most_rows, count_in, well_formed, row_count, Event, events}
use Rattle.format.proofs.Rows.{count_of_formed, form_test}
use Rattle.lines.specs.Sheet.{signed, kind_word, own_word, block_word, pay_word, back_word, head_line, refused_line, line_text, event_step, event_line, lines_from, sheet}
use Rattle.lines.specs.Decimals.{decimal_few}
use Rattle.lines.specs.Text.{line_parts_lem}
use Rattle.lines.specs.Rows.{events_length}

abbrev pub most_line : ℕ
most_line = 94

abbrev pub most_sheet : ℕ
most_sheet = 24_112

-- ── words

signed_few : (m : ℤ) → nat_abs m ≤ most_references * largest_amount → length (signed m) ≤ 20
signed_few (pos n) h = omega (arith, decimal_few 18 n (omega arith))
signed_few (negsuc n) h = omega (arith, decimal_few 18 (suc n) (omega arith))

kind_few : (kind : ℕ) → length (kind_word kind) ≤ 5
kind_few kind =
    elim (eqb kind 1) as (λ a. length (cond a own_word (cond (eqb kind 2) block_word (cond (eqb kind 3) pay_word back_word))) ≤ 5) [
      | true ↦ omega arith
      | false ↦
          elim (eqb kind 2) as (λ a. length (cond a block_word (cond (eqb kind 3) pay_word back_word)) ≤ 5) [
            | true ↦ omega arith
            | false ↦ elim (eqb kind 3) as (λ a. length (cond a pay_word back_word) ≤ 5) [ true ↦ omega arith | false ↦ omega arith ]
          ]
    ]

-- ── steps

-- an answer is one of the paper's numbers
answer_of_lem : (l : List Refusal) → T (all (λ r. leb r.number 9) l) → answer_of l ≤ 9
answer_of_lem [] t = omega arith
answer_of_lem (r ∷ l) t =
    elim r.given as (λ b. cond b r.number (answer_of l) ≤ 9) [
      | true ↦ leb→le r.number 9 (and_left (leb r.number 9) (all (λ s. leb s.number 9) l) t)
      | false ↦ answer_of_lem l (and_right (leb r.number 9) (all (λ s. leb s.number 9) l) t)
    ]

step_answer : (n : ℕ) (old new : Wallet) → n ≤ 9 → (step_to n old new).answer ≤ 9
step_answer n old new h = omega (arith, answer_of_step n old new)

-- what a line needs of a step
record Fine (s : Step) : Type 0 where
  is_good : T (sound s.wallet)
  answer : s.answer ≤ 9
  movement : nat_abs s.movement ≤ most_references * largest_amount

opening_fine : (own : List ℕ) → Fine (opening own)
unfolding opening
opening_fine own =
    record {
      is_good = opening_sound own;
      answer =
          elim (shaped_own own) as (λ b. (cond {A = Step} b (record { wallet = opened own; answer = 0; movement = pos 0 }) (record { wallet = opened []; answer = 1; movement = pos 0 })).answer ≤ 9)
          [ true ↦ omega arith | false ↦ omega arith ];
      movement =
          elim (shaped_own own) as (λ b. nat_abs (cond {A = Step} b (record { wallet = opened own; answer = 0; movement = pos 0 }) (record { wallet = opened []; answer = 1; movement = pos 0 })).movement ≤ most_references * largest_amount)
          [ true ↦ omega arith | false ↦ omega arith ];
    }

event_fine : (w : Wallet) (b : Body) → T (sound w) → Fine (event_step w b)
unfolding event_step block pay roll_back block_refusals payment_refusals rollback_refusals
event_fine w (own_body own) t = opening_fine own
event_fine w (block_body b) t =
    record {
      is_good = step_sound w (block_call b) t;
      answer = step_answer (answer_of (block_refusals w b)) w _ (answer_of_lem (block_refusals w b) tt);
      movement = movement_bound w (block_call b) t;
    }
event_fine w (pay_body p) t =
    record {
      is_good = step_sound w (pay_call p) t;
      answer = step_answer (answer_of (payment_refusals w p)) w _ (answer_of_lem (payment_refusals w p) tt);
      movement = movement_bound w (pay_call p) t;
    }
event_fine w back_body t =
    record {
      is_good = step_sound w back_call t;
      answer = step_answer (answer_of (rollback_refusals w)) w _ (answer_of_lem (rollback_refusals w) tt);
      movement = movement_bound w back_call t;
    }
event_fine w (fault_at p) t = record { is_good = t; answer = omega arith; movement = omega arith }

-- ── lines

line_few : (row kind : ℕ) (s : Step) → row ≤ 256 → Fine s → length (line_text (event_line row kind s)) ≤ most_line
unfolding event_line
line_few row kind s h f =
    let w = s.wallet in
    omega (
      arith,
      simp length-append at (ap (λ (b : List ℕ). length b) (line_parts_lem (event_line row kind s))),
      decimal_few 2 row (omega arith),
      kind_few kind,
      decimal_few 0 s.answer (omega (arith, f.answer)),
      decimal_few 18 (event_line row kind s).available (omega (arith, available_bound w f.is_good)),
      decimal_few 19 (event_line row kind s).total (omega (arith, total_bound w f.is_good)),
      decimal_few 18 (event_line row kind s).minimum (omega (arith, minimum_bound w f.is_good)),
      signed_few s.movement f.movement,
    )

lines_few : (row : ℕ) (w : Wallet) (l : List Event) → T (sound w) → row + length l ≤ 257 → length (gather line_text (lines_from row w l)) ≤ most_line * length l
lines_few row w [] t h = omega arith
lines_few row w (e ∷ l) t h =
    let s = event_step w e.body in
    let f = event_fine w e.body t in
    omega (
      arith,
      length-append (line_text (event_line row e.kind s)) (gather line_text (lines_from (suc row) s.wallet l)),
      line_few row e.kind s (omega arith) f,
      lines_few (suc row) s.wallet l f.is_good (omega arith),
    )

-- ── the sheet

rows_few : (feed : List ℕ) → T (well_formed feed) → length (events feed) ≤ most_rows
unfolding events
rows_few feed t =
    omega (
      arith,
      events_length feed (row_count feed),
      count_of_formed feed t,
      leb→le (count_in feed) most_rows (form_test feed 4 t),
    )

none_sound : T (sound (opened []))
unfolding opening shaped_own
none_sound = opening_sound []

-- Every sheet fits.
pub sheet_fits : (feed : List ℕ) → length (sheet feed) ≤ most_sheet
unfolding sheet
sheet_fits feed =
    (elim (well_formed feed) as
    (λ b. (T b → T (well_formed feed)) → length (cond b (head_line ++ gather line_text (lines_from 1 (opened []) (events feed))) refused_line) ≤ most_sheet) [
      | true ↦ λ t.
          omega (
            arith,
            length-append head_line (gather line_text (lines_from 1 (opened []) (events feed))),
            rows_few feed (t tt),
            lines_few 1 (opened []) (events feed) none_sound (omega (arith, rows_few feed (t tt))),
          )
      | false ↦ λ t. omega arith
    ])
    (λ t. t)
