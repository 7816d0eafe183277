-- The lines row by row: what stands on the sheet after so many rows, and the wallet that they leave.
use Rattle.std.specs.Prelude.{ℕ, zero, suc, ◌+◌, ◌≡◌, refl, Bool, not, cond, List, [], ◌∷◌, ◌++◌, map, T, length}
use Rattle.std.proofs.Common.{sym, ap, ◌∙◌, append-nil, add-zero, add-suc, suc-add, arith}
use Rattle.std.proofs.lemmas.List.{map-append, length-map}
use Rattle.sets.specs.Sets.{gather}
use Rattle.sets.specs.Laws.{gather_append}
use Rattle.sets.specs.Tests.{is_true, is_false}
use Rattle.rules.specs.States as States
use Rattle.rules.specs.States.{opened}
use Rattle.rules.specs.Steps as Steps
use Rattle.format.specs.Feed.{Event, event_at, numbers_from, count_in, well_formed, events}
use Rattle.format.proofs.Rows.{count_of_formed}
use Rattle.lines.specs.declared.Line.{Line}
use Rattle.lines.specs.Sheet.{head_line, refused_line, line_text, event_step, event_line, lines_from, sheet}

-- the wallet that some events leave
abbrev pub wallet_after : States.Wallet → List Event → States.Wallet
wallet_after w [] = w
wallet_after w (e ∷ l) = wallet_after (event_step w e.body).wallet l

-- the first so many events of a feed, the text of their lines, and the wallet that they leave
abbrev pub events_to : List ℕ → ℕ → List Event
events_to feed i = map (event_at feed) (numbers_from 1 i)

unfoldable pub text_to : List ℕ → ℕ → List ℕ
text_to feed i = gather line_text (lines_from 1 (opened []) (events_to feed i))

unfoldable pub held_after : List ℕ → ℕ → States.Wallet
held_after feed i = wallet_after (opened []) (events_to feed i)

-- ── events one behind the other

lines_append : (row : ℕ) (w : States.Wallet) (a b : List Event) →
    lines_from row w (a ++ b) ≡ lines_from row w a ++ lines_from (row + length a) (wallet_after w a) b
lines_append row w [] b = ap (λ (n : ℕ). lines_from n w b) (sym (add-zero row))
lines_append row w (e ∷ a) b =
    let s = event_step w e.body in
    ap (λ (l : List Line). event_line row e.kind s ∷ l)
    (lines_append (suc row) s.wallet a b
    ∙ ap (λ (n : ℕ). lines_from (suc row) s.wallet a ++ lines_from n (wallet_after s.wallet a) b) (suc-add row (length a) ∙ sym (add-suc row (length a))))

wallet_append : (w : States.Wallet) (a b : List Event) → wallet_after w (a ++ b) ≡ wallet_after (wallet_after w a) b
wallet_append w [] b = refl
wallet_append w (e ∷ a) b = wallet_append (event_step w e.body).wallet a b

numbers_more : (n i : ℕ) → numbers_from n (suc i) ≡ numbers_from n i ++ (n + i) ∷ []
numbers_more n zero = ap (λ (k : ℕ). k ∷ []) (sym (add-zero n))
numbers_more n (suc i) =
    ap (λ (l : List ℕ). n ∷ l) (numbers_more (suc n) i ∙ ap (λ (k : ℕ). numbers_from (suc n) i ++ k ∷ []) (suc-add n i ∙ sym (add-suc n i)))

numbers_length : (n i : ℕ) → length (numbers_from n i) ≡ i
numbers_length n zero = refl
numbers_length n (suc i) = ap suc (numbers_length (suc n) i)

one_more : (i : ℕ) → 1 + i ≡ suc i
one_more i = omega arith

events_more : (feed : List ℕ) (i : ℕ) → events_to feed (suc i) ≡ events_to feed i ++ event_at feed (suc i) ∷ []
events_more feed i =
    ap (λ (l : List ℕ). map (event_at feed) l) (numbers_more 1 i ∙ ap (λ (k : ℕ). numbers_from 1 i ++ k ∷ []) (one_more i))
    ∙ map-append (event_at feed) (numbers_from 1 i) (suc i ∷ [])

pub events_length : (feed : List ℕ) (i : ℕ) → length (events_to feed i) ≡ i
events_length feed i = length-map (numbers_from 1 i) (event_at feed) ∙ numbers_length 1 i

-- the step and the line of the row behind the first i
abbrev pub next_step : List ℕ → ℕ → Steps.Step
next_step feed i = event_step (held_after feed i) (event_at feed (suc i)).body

abbrev pub next_line : List ℕ → ℕ → Line
next_line feed i = event_line (suc i) (event_at feed (suc i)).kind (next_step feed i)

pub text_more : (feed : List ℕ) (i : ℕ) → text_to feed (suc i) ≡ text_to feed i ++ line_text (next_line feed i)
unfolding text_to held_after
text_more feed i =
    ap (λ (l : List Event). gather line_text (lines_from 1 (opened []) l)) (events_more feed i)
    ∙ ap (λ (l : List Line). gather line_text l)
    (lines_append 1 (opened []) (events_to feed i) (event_at feed (suc i) ∷ [])
    ∙ ap (λ (n : ℕ). lines_from 1 (opened []) (events_to feed i) ++ lines_from n (wallet_after (opened []) (events_to feed i)) (event_at feed (suc i) ∷ []))
    (ap (λ (k : ℕ). 1 + k) (events_length feed i) ∙ one_more i))
    ∙ gather_append line_text (lines_from 1 (opened []) (events_to feed i)) (next_line feed i ∷ [])
    ∙ ap (λ (l : List ℕ). gather line_text (lines_from 1 (opened []) (events_to feed i)) ++ l) (append-nil (line_text (next_line feed i)))

pub held_more : (feed : List ℕ) (i : ℕ) → held_after feed (suc i) ≡ (next_step feed i).wallet
unfolding held_after
held_more feed i =
    ap (λ (l : List Event). wallet_after (opened []) l) (events_more feed i)
    ∙ wallet_append (opened []) (events_to feed i) (event_at feed (suc i) ∷ [])

-- ── the sheet

-- A well formed feed's sheet is the head line and the text of all rows; a refused feed's is one line.
pub sheet_formed : (feed : List ℕ) → T (well_formed feed) → sheet feed ≡ head_line ++ text_to feed (count_in feed)
unfolding sheet text_to events
sheet_formed feed t =
    ap (λ (b : Bool). cond b (head_line ++ gather line_text (lines_from 1 (opened []) (events feed))) refused_line) (is_true (well_formed feed) t)
    ∙ ap (λ (n : ℕ). head_line ++ gather line_text (lines_from 1 (opened []) (events_to feed n))) (count_of_formed feed t)

pub sheet_refused_lem : (feed : List ℕ) → T (not (well_formed feed)) → sheet feed ≡ refused_line
unfolding sheet
sheet_refused_lem feed t =
    ap (λ (b : Bool). cond b (head_line ++ gather line_text (lines_from 1 (opened []) (events feed))) refused_line) (is_false (well_formed feed) t)
