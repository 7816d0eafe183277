-- The sheet: a feed's bytes to the sheet's bytes. For a refused feed one line, else a head line and one line an event.
use Rattle.std.specs.Prelude.{ℕ, zero, suc, ◌+◌, ◌/◌, ◌%◌, cond, List, [], ◌∷◌, ◌++◌, eqb, ℤ, pos, negsuc}
use Rattle.sets.specs.Sets.{gather}
use Rattle.rules.specs.States.{Wallet, opened}
use Rattle.rules.specs.Balances.{available_balance, total_balance}
use Rattle.rules.specs.Minimum.{minimum_balance}
use Rattle.rules.specs.Steps.{Step, opening, block, pay, roll_back}
use Rattle.format.specs.Bodies.{Body, own_body, block_body, pay_body, back_body, fault_at, own_kind, block_kind, pay_kind}
use Rattle.format.specs.Feed.{Event, events, well_formed}
use Rattle.lines.specs.declared.Line.{Line}

-- ── numbers and words as bytes

-- the character of a digit, 0 to 9
abbrev pub digit : ℕ → ℕ
digit n = 48 + n

-- The decimal digits of a number, the most significant first, none for 0. The first number bounds how many are written;
-- n is enough for n, since a number has no more digits than itself.
abbrev pub digits_within : ℕ → ℕ → List ℕ
digits_within zero n = []
digits_within (suc most) zero = []
digits_within (suc most) (suc k) = digits_within most (suc k / 10) ++ digit (suc k % 10) ∷ []

-- A number as text: the digits of its tenth, and the last digit.
unfoldable pub decimal : ℕ → List ℕ
decimal n = digits_within n (n / 10) ++ digit (n % 10) ∷ []

-- a number below 0: a minus sign, and how far below
abbrev pub signed : ℤ → List ℕ
signed (pos n) = decimal n
signed (negsuc n) = 45 ∷ decimal (suc n)

-- words with single spaces between them
abbrev pub spaced : List (List ℕ) → List ℕ
spaced [] = []
spaced (word ∷ []) = word
spaced (word ∷ (next ∷ more)) = word ++ 32 ∷ spaced (next ∷ more)

-- each line ends with a line feed
abbrev pub line_of : List (List ℕ) → List ℕ
line_of words = spaced words ++ 10 ∷ []

-- own, block, pay, back
abbrev pub own_word : List ℕ
own_word = 111 ∷ 119 ∷ 110 ∷ []

abbrev pub block_word : List ℕ
block_word = 98 ∷ 108 ∷ 111 ∷ 99 ∷ 107 ∷ []

abbrev pub pay_word : List ℕ
pay_word = 112 ∷ 97 ∷ 121 ∷ []

abbrev pub back_word : List ℕ
back_word = 98 ∷ 97 ∷ 99 ∷ 107 ∷ []

abbrev pub kind_word : ℕ → List ℕ
kind_word kind = cond (eqb kind own_kind) own_word (cond (eqb kind block_kind) block_word (cond (eqb kind pay_kind) pay_word back_word))

-- ── lines

-- feed refused 1
abbrev pub refused_line : List ℕ
refused_line = 102 ∷ 101 ∷ 101 ∷ 100 ∷ 32 ∷ 114 ∷ 101 ∷ 102 ∷ 117 ∷ 115 ∷ 101 ∷ 100 ∷ 32 ∷ 49 ∷ 10 ∷ []

-- event kind answer available total minimum moved
abbrev pub head_line : List ℕ
head_line =
    101 ∷ 118 ∷ 101 ∷ 110 ∷ 116
    ∷ 32 ∷ 107 ∷ 105 ∷ 110 ∷ 100
    ∷ 32 ∷ 97 ∷ 110 ∷ 115 ∷ 119 ∷ 101 ∷ 114
    ∷ 32 ∷ 97 ∷ 118 ∷ 97 ∷ 105 ∷ 108 ∷ 97 ∷ 98 ∷ 108 ∷ 101
    ∷ 32 ∷ 116 ∷ 111 ∷ 116 ∷ 97 ∷ 108
    ∷ 32 ∷ 109 ∷ 105 ∷ 110 ∷ 105 ∷ 109 ∷ 117 ∷ 109
    ∷ 32 ∷ 109 ∷ 111 ∷ 118 ∷ 101 ∷ 100
    ∷ 10 ∷ []

-- One line an event: its row from 1, its kind, the answer, the three balances after it, the movement.
unfoldable pub line_text : Line → List ℕ
line_text l =
    line_of
    (decimal l.row
    ∷ kind_word l.kind
    ∷ decimal l.answer
    ∷ decimal l.available
    ∷ decimal l.total
    ∷ decimal l.minimum
    ∷ signed l.movement
    ∷ [])

-- ── events

-- An event's step. A fault in its body is the event's answer 1: the wallet as it was, and movement 0.
unfoldable pub event_step : Wallet → Body → Step
event_step w (own_body own) = opening own
event_step w (block_body b) = block w b
event_step w (pay_body t) = pay w t
event_step w back_body = roll_back w
event_step w (fault_at place) = record { wallet = w; answer = 1; movement = pos 0 }

-- An event's line. The balances are those after the event.
unfoldable pub event_line : ℕ → ℕ → Step → Line
event_line row kind s =
    record {
      row = row;
      kind = kind;
      answer = s.answer;
      available = available_balance s.wallet.present;
      total = total_balance s.wallet.own s.wallet.present;
      minimum = minimum_balance s.wallet.own s.wallet.present;
      movement = s.movement;
    }

-- The lines of events from a row on, each on the wallet that the event before it left.
abbrev pub lines_from : ℕ → Wallet → List Event → List Line
lines_from row w [] = []
lines_from row w (e ∷ l) =
    let s = event_step w e.body in
    event_line row e.kind s ∷ lines_from (suc row) s.wallet l

-- ── the sheet

-- The first event is the opening: what wallet stands before it does not matter.
unfoldable pub sheet : List ℕ → List ℕ
sheet feed = cond (well_formed feed) (head_line ++ gather line_text (lines_from 1 (opened []) (events feed))) refused_line
