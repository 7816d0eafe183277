-- What the writers put one behind the other is a number, a signed number, a line.
use Rattle.std.specs.Int.{w64}
use Rattle.std.specs.Prelude.{ℕ, ◌≡◌, List, [], ◌∷◌, ◌++◌, ℤ}
use Rattle.std.proofs.Common.{to_z, of_z, sym, ap, ◌∙◌, append_assoc}
use Rattle.std.proofs.lemmas.List.Sums.{fold-append}
use Rattle.fixed.specs.declared.Filled.{Filled}
use Rattle.fixed.specs.Filled.{with_item, with_items}
use Rattle.lines.specs.declared.Line.{Line}
use Rattle.lines.specs.Sheet.{decimal, signed, kind_word, line_text}

-- ── a signed number

-- a number as its bits are read
abbrev pub held : ℤ → ℤ
held z = to_z w64 (of_z w64 z)

-- ── a kind's word and a space

abbrev pub spaced_kind : ℕ → List ℕ
spaced_kind kind = kind_word kind ++ 32 ∷ []

-- ── a line

abbrev pub spaced_number : ℕ → List ℕ
spaced_number n = decimal n ++ 32 ∷ []

-- the parts of a line as the writers put them, and all of them joined
abbrev pub row_part : Line → List ℕ
row_part l = spaced_number l.row

abbrev pub kind_part : Line → List ℕ
kind_part l = spaced_kind l.kind

abbrev pub answer_part : Line → List ℕ
answer_part l = spaced_number l.answer

abbrev pub available_part : Line → List ℕ
available_part l = spaced_number l.available

abbrev pub total_part : Line → List ℕ
total_part l = spaced_number l.total

abbrev pub minimum_part : Line → List ℕ
minimum_part l = spaced_number l.minimum

abbrev pub movement_part : Line → List ℕ
movement_part l = signed l.movement ++ 10 ∷ []

abbrev pub line_parts : Line → List ℕ
line_parts l = row_part l ++ kind_part l ++ answer_part l ++ available_part l ++ total_part l ++ minimum_part l ++ movement_part l

pub line_parts_lem : (l : Line) → line_parts l ≡ line_text l
unfolding line_text
line_parts_lem l = simp append_assoc

-- ── writers one behind the other

pub put_then :
    {n : ℕ} (old t u : Filled ℕ n) (a b : List ℕ) → t ≡ with_items old a → u ≡ with_items t b → u ≡ with_items old (a ++ b)
put_then old t u a b e f = f ∙ ap (λ g. with_items g b) e ∙ sym (fold-append with_item old a b)
