-- What the sheet's function promises of any feed and any buffer.
use Rattle.std.specs.Prelude.{ℕ, ◌≤◌, ◌≡◌, Bool, true, false, cond, List, ◌++◌, leb, length, drop}
use Rattle.std.proofs.Common.{sym, ap, ◌∙◌, arith, length-append}
use Rattle.lines.specs.declared.Written.{Written}
use Rattle.lines.specs.Sheet.{sheet}

abbrev pub fits_in : List ℕ → List ℕ → Bool
fits_in text buffer = leb (length text) (length buffer)

-- The answer: 0 and the text's length; 10, a number outside the paper's table, for a buffer that is too short.
abbrev pub written_of : List ℕ → List ℕ → Written
written_of text buffer = cond (fits_in text buffer) (record { answer = 0; length = length text }) (record { answer = 10; length = 0 })

-- The buffer: the text, and behind it what stood there. One that is too short stays as it was.
abbrev pub buffer_after : List ℕ → List ℕ → List ℕ
buffer_after text buffer = cond (fits_in text buffer) (text ++ drop (length text) buffer) buffer

-- What was written is within the buffer.
pub written_within : (text buffer after : List ℕ) (r : Written) → r ≡ written_of text buffer → after ≡ buffer_after text buffer → r.length ≤ length after
written_within text buffer after r e f =
    let g = ap (λ (w : Written). w.length) e in
    let h = ap (λ (l : List ℕ). length l) f in
    let k = within (fits_in text buffer) in
    omega (arith, g, h, k)
  where
    within : (b : Bool) →
        (cond {A = Written} b (record { answer = 0; length = length text }) (record { answer = 10; length = 0 })).length
        ≤ length (cond b (text ++ drop (length text) buffer) buffer)
    within true = omega (arith, length-append text (drop (length text) buffer))
    within false = omega arith

-- What `sheet_of` promises of its answer and of the lent buffer.
pub record SheetPromise (feed buffer : List ℕ) (r : Written) (after : List ℕ) : Type 0 where
  pub answer : r ≡ written_of (sheet feed) buffer
  pub left : after ≡ buffer_after (sheet feed) buffer

-- Any two results that it allows are equal.
pub sheet_determined : (feed buffer : List ℕ) (r q : Written) (a b : List ℕ) → SheetPromise feed buffer r a → SheetPromise feed buffer q b →
    (r ≡ q) × (a ≡ b)
sheet_determined feed buffer r q a b m n = (m.answer ∙ sym n.answer, m.left ∙ sym n.left)
