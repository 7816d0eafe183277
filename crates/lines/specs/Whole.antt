-- The whole sheet in a text.
use Rattle.std.specs.Prelude.{ℕ, ◌≡◌, List, []}
use Rattle.std.proofs.Common.{sym, ap, ◌∙◌, arith}
use Rattle.fixed.specs.declared.Filled.{Filled}
use Rattle.fixed.specs.Filled.{filled_of, with_items}
use Rattle.fixed.specs.Laws.{extend_more}
use Rattle.lines.specs.Sheet.{sheet}
use Rattle.lines.specs.Lengths.{most_sheet, sheet_fits}

-- a text that began empty and was given the sheet holds it
pub sheet_held :
    (feed bytes : List ℕ) (old text : Filled ℕ 24112) → sheet feed ≡ bytes → old ≡ filled_of most_sheet 0 [] →
    text ≡ with_items old bytes → text ≡ filled_of most_sheet 0 (sheet feed)
sheet_held feed bytes old text e a w =
    extend_more most_sheet 0 [] (sheet feed) old text a (omega (arith, sheet_fits feed)) (w ∙ ap (with_items old) (sym e))
