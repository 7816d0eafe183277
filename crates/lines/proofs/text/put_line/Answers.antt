use Rattle.std.specs.Prelude.{ℤ}
use Rattle.std.specs.Int.{w64}
use Rattle.std.proofs.Common.{rules, to_z-of_z, ◌≡◌, [], ◌∷◌, ◌++◌, ◌∙◌, ap}
use Rattle.fixed.specs.Filled.{with_items}
use Rattle.lines.specs.Text.{put_then, row_part, kind_part, answer_part, available_part, total_part, minimum_part, movement_part, line_parts_lem, held}
use Rattle.lines.specs.Sheet.{signed}
use Rattle.lines.proofs.text.put_line.Goals as goal

pub returns : goal.returns
returns c =
    let old = c.args.text.now in
    let l = c.args.line in
    let b = row_part l ++ kind_part l in
    let d = b ++ answer_part l in
    let e = d ++ available_part l in
    let f = e ++ total_part l in
    let g = f ++ minimum_part l in
    let two = put_then old _ _ (row_part l) (kind_part l) c.put_number.ensures c.put_kind.ensures in
    let three = put_then old _ _ b (answer_part l) two c.put_number-2.ensures in
    let four = put_then old _ _ d (available_part l) three c.put_number-3.ensures in
    let five = put_then old _ _ e (total_part l) four c.put_number-4.ensures in
    let six = put_then old _ _ f (minimum_part l) five c.put_number-5.ensures in
    let back : held l.movement ≡ l.movement = to_z-of_z {w = w64} {z = l.movement} (record { sfits = search rules }) in
    put_then old _ _ g (movement_part l) six
    (c.put_signed.ensures ∙ ap (λ (z : ℤ). with_items c.put_number-5.new.text (signed z ++ 10 ∷ [])) back)
    ∙ ap (with_items old) (line_parts_lem l)
