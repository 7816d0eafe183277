use Rattle.std.proofs.Common.{[], ◌∷◌, ◌∙◌, ap, sym}
use Rattle.std.proofs.lemmas.List.Sums.{fold-append}
use Rattle.fixed.specs.Filled.{with_item, with_items}
use Rattle.lines.specs.Sheet.{decimal}
use Rattle.lines.specs.Decimals.{decimal_digits}
use Rattle.lines.proofs.text.put_number.Goals as goal

pub returns : goal.returns
returns c =
    let old = c.args.text.now in
    let digits = c.decimal-k.ensures.digits ∙ decimal_digits c.args.n c.decimal-k.result c.decimal-k.ensures.len in
    c.push.ensures
    ∙ ap (λ f. with_item f c.args.behind) (c.extend.ensures ∙ ap (with_items old) digits)
    ∙ sym (fold-append with_item old (decimal c.args.n) (c.args.behind ∷ []))
