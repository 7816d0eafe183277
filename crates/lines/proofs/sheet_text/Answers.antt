use Rattle.std.proofs.Common.{T, not, ◌∙◌, sym, subst}
use Rattle.format.specs.Feed.{count_in}
use Rattle.lines.specs.Sheet.{head_line, refused_line}
use Rattle.lines.specs.Text.{put_then}
use Rattle.lines.specs.Rows.{text_to, sheet_formed, sheet_refused_lem}
use Rattle.lines.specs.Whole.{sheet_held}
use Rattle.lines.proofs.sheet_text.Goals as goal

pub returns-then-check : goal.returns-then-check
returns-then-check c =
    let formed = subst T (sym (sym c.check.ensures ∙ c.if-check.true)) tt in
    sheet_held c.args.feed.now _ c.none-text.result c.put_events.new.text (sheet_formed c.args.feed.now formed) c.none-text.ensures
    (put_then c.none-text.result _ _ head_line (text_to c.args.feed.now (count_in c.args.feed.now)) c.extend.ensures c.put_events.ensures)

pub returns-else-check : goal.returns-else-check
returns-else-check c =
    let refused = subst (λ b. T (not b)) (sym (sym c.check.ensures ∙ c.if-check.false)) tt in
    sheet_held c.args.feed.now refused_line c.none-text.result c.extend-else-check.new.self
    (sheet_refused_lem c.args.feed.now refused) c.none-text.ensures c.extend-else-check.ensures
