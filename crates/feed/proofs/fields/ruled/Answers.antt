-- A field with a rule: the number that stands there is held against it.
use Rattle.std.proofs.Common.{ap, sym, ◌∙◌}
use Rattle.feed.specs.Answers.{field_read}
use Rattle.feed.specs.Fields.{rule_fault, rule_kept}
use Rattle.feed.proofs.fields.ruled.Goals as goal

pub returns-in_default-clause-reading : goal.returns-in_default-clause-reading
returns-in_default-clause-reading g c test holds =
    rule_fault c.args.width test c.args.bytes.now c.args.place _ (ap field_read (sym c.in_default.is) ∙ c.number.ensures.reading)

pub returns-then-rule-clause-reading : goal.returns-then-rule-clause-reading
returns-then-rule-clause-reading g c test holds =
    rule_kept c.args.width test c.args.bytes.now c.args.place c.in-Ok.n c.in-Ok.next _ c.in-Ok.ensures.reading (sym c.if-rule.true ∙ holds c.in-Ok.n _ c.rule.ensures)

pub returns-clause-reading : goal.returns-clause-reading
returns-clause-reading g c test holds =
    rule_kept c.args.width test c.args.bytes.now c.args.place c.in-Ok.n c.in-Ok.next _ c.in-Ok.ensures.reading (sym c.if-rule.false ∙ holds c.in-Ok.n _ c.rule.ensures)
