use Rattle.std.proofs.Common.{◌∙◌, arith, ap}
use Rattle.fixed.specs.Filled.{with_items}
use Rattle.lines.specs.Rows.{text_to}
use Rattle.lines.specs.Along.{along_start, turn}
use Rattle.lines.proofs.events.put_events.Goals as goal

pub loop-i-init : goal.loop-i-init
loop-i-init c = along_start c.args.feed.now c.args.text.now c.unopened-w.result c.unopened-w.ensures

pub loop-i-preserved : goal.loop-i-preserved
loop-i-preserved c =
    turn c.args.feed.now c.args.text.now c.loop-i.text c.loop-i.w c.loop-i.i c.requires c.loop-i.invariant
    (omega (arith, c.loop-i-test.true, c.count_in-i-end.ensures)) c.kind_in-kind.result c.kind_in-kind.ensures
    c.row_step-step.result c.row_step-step.ensures c.line_of.result c.line_of.ensures c.put_line.new.text c.put_line.ensures

pub returns : goal.returns
returns c =
    c.loop-i.invariant.wrote
    ∙ ap (λ n. with_items c.args.text.now (text_to c.args.feed.now n))
    (omega (arith, c.loop-i-test.false, c.loop-i.auto.i-end, c.count_in-i-end.ensures))
