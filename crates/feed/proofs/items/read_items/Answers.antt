use Rattle.std.proofs.Common.{rules, arith, ap, sym, ◌∙◌}
use Rattle.feed.specs.Answers.{before, field_read}
use Rattle.feed.specs.Items.{progress_step, progress_fault, progress_end}
use Rattle.feed.proofs.items.read_items.Goals as goal

pub returns-in-Err : goal.returns-in-Err
returns-in-Err g c bytes reader reads =
    c.fault.ensures
    ∙ progress_fault reader c.args.zero g.row.N bytes c.args.place c.args.count c.loop-i.items c.loop-i.i (before c.loop-i.last) c.loop-i.at c.in-Err.fault.place
    (c.loop-i.invariant.1 bytes reader reads) c.loop-i-test.true (ap field_read (sym c.in-Err.is) ∙ reads c.loop-i.at c.loop-i.last c.read.result c.read.ensures)

pub loop-i-preserved : goal.loop-i-preserved
loop-i-preserved g c = (
  search rules,
  λ bytes reader reads.
      progress_step reader c.args.zero g.row.N bytes c.args.place c.args.count c.loop-i.items c.loop-i.i (before c.loop-i.last) c.loop-i.at c.in-Ok.read.0 c.in-Ok.read.1
      (c.loop-i.invariant.1 bytes reader reads) c.loop-i-test.true c.requires.count_fits (ap field_read (sym c.in-Ok.is) ∙ reads c.loop-i.at c.loop-i.last c.read.result c.read.ensures),
)

pub returns : goal.returns
returns g c bytes reader reads =
    progress_end reader c.args.zero g.row.N bytes c.args.place c.args.count c.loop-i.items c.loop-i.i (before c.loop-i.last) c.loop-i.at
    (c.loop-i.invariant.1 bytes reader reads) (omega arith) (omega arith)
