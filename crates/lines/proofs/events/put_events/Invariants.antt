use Rattle.lines.specs.Along.{Along}
use Rattle.lines.proofs.events.put_events.Given as goal

abbrev pub invariant-loop-i : goal.invariant-loop-i
invariant-loop-i l = Along l.feed l.initial.text l.text l.w l.i
