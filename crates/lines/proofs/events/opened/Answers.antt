-- The part of the places that the count names.
use mathlib.Core.Path.{sym}
use lib.Seq.{length-take-le}
use Rattle.lines.proofs.events.opened.Goals as goal

pub slice_bounds-open-end : goal.slice_bounds-open-end
slice_bounds-open-end c =
    sym (length-take-le c.args.own.count c.args.own.addresses c.requires)

pub returns : goal.returns
returns c =
    c.open.ensures
