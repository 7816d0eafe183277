use Rattle.std.proofs.Common.{arith, ◌∙◌}
use Rattle.feed.specs.Numbers.{from_step}
use Rattle.feed.proofs.fields.number_at.Goals as goal

pub loop-i-preserved : goal.loop-i-preserved
loop-i-preserved c =
    from_step _ _ _ _ _ _ c.loop-i.invariant (omega arith) (c.from-low.ensures ∙ c.byte_at.ensures) (omega arith)
