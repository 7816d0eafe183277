use Rattle.std.proofs.Common.{◌∙◌, ap, not, sym}
use Rattle.tables.specs.declared.Bring.{Bring}
use Rattle.tables.specs.Tables.{is_single}
use Rattle.fixed.specs.Laws.{kept_pushed, kept_passed}
use Rattle.minimum.proofs.settle.kept_brings.Goals as goal
use Rattle.minimum.proofs.settle.kept_brings.Goals.{then-not-is_single, else-not-is_single}

pub loop-bring-preserved : goal.loop-bring-preserved
loop-bring-preserved c = elim c.if-not-is_single.branch [
  | then-not-is_single w ↦
      kept_pushed _ _ (λ (b : Bring). not (is_single b)) c.args.brings.now c.loop-bring.bring-index _ _ _ c.loop-bring.invariant c.loop-bring-test.true
      c.requires (ap not (sym c.is_single.ensures ∙ w.if-not-is_single.true)) (w.left-is ∙ w.push.ensures)
  | else-not-is_single w ↦
      kept_passed _ _ (λ (b : Bring). not (is_single b)) c.args.brings.now c.loop-bring.bring-index _ _ (w.left-is ∙ c.loop-bring.invariant)
      c.loop-bring-test.true (ap not (sym c.is_single.ensures ∙ w.if-not-is_single.false))
]
