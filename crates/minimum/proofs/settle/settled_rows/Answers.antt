use Rattle.std.proofs.Common.{◌∙◌, sym}
use Rattle.minimum.specs.Settling.{place_fits, sum_fits, settle_turn, settle_pass}
use Rattle.minimum.proofs.settle.settled_rows.Goals.{then-is_single, else-is_single}
use Rattle.minimum.proofs.settle.settled_rows.Goals as goal

pub bounds-rows-bring : goal.bounds-rows-bring
bounds-rows-bring c = place_fits _ _ c.requires _ c.loop-bring-test.true (sym c.is_single.ensures ∙ c.if-is_single.true)

pub bounds-rows-bring-then-is_single : goal.bounds-rows-bring-then-is_single
bounds-rows-bring-then-is_single c = place_fits _ _ c.requires _ c.loop-bring-test.true (sym c.is_single.ensures ∙ c.if-is_single.true)

pub overflow_add-rows : goal.overflow_add-rows
overflow_add-rows c =
    record { fits = sum_fits _ _ c.requires _ c.loop-bring-test.true (sym c.is_single.ensures ∙ c.if-is_single.true) _ c.loop-bring.invariant }

pub loop-bring-preserved : goal.loop-bring-preserved
loop-bring-preserved c = elim c.if-is_single.branch [
  | then-is_single w ↦ w.rows-is ∙ settle_turn _ _ c.requires _ c.loop-bring-test.true (sym c.is_single.ensures ∙ w.if-is_single.true) _ c.loop-bring.invariant
  | else-is_single w ↦ w.rows-is ∙ settle_pass _ _ _ _ c.loop-bring-test.true (sym c.is_single.ensures ∙ w.if-is_single.false) c.loop-bring.invariant
]
