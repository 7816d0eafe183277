use Rattle.std.proofs.Common.{map, ◌∙◌, sym}
use Rattle.sets.specs.Sets.{keep}
use Rattle.fixed.specs.Laws.{all_taken, map-keep_pushed, map-keep_passed}
use Rattle.balance.proofs.entries_where.Goals as goal
use Rattle.balance.proofs.entries_where.Goals.{then-keeps, else-keeps}

pub loop-held-preserved : goal.loop-held-preserved
loop-held-preserved g c = λ p same.
    let xs = c.entries-held-items.result.now in
    let i = c.loop-held.held-index in
    elim c.if-keeps.branch [
      | then-keeps w ↦
          map-keep_pushed _ _ (λ h. h.entry) p xs i _ _ _ (c.loop-held.invariant p same)
          c.loop-held-test.true c.entries-held-items.ensures.most (sym (same _ _ c.keeps.ensures) ∙ w.if-keeps.true)
          (w.kept-is ∙ w.push.ensures)
      | else-keeps w ↦
          map-keep_passed _ _ (λ h. h.entry) p xs i _ _ (w.kept-is ∙ c.loop-held.invariant p same)
          c.loop-held-test.true (sym (same _ _ c.keeps.ensures) ∙ w.if-keeps.false)
    ]

pub returns : goal.returns
returns g c = λ p same.
    all_taken _ _ (λ l. map (λ h. h.entry) (keep p l)) _ _ c.loop-held.held-index _ (c.loop-held.invariant p same) c.loop-held-test.false
    c.entries-held-items.ensures.entries
