use Rattle.std.proofs.Common.{List, [], ◌∙◌, ap, map, subst, sym, ◌≤◌, length}
use Rattle.rules.specs.Sizes.{most_payments, most_references}
use Rattle.chain.specs.View.{view_transaction}
use Rattle.tables.specs.declared.Bring.{Bring}
use Rattle.tables.specs.Tables.{bring_of}
use Rattle.fixed.specs.Filled.{filled_of, with_item}
use Rattle.fixed.specs.Laws.{all_taken, map_pushed}
use Rattle.minimum.specs.declared.takings.Taking.{Taking}
use Rattle.minimum.specs.Inputs.{state_of}
use Rattle.minimum.specs.Bringing.{bring_told, takings_many}
use Rattle.minimum.proofs.brings.brings_of.Goals as goal

pub loop-entry-init : goal.loop-entry-init
loop-entry-init c = c.none-brings.ensures ∙ ap (λ (x : Bring). filled_of most_references x []) c.no_bring.ensures

pub bring_of-requires : goal.bring_of-requires
bring_of-requires c = (
  c.transactions.ensures.most,
  subst (λ (l : List Taking). length l ≤ most_payments) (sym c.requires.taken_value)
      (takings_many c.args.sets.now.own.now c.args.sets.now.utxo c.args.sets.now.expected c.args.sets.now.pending c.requires.fit.few_pending),
)

pub loop-entry-preserved : goal.loop-entry-preserved
loop-entry-preserved c =
    let s = state_of c.args.sets.now.utxo c.args.sets.now.expected c.args.sets.now.pending in
    map_pushed _ _ (bring_of c.args.sets.now.own.now s) c.as_slice-entry-items.result.now c.loop-entry.entry-index _ _ _ c.loop-entry.invariant c.loop-entry-test.true
    c.as_slice-entry-items.ensures.most
    (c.push.ensures
    ∙ ap (with_item c.loop-entry.brings)
    (c.bring_of.ensures
    ∙ bring_told c.args.sets.now.own.now s c.transactions.result.now c.args.taken.now _ (ap (map view_transaction) c.transactions.ensures.transactions) c.requires.taken_value))

pub returns : goal.returns
returns c =
    all_taken _ _ (map (bring_of c.args.sets.now.own.now (state_of c.args.sets.now.utxo c.args.sets.now.expected c.args.sets.now.pending))) _ _ c.loop-entry.entry-index _ c.loop-entry.invariant
    c.loop-entry-test.false c.as_slice-entry-items.ensures.items
