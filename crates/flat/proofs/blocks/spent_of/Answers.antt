use Rattle.std.proofs.Common.{rules, ◌∙◌, ap, sym, take, arith}
use Rattle.sets.specs.Fill.{gather-map}
use Rattle.chain.specs.View.{view_transaction, zero_reference}
use Rattle.fixed.specs.Laws.{gather_none, gather_extended, all_gathered}
use Rattle.flat.specs.Flat.{refs_of}
use Rattle.flat.specs.Slots.{inputs_of}
use Rattle.flat.proofs.blocks.spent_of.Goals as goal

pub loop-transaction-init : goal.loop-transaction-init
loop-transaction-init c = gather_none 128 zero_reference 8 inputs_of _ _ (search rules)

pub loop-transaction-preserved : goal.loop-transaction-preserved
loop-transaction-preserved c =
    gather_extended 128 zero_reference 8 inputs_of c.transactions-transaction-items.result.now c.loop-transaction.transaction-index _ _
    _ _ c.loop-transaction.invariant c.loop-transaction-test.true
    (omega (arith, c.transactions-transaction-items.ensures.most)) c.inputs.ensures.inputs c.inputs.ensures.most c.extend.ensures

pub returns : goal.returns
returns c =
    all_gathered 128 zero_reference 8 inputs_of _ _ _ _ c.loop-transaction.invariant c.loop-transaction-test.false
    c.transactions-transaction-items.ensures.transactions
    ∙ ap refs_of (sym (gather-map (λ t. t.inputs) view_transaction (take c.args.b.count c.args.b.transactions)))
