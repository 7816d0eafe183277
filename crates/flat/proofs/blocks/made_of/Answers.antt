use Rattle.std.proofs.Common.{rules, ◌∙◌, ap, sym, take, arith, refl}
use Rattle.sets.specs.Fill.{gather-map}
use Rattle.rules.specs.Chain.{makes}
use Rattle.chain.specs.View.{view_transaction}
use Rattle.fixed.specs.Laws.{gather_none, gather_extended, all_gathered}
use Rattle.flat.specs.Flat.{made_of, zero_entry}
use Rattle.flat.specs.Slots.{entries_of}
use Rattle.flat.proofs.blocks.made_of.Goals as goal

pub loop-transaction-init : goal.loop-transaction-init
loop-transaction-init c = gather_none 128 zero_entry 8 entries_of _ _ (search rules)

pub loop-transaction-preserved : goal.loop-transaction-preserved
loop-transaction-preserved c =
    let list = c.transactions-transaction-items.result.now in
    gather_extended 128 zero_entry 8 entries_of list c.loop-transaction.transaction-index _ _ _ _ c.loop-transaction.invariant
    c.loop-transaction-test.true (omega (arith, c.transactions-transaction-items.ensures.most)) refl c.push_made.ensures.most
    c.push_made.ensures.entries

pub returns : goal.returns
returns c =
    all_gathered 128 zero_entry 8 entries_of _ _ _ _ c.loop-transaction.invariant c.loop-transaction-test.false
    c.transactions-transaction-items.ensures.transactions
    ∙ ap made_of (sym (gather-map makes view_transaction (take c.args.b.count c.args.b.transactions)))
