-- What the code looks at of a block, one test after another, is all that the definitions ask of a block whose array has
-- its places.
use Rattle.std.specs.Prelude.{◌≤◌, ◌≡◌, Bool, ◌&&◌, List, map, leb, length, take, drop}
use Rattle.std.proofs.Common.{sym, ap, ◌∙◌, arith}
use Rattle.std.proofs.lemmas.List.{length-take, length-map}
use Rattle.sets.specs.Sets.{all, ascending}
use Rattle.sets.specs.Walks.{all_both, ascending-map}
use Rattle.sets.specs.Maps.{all_map}
use Rattle.rules.specs.Sizes.{most_transactions}
use Rattle.rules.specs.Chain.{before_transaction, shaped_transaction, shaped_block}
use Rattle.chain.specs.View.{view_transaction, laid_out, no_transaction, laid_out_block, good_transaction, good_block, before_struct}
use Rattle.chain.specs.declared.Transaction.{Transaction}
use Rattle.chain.specs.declared.Block.{Block}

-- good transactions are laid out, and their views are shaped
all_good : (l : List Transaction) → all good_transaction l ≡ (all laid_out l && all shaped_transaction (map view_transaction l))
unfolding good_transaction
all_good l =
    all_both laid_out (λ t. shaped_transaction (view_transaction t)) l
    ∙ ap (λ (b : Bool). all laid_out l && b) (sym (all_map shaped_transaction view_transaction l))

pub good_block_tests :
    (b : Block) → length b.transactions ≡ most_transactions →
    ((leb b.count (length b.transactions) && all no_transaction (drop b.count b.transactions))
    && (all good_transaction (take b.count b.transactions) && ascending before_struct (take b.count b.transactions))) ≡ good_block b
unfolding good_block laid_out_block shaped_block
good_block_tests b places =
    let some = take b.count b.transactions in
    let good = all_good some in
    let rise = ascending-map view_transaction before_transaction some in
    let fits : length (map view_transaction some) ≤ most_transactions = omega (arith, places, length-map some view_transaction, length-take b.count b.transactions) in
    grind (arith, places, good, rise, fits)
