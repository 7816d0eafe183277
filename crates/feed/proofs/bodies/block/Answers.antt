-- A block: its count and its transactions.
use Rattle.std.proofs.Common.{◌≡◌, Err, ap, ◌∙◌, rules}
use Rattle.feed.specs.Answers.{field_read}
use Rattle.feed.specs.Structs.{struct_reader}
use Rattle.feed.specs.Whole.{block_formed}
use Rattle.feed.proofs.bodies.block.Goals as goal

pub returns-in_err-transactions : goal.returns-in_err-transactions
returns-in_err-transactions c =
    let e : c.from_residual.result ≡ Err c.in_err-transactions.field-0.0 = search rules in
    ap field_read e
    ∙ block_formed _ c.args.bytes.now _ c.zero_transaction.ensures (c.in_err-transactions.ensures struct_reader (λ at last r p. search rules))

pub returns : goal.returns
returns c =
    block_formed _ c.args.bytes.now _ c.zero_transaction.ensures (c.in_ok-transactions.ensures struct_reader (λ at last r p. search rules))
