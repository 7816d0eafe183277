use Rattle.std.proofs.Common.{◌∙◌, ◌≡◌, List, ap, rules}
use Rattle.rules.specs.declared.Entry.{Entry}
use Rattle.rules.specs.States.{without_references}
use Rattle.pool.specs.View.{entries_of, utxo_at}
use Rattle.flat.specs.Flat.{made_in, made_of, refs_in}
use Rattle.flat.specs.Told.{made_back}
use Rattle.balance.proofs.untaken.Goals as goal

pub returns : goal.returns
returns c =
    let unspent : c.entries_where.result ≡ made_of (utxo_at 0 (entries_of c.args.w.now)) = search rules in
    c.without.ensures
    ∙ ap (λ (l : List Entry). made_of (without_references (refs_in c.args.taken) l))
    (ap made_in unspent ∙ made_back (utxo_at 0 (entries_of c.args.w.now)))
