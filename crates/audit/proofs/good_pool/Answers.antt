-- The code tells a sound wallet struct: its entries, its payments and the payments' outputs, one after another.
use Rattle.std.proofs.Common.{◌≡◌, ◌∙◌, ap, map, rules, arith}
use mathlib.Core.List.{List, map-map}
use Rattle.sets.specs.Sets.{all}
use Rattle.sets.specs.Fill.{mapped_length}
use Rattle.rules.specs.declared.Entry.{Entry}
use Rattle.rules.specs.Chain.{made}
use Rattle.chain.specs.declared.Block.{Block}
use Rattle.chain.specs.View.{view_transaction, view_block}
use Rattle.pool.specs.declared.Payment.{Payment}
use Rattle.pool.specs.View.{entries_of, payments_of}
use Rattle.flat.specs.Told.{block_back, made_back}
use Rattle.flat.specs.Flat.{Made, block_of, made_of, made_in}
use Rattle.audit.specs.Audit.{agrees_first}
use Rattle.audit.specs.AuditLaws.{parts_good}
use Rattle.audit.proofs.good_pool.Goals as goal

-- what the payments make, laid flat and read back
payments-made :
    (ps : List Payment) (block : Block) (m : Made) →
    block ≡ block_of (map (λ p. p.transaction) ps) → m ≡ made_of (made (view_block block)) →
    made_in m ≡ made (map (λ p. view_transaction p.transaction) ps)
payments-made ps block m eb em =
    ap made_in em
    ∙ made_back (made (view_block block))
    ∙ ap made
    (ap view_block eb
    ∙ block_back (map (λ p. p.transaction) ps)
    ∙ map-map view_transaction (λ (p : Payment). p.transaction) ps)

pub returns-then-payments_sound : goal.returns-then-payments_sound
returns-then-payments_sound c =
    let w = c.args.w in
    let parts = parts_good w (search (rules, mapped_length)) (search (rules, mapped_length)) (search (rules, mapped_length)) in
    let made =
    ap (all (λ (o : Entry). agrees_first o (entries_of w)))
    (payments-made (payments_of w) _ _ c.payments_block.ensures c.made_of.ensures)
    in
    grind (arith, parts, made)

pub returns-else-payments_sound : goal.returns-else-payments_sound
returns-else-payments_sound c =
    let w = c.args.w in
    let parts = parts_good w (search (rules, mapped_length)) (search (rules, mapped_length)) (search (rules, mapped_length)) in
    grind (arith, parts)
