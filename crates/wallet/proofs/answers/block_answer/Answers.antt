-- A block, before its room is known, is refused as the paper says: one guard after another.
use Rattle.std.proofs.Common.{◌≡◌, ◌||◌, ◌∙◌, not, sym}
use Rattle.chain.specs.View.{good_block}
use Rattle.pool.specs.Good.{good}
use Rattle.wallet.specs.Answers.{unspent_made, outputs_agree, payments_agree, block_1, block_5, block_6, block_0}
use Rattle.wallet.specs.Found.{outputs_among, outputs_told}
use Rattle.wallet.specs.Flags.{held, failed}
use Rattle.wallet.proofs.answers.block_answer.Goals as goal

pub returns-then-not-good_block : goal.returns-then-not-good_block
returns-then-not-good_block c =
    let sound = held _ (good c.args.w) c.good_pool.ensures c.if-not-good_pool.false in
    sym (block_1 c.args.w c.args.b sound (failed _ (good_block c.args.b) c.good_block.ensures c.if-not-good_block.true))

pub returns-then-any_among : goal.returns-then-any_among
returns-then-any_among c =
    let sound = held _ (good c.args.w) c.good_pool.ensures c.if-not-good_pool.false in
    let shaped = held _ (good_block c.args.b) c.good_block.ensures c.if-not-good_block.false in
    let told : c.any_among.result ≡ unspent_made c.args.w c.args.b =
    c.any_among.ensures ∙ outputs_among c.args.w c.args.b _ _ c.made_of-made.ensures c.utxo_of.ensures in
    sym (block_5 c.args.w c.args.b sound shaped (held _ (unspent_made c.args.w c.args.b) told c.if-any_among.true))

pub returns-then-outputs_agree-payments_agree : goal.returns-then-outputs_agree-payments_agree
returns-then-outputs_agree-payments_agree c =
    let sound = held _ (good c.args.w) c.good_pool.ensures c.if-not-good_pool.false in
    let shaped = held _ (good_block c.args.b) c.good_block.ensures c.if-not-good_block.false in
    let told : c.any_among.result ≡ unspent_made c.args.w c.args.b =
    c.any_among.ensures ∙ outputs_among c.args.w c.args.b _ _ c.made_of-made.ensures c.utxo_of.ensures in
    let new = failed _ (unspent_made c.args.w c.args.b) told c.if-any_among.false in
    let outputs : c.outputs_agree.result ≡ outputs_agree c.args.w c.args.b =
    c.outputs_agree.ensures ∙ outputs_told c.args.w c.args.b _ sound c.made_of-made.ensures in
    let payments : c.payments_agree.result ≡ payments_agree c.args.w c.args.b = c.payments_agree.ensures in
    let fails = not (outputs_agree c.args.w c.args.b) || not (payments_agree c.args.w c.args.b) in
    let either : (not c.outputs_agree.result || not c.payments_agree.result) ≡ fails = λ i. not (outputs i) || not (payments i) in
    sym (block_6 c.args.w c.args.b sound shaped new (held _ fails either c.if-outputs_agree-payments_agree.true))

pub returns : goal.returns
returns c =
    let sound = held _ (good c.args.w) c.good_pool.ensures c.if-not-good_pool.false in
    let shaped = held _ (good_block c.args.b) c.good_block.ensures c.if-not-good_block.false in
    let told : c.any_among.result ≡ unspent_made c.args.w c.args.b =
    c.any_among.ensures ∙ outputs_among c.args.w c.args.b _ _ c.made_of-made.ensures c.utxo_of.ensures in
    let new = failed _ (unspent_made c.args.w c.args.b) told c.if-any_among.false in
    let outputs : c.outputs_agree.result ≡ outputs_agree c.args.w c.args.b =
    c.outputs_agree.ensures ∙ outputs_told c.args.w c.args.b _ sound c.made_of-made.ensures in
    let payments : c.payments_agree.result ≡ payments_agree c.args.w c.args.b = c.payments_agree.ensures in
    let fails = not (outputs_agree c.args.w c.args.b) || not (payments_agree c.args.w c.args.b) in
    let either : (not c.outputs_agree.result || not c.payments_agree.result) ≡ fails = λ i. not (outputs i) || not (payments i) in
    sym (block_0 c.args.w c.args.b sound shaped new (failed _ fails either c.if-outputs_agree-payments_agree.false))
