-- A payment is refused as the paper says: one guard after another.
use Rattle.std.proofs.Common.{◌≡◌, ◌≤◌, ◌<◌, ◌∙◌, arith, ap, map, not, subst, sym, sum_by, length, List, T}
use Rattle.rules.specs.Chain.{same_reference}
use Rattle.rules.specs.declared.Entry.{Entry}
use Rattle.rules.specs.declared.Output.{Output}
use Rattle.rules.specs.declared.Reference.{Reference}
use Rattle.chain.specs.View.{good_transaction}
use Rattle.pool.specs.Good.{good}
use Rattle.flat.specs.Flat.{made_in}
use Rattle.sets.specs.Sets.{all, has, keep}
use Rattle.balance.specs.Worth.{worth_within}
use Rattle.wallet.specs.Answers.{number_used, inputs_free, paid_in, paid_out, pay_9, pay_1, pay_2, pay_3, pay_4, pay_7, pay_0}
use Rattle.wallet.specs.Found.{inputs_among, inputs_worth, outputs_sum, outputs_small}
use Rattle.wallet.specs.Flags.{held, failed}
use Rattle.wallet.proofs.answers.pay_answer.Goals as goal

pub returns-then-not-good_transaction : goal.returns-then-not-good_transaction
returns-then-not-good_transaction c =
    let sound = held _ (good c.args.w) c.good_pool.ensures c.if-not-good_pool.false in
    sym (pay_1 c.args.w c.args.t sound (failed _ (good_transaction c.args.t) c.good_transaction.ensures c.if-not-good_transaction.true))

pub returns-then-number_used : goal.returns-then-number_used
returns-then-number_used c =
    let sound = held _ (good c.args.w) c.good_pool.ensures c.if-not-good_pool.false in
    let shaped = held _ (good_transaction c.args.t) c.good_transaction.ensures c.if-not-good_transaction.false in
    sym (pay_2 c.args.w c.args.t sound shaped (held _ (number_used c.args.w c.args.t.number) c.number_used.ensures c.if-number_used.true))

pub returns-then-not-all_among : goal.returns-then-not-all_among
returns-then-not-all_among c =
    let sound = held _ (good c.args.w) c.good_pool.ensures c.if-not-good_pool.false in
    let shaped = held _ (good_transaction c.args.t) c.good_transaction.ensures c.if-not-good_transaction.false in
    let fresh = failed _ (number_used c.args.w c.args.t.number) c.number_used.ensures c.if-number_used.false in
    let stand : c.all_among.result ≡ inputs_free c.args.w c.args.t =
    c.all_among.ensures
    ∙ ap (all (λ i. has same_reference i (map (λ (e : Entry). e.reference) (made_in c.available_of-free.result)))) c.inputs.ensures.inputs
    ∙ inputs_among c.args.w c.args.t _ c.available_of-free.ensures in
    sym (pay_3 c.args.w c.args.t sound shaped fresh (failed _ (inputs_free c.args.w c.args.t) stand c.if-not-all_among.true))

pub paid_out-requires : goal.paid_out-requires
paid_out-requires c =
    let shaped = held _ (good_transaction c.args.t) c.good_transaction.ensures c.if-not-good_transaction.false in
    let e = c.outputs.ensures.outputs in
    omega (arith, ap (sum_by (λ (o : Output). o.amount)) e, outputs_small c.args.t shaped (omega (arith, c.outputs.ensures.most, ap length e)))

pub returns-then-worth_taken-paid_out : goal.returns-then-worth_taken-paid_out
returns-then-worth_taken-paid_out c =
    let sound = held _ (good c.args.w) c.good_pool.ensures c.if-not-good_pool.false in
    let shaped = held _ (good_transaction c.args.t) c.good_transaction.ensures c.if-not-good_transaction.false in
    let fresh = failed _ (number_used c.args.w c.args.t.number) c.number_used.ensures c.if-number_used.false in
    let stand : c.all_among.result ≡ inputs_free c.args.w c.args.t =
    c.all_among.ensures
    ∙ ap (all (λ i. has same_reference i (map (λ (e : Entry). e.reference) (made_in c.available_of-free.result)))) c.inputs.ensures.inputs
    ∙ inputs_among c.args.w c.args.t _ c.available_of-free.ensures in
    let there = held _ (inputs_free c.args.w c.args.t) stand c.if-not-all_among.false in
    let out : c.paid_out.result ≡ paid_out c.args.t =
    c.paid_out.ensures ∙ ap (sum_by (λ (o : Output). o.amount)) c.outputs.ensures.outputs ∙ outputs_sum c.args.t in
    let worth : c.worth_taken.result ≡ paid_in c.args.w c.args.t =
    c.worth_taken.ensures
    ∙ ap (λ (l : List Reference). worth_within (keep (λ (e : Entry). has same_reference e.reference l) (made_in c.available_of-free.result)))
    c.inputs-2.ensures.inputs
    ∙ inputs_worth c.args.w c.args.t _ sound c.available_of-free.ensures in
    sym (pay_4 c.args.w c.args.t sound shaped fresh there (omega (arith, c.if-worth_taken-paid_out.true, out, worth)))

pub returns-then-w-ge-MOST_PAYMENTS : goal.returns-then-w-ge-MOST_PAYMENTS
returns-then-w-ge-MOST_PAYMENTS c =
    let sound = held _ (good c.args.w) c.good_pool.ensures c.if-not-good_pool.false in
    let shaped = held _ (good_transaction c.args.t) c.good_transaction.ensures c.if-not-good_transaction.false in
    let fresh = failed _ (number_used c.args.w c.args.t.number) c.number_used.ensures c.if-number_used.false in
    let stand : c.all_among.result ≡ inputs_free c.args.w c.args.t =
    c.all_among.ensures
    ∙ ap (all (λ i. has same_reference i (map (λ (e : Entry). e.reference) (made_in c.available_of-free.result)))) c.inputs.ensures.inputs
    ∙ inputs_among c.args.w c.args.t _ c.available_of-free.ensures in
    let there = held _ (inputs_free c.args.w c.args.t) stand c.if-not-all_among.false in
    let out : c.paid_out.result ≡ paid_out c.args.t =
    c.paid_out.ensures ∙ ap (sum_by (λ (o : Output). o.amount)) c.outputs.ensures.outputs ∙ outputs_sum c.args.t in
    let worth : c.worth_taken.result ≡ paid_in c.args.w c.args.t =
    c.worth_taken.ensures
    ∙ ap (λ (l : List Reference). worth_within (keep (λ (e : Entry). has same_reference e.reference l) (made_in c.available_of-free.result)))
    c.inputs-2.ensures.inputs
    ∙ inputs_worth c.args.w c.args.t _ sound c.available_of-free.ensures in
    sym (pay_7 c.args.w c.args.t sound shaped fresh there (omega (arith, c.if-worth_taken-paid_out.false, out, worth)) c.if-w-ge-MOST_PAYMENTS.true)

pub returns : goal.returns
returns c =
    let sound = held _ (good c.args.w) c.good_pool.ensures c.if-not-good_pool.false in
    let shaped = held _ (good_transaction c.args.t) c.good_transaction.ensures c.if-not-good_transaction.false in
    let fresh = failed _ (number_used c.args.w c.args.t.number) c.number_used.ensures c.if-number_used.false in
    let stand : c.all_among.result ≡ inputs_free c.args.w c.args.t =
    c.all_among.ensures
    ∙ ap (all (λ i. has same_reference i (map (λ (e : Entry). e.reference) (made_in c.available_of-free.result)))) c.inputs.ensures.inputs
    ∙ inputs_among c.args.w c.args.t _ c.available_of-free.ensures in
    let there = held _ (inputs_free c.args.w c.args.t) stand c.if-not-all_among.false in
    let out : c.paid_out.result ≡ paid_out c.args.t =
    c.paid_out.ensures ∙ ap (sum_by (λ (o : Output). o.amount)) c.outputs.ensures.outputs ∙ outputs_sum c.args.t in
    let worth : c.worth_taken.result ≡ paid_in c.args.w c.args.t =
    c.worth_taken.ensures
    ∙ ap (λ (l : List Reference). worth_within (keep (λ (e : Entry). has same_reference e.reference l) (made_in c.available_of-free.result)))
    c.inputs-2.ensures.inputs
    ∙ inputs_worth c.args.w c.args.t _ sound c.available_of-free.ensures in
    sym (pay_0 c.args.w c.args.t sound shaped fresh there (omega (arith, c.if-worth_taken-paid_out.false, out, worth)) c.if-w-ge-MOST_PAYMENTS.false)
