-- A transaction's inputs, then its outputs: the first fault decides; both together make the struct.
use Rattle.std.proofs.Common.{◌≡◌, Err, refl, ap, ◌∙◌, rules}
use Rattle.feed.specs.Answers.{field_read}
use Rattle.feed.specs.Structs.{read_lists}
use Rattle.feed.specs.Held.{reading_got, reading_fault}
use Rattle.feed.specs.Transactions.{lists_read}
use Rattle.feed.proofs.transactions.read_lists.Goals as goal

pub returns-in_err-at : goal.returns-in_err-at
unfolding read_lists
returns-in_err-at c =
    let e : c.from_residual.result ≡ Err c.in_err-at.field-0.0 = search rules in
    ap field_read e ∙ rw (reading_fault _ _ _ _ _ c.read_inputs-answer.ensures c.in_err-at.was) refl

pub returns-in_err-next : goal.returns-in_err-next
unfolding read_lists
returns-in_err-next c =
    let e : c.from_residual-in_err-next.result ≡ Err c.in_err-next.field-0.0 = search rules in
    let ins = reading_got _ _ _ _ _ c.read_inputs-answer.ensures c.in_ok-at.was in
    ap field_read e ∙ rw (ins.1, reading_fault _ _ _ _ _ c.read_outputs-answer.ensures c.in_err-next.was) refl

pub returns : goal.returns
returns c =
    let ins = reading_got _ _ _ _ _ c.read_inputs-answer.ensures c.in_ok-at.was in
    let outs = reading_got _ _ _ _ _ c.read_outputs-answer.ensures c.in_ok-next.was in
    lists_read c.args.number c.args.takes c.args.makes c.args.bytes.now c.args.place _ _ _ _ _ _ ins.1 ins.2 outs.1 outs.2
