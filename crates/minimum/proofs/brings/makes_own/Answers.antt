use Rattle.std.proofs.Common.{◌∙◌, ap, sym}
use Rattle.sets.specs.Sets.{any}
use Rattle.minimum.specs.Bringing.{maker_other, maker_same, own_index}
use Rattle.minimum.proofs.brings.makes_own.Goals as goal

pub returns-then-same_number : goal.returns-then-same_number
returns-then-same_number c =
    maker_same c.args.own.now c.args.reference c.args.t.now c.has_own.result (sym c.same_number.ensures ∙ c.if-same_number.true)
    (c.has_own.ensures ∙ ap (any (own_index c.args.own.now c.args.reference)) c.outputs.ensures.outputs)

pub returns-else-same_number : goal.returns-else-same_number
returns-else-same_number c =
    c.if-same_number.false
    ∙ maker_other c.args.own.now c.args.reference c.args.t.now (sym c.same_number.ensures ∙ c.if-same_number.false)
