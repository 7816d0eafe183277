use Rattle.std.proofs.Common.{[], arith, ◌∙◌, ap}
use Rattle.rules.specs.Sizes.{most_inputs}
use Rattle.fixed.specs.Filled.{filled_of}
use Rattle.fixed.specs.Laws.{extend_more}
use Rattle.minimum.specs.declared.takings.Input.{Input}
use Rattle.minimum.specs.Inputs.{no_input}
use Rattle.minimum.proofs.takings.taking_of.Goals as goal

pub returns : goal.returns
returns c =
    let places = extend_more most_inputs no_input [] c.args.inputs.now _ _ (c.none-places.ensures ∙ ap (λ (x : Input). filled_of most_inputs x []) c.no_input.ensures) (omega (arith, c.requires)) c.extend.ensures in
    λ k. record { number = c.args.number; inputs = places k }
