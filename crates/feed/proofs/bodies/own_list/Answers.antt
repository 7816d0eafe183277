-- An own list: its count and its addresses.
use Rattle.std.proofs.Common.{◌≡◌, Err, ap, ◌∙◌, rules}
use Rattle.format.specs.Bodies.{read_address}
use Rattle.feed.specs.Answers.{field_read}
use Rattle.feed.specs.Whole.{own_formed}
use Rattle.feed.proofs.bodies.own_list.Goals as goal

pub returns-in_err-addresses : goal.returns-in_err-addresses
returns-in_err-addresses c =
    let e : c.from_residual.result ≡ Err c.in_err-addresses.field-0.0 = search rules in
    ap field_read e ∙ own_formed c.args.bytes.now _ (c.in_err-addresses.ensures read_address (λ at last r p. search rules))

pub returns : goal.returns
returns c = own_formed c.args.bytes.now _ (c.in_ok-addresses.ensures read_address (λ at last r p. search rules))
