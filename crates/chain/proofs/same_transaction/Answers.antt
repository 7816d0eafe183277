-- The derived sameness is the sameness of structs, field by field.
use Rattle.std.proofs.Common.{arith}
use Rattle.rules.specs.ChainLaws.{number_equal, reference_equal}
use Rattle.chain.specs.ViewLaws.{same_fields}
use Rattle.chain.proofs.same_transaction.Goals as goal

pub returns : goal.returns
returns c = same_fields c.args.t c.args.u c.eq.ensures (number_equal c.args.t.number c.args.u.number) reference_equal (λ x y. grind arith)
