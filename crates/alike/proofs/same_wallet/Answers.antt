-- `==` of the pools, place by place.
use Rattle.std.proofs.Common.{refl, arith}
use Rattle.rules.specs.ChainLaws.{number_equal, reference_equal}
use Rattle.alike.specs.AlikeLaws.{same_payments, same_pools}
use Rattle.alike.proofs.same_wallet.Goals as goal

pub returns : goal.returns
returns c =
    same_pools c.args.w c.args.v c.eq.ensures (λ x y. refl) (λ x y. grind (arith, reference_equal x.entry.reference y.entry.reference))
    (λ x y. same_payments x y (number_equal x.transaction.number y.transaction.number) reference_equal (λ o p. grind arith))
