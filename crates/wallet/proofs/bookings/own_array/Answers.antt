use Rattle.std.proofs.Common.{ℕ, List, [], ap, arith}
use Rattle.fixed.specs.declared.Filled.{Filled}
use Rattle.fixed.specs.Laws.{extend_more}
use Rattle.wallet.proofs.bookings.own_array.Goals as goal

pub returns : goal.returns
returns c =
    ap (λ (f : Filled ℕ 32). f.items)
    (extend_more 32 0 [] c.args.own.now _ _ c.none-list.ensures (omega (arith, c.requires)) c.extend.ensures)
