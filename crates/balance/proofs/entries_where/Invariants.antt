use Rattle.std.proofs.Common.{Bool, Bor, ◌≡◌, map, take}
use Rattle.std.specs.Fn.{AnyResult}
use Rattle.sets.specs.Sets.{keep}
use Rattle.pool.specs.declared.Held.{Held}
use Rattle.flat.specs.Flat.{made_of}
use Rattle.balance.proofs.entries_where.Given as goal

abbrev pub invariant-loop-held : goal.invariant-loop-held
invariant-loop-held g l =
    (p : Held → Bool) → ((h : Bor Held) → AnyResult g.F.Fn l.keeps (h, tt) (λ b. b ≡ p h.now)) →
    l.kept ≡ made_of (map (λ h. h.entry) (keep p (take l.held-index l.held-items)))
