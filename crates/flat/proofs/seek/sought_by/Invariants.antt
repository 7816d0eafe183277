use Rattle.std.proofs.Common.{◌≡◌, map, take, ℕ}
use Rattle.rules.specs.declared.Reference.{Reference}
use Rattle.flat.specs.Flat.{places_of}
use Rattle.flat.proofs.seek.sought_by.Given as goal

abbrev pub invariant-loop-r : goal.invariant-loop-r
invariant-loop-r g l =
    (f : Reference → ℕ) → ((x : _) (n : ℕ) → goal.F-post g l.place x n → n ≡ f x.now) →
    l.at ≡ places_of (map f (take l.r-index l.r-items))
