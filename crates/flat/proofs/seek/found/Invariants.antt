use Rattle.std.proofs.Common.{◌≡◌, map, take, ltb}
use Rattle.flat.specs.Flat.{found_of}
use Rattle.flat.proofs.seek.found.Given as goal

abbrev pub invariant-loop-place : goal.invariant-loop-place
invariant-loop-place l = l.found ≡ found_of (map (λ p. ltb p l.stop) (take l.place-index l.place-items))
