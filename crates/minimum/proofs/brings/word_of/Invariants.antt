-- Invariant: the word is that of the payments so far, from the last.
use Rattle.std.proofs.Common.{◌≡◌, ◌-◌, Bool, drop, length}
use Rattle.sets.specs.Words.{word_of}
use Rattle.minimum.specs.Bringing.{Roomy}
use Rattle.minimum.proofs.brings.word_of.Given as goal

abbrev pub invariant-loop-payment : goal.invariant-loop-payment
invariant-loop-payment g l =
    Roomy (length l.fn.payments) l.word (length l.fn.payments - length l.yielded)
    × ((p : _ → Bool) → ((x : _) (b : Bool) → goal.F-post g l.test x b → b ≡ p x.now)
    → l.word ≡ word_of p (drop (length l.fn.payments - length l.yielded) l.fn.payments))
