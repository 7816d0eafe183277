use Rattle.std.proofs.Common.{[], ◌∷◌, ◌++◌, ◌+◌, ◌*◌, ◌-◌, ◌≡◌, ◌<◌, ◌∙◌, ap, arith, drop, get_or, length, length-append, subst, sym, ℕ}
use Rattle.std.proofs.lemmas.List.{get_or-reverse, length-reverse}
use Rattle.std.proofs.lemmas.Iterator.Adapters.{YieldsList-from_rev_slice}
use Rattle.std.proofs.lemmas.Iterator.Consumers.{YieldsList-turn}
use Rattle.sets.specs.Words.{bit, word_of}
use Rattle.minimum.specs.Bringing.{Roomy, roomy_turn, word_more}
use Rattle.minimum.proofs.brings.word_of.Goals as goal

pub loop-payment-preserved : goal.loop-payment-preserved
loop-payment-preserved g c =
    let xs = c.args.payments.now in
    let n = length c.loop-payment.yielded in
    let turn =
    YieldsList-turn (YieldsList-from_rev_slice {s = c.into_iter-payment-iterator.result} xs (cc)) c.loop-payment.yielded _ c.loop-payment.yielded_by _ _
    c.in-Some.payment c.in-Some.is c.next.ensures.steps
    in
    let inside : n < length xs = omega (arith, turn.0, length-reverse xs) in
    let next : length xs - length (c.loop-payment.yielded ++ (c.in-Some.payment ∷ [])) ≡ length xs - n - 1 =
    omega (arith, length-append c.loop-payment.yielded (c.in-Some.payment ∷ []))
    in
    let place : length xs - 1 - n ≡ length xs - n - 1 = omega arith in
    let here = turn.1 ∙ get_or-reverse xs n c.in-Some.payment.now inside ∙ ap (λ (m : ℕ). get_or xs m c.in-Some.payment.now) place in (
      subst (λ (m : ℕ). Roomy (length xs) c.pushed-word.result m) {x = length xs - n - 1} (sym next)
          (subst (λ (w : ℕ). Roomy (length xs) w (length xs - n - 1)) {x = bit c.test.result + 2 * c.loop-payment.word} (sym c.pushed-word.ensures)
          (roomy_turn (length xs) c.loop-payment.word (length xs - n) c.test.result (omega (arith, inside)) c.loop-payment.invariant.0)),
      λ p h.
          word_more p xs (length xs - n) c.in-Some.payment.now c.loop-payment.word c.pushed-word.result c.test.result (omega (arith, inside)) c.loop-payment.invariant.0.0
          (c.loop-payment.invariant.1 p h) (h _ c.test.result c.test.ensures ∙ ap p here) c.pushed-word.ensures
          ∙ ap (λ (m : ℕ). word_of p (drop m xs)) (sym next),
    )
