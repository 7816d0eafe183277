-- The places of the default array are all zero.
use Rattle.std.proofs.Common.{rules, arith, ◌≡◌, ◌∙◌, ◌<◌, ℕ, List, sym, replicate}
use Rattle.std.specs.Array.{AllOfLen}
use Rattle.std.proofs.lemmas.List.{same_lists, length-replicate, get_or-replicate}
use Rattle.chain.specs.View.{zero_reference, zero_output}
use Rattle.chain.proofs.zero_transaction.Goals as goal

places : {A : Type 0} {P : A → Type 0} {n : ℕ} (l : List A) (z : A) → AllOfLen P l n → ((x : A) → P x → x ≡ z) → l ≡ replicate n z
places {n = n} l z h one =
    same_lists l (replicate n z) (h.long ∙ sym (length-replicate n z)) (λ i d k.
    let fits : i < n = omega (arith, k, h.long) in one _ (h.at i d fits) ∙ sym (get_or-replicate n i z d fits))

pub returns : goal.returns
returns c =
    let n = c.default.ensures.0 in
    let inputs = places c.default.result.inputs zero_reference c.default.ensures.1.0 (λ x h. search rules) in
    let takes = c.default.ensures.1.1.0 in
    let outputs = places c.default.result.outputs zero_output c.default.ensures.1.1.1.0 (λ x h. search rules) in
    let makes = c.default.ensures.1.1.1.1 in
    λ i. record { number = record { serial = n i }; inputs = inputs i; takes = takes i; outputs = outputs i; makes = makes i }
