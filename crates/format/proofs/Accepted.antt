-- A step never answers 1 to a body that was read: the rules find it shaped.
use Rattle.std.specs.Prelude.{◌≡◌, not, List, [], ◌∷◌, ℕ, T, pos}
use Rattle.std.proofs.Common.{sym, ap, ◌∙◌, ⊎_elim, arith, T_not}
use Rattle.sets.specs.Tests.{T-cases, cond_true}
use Rattle.rules.specs.Chain.{Transaction, Block, shaped_transaction, shaped_block, shaped_own}
use Rattle.rules.specs.States.{Wallet, opened, after_block, after_payment}
use Rattle.rules.specs.Steps.{Refusal, answer_of, Step, payment_refusals, block_refusals, pay, block, opening}
use Rattle.rules.specs.StepLaws.{given_first, given_later, answer_of_step}
use Rattle.rules.specs.Reading.{All}
use Rattle.format.specs.Bodies.{own_body, block_body, pay_body, read_body}
use Rattle.format.proofs.WrittenRead.{own_shaped, block_shaped, payment_shaped}

-- where no refusal that is given has the number 1, the answer is not 1
not_1 : (l : List Refusal) → All (λ r. T r.given → r.number ≡ 1 → ⊥) l → answer_of l ≡ 1 → ⊥
not_1 [] f e = omega arith
not_1 (r ∷ l) f e =
    ⊎_elim
    (λ (t : T r.given). f.0 t (sym (given_first r.number r.given l t) ∙ e))
    (λ (t : T (not r.given)). not_1 l f.1 (sym (given_later r.number r.given l t) ∙ e))
    (T-cases r.given)

-- A block that was read is not refused with 1.
pub block_not_1 : (kind : ℕ) (bytes : List ℕ) (b : Block) (w : Wallet) → read_body kind bytes ≡ block_body b → (block w b).answer ≡ 1 → ⊥
unfolding block block_refusals
block_not_1 kind bytes b w e h =
    not_1 (block_refusals w b)
    ((λ t n. omega arith), ((λ t n. T_not (shaped_block b) t (block_shaped kind bytes b e)), ((λ t n. omega arith), ((λ t n. omega arith), ((λ t n. omega arith), tt)))))
    (sym (answer_of_step (answer_of (block_refusals w b)) w (after_block w b)) ∙ h)

-- A payment that was read is not refused with 1.
pub payment_not_1 : (kind : ℕ) (bytes : List ℕ) (t : Transaction) (w : Wallet) → read_body kind bytes ≡ pay_body t → (pay w t).answer ≡ 1 → ⊥
unfolding pay payment_refusals
payment_not_1 kind bytes t w e h =
    not_1 (payment_refusals w t)
    ((λ u n. omega arith), ((λ u n. T_not (shaped_transaction t) u (payment_shaped kind bytes t e)), ((λ u n. omega arith), ((λ u n. omega arith), ((λ u n. omega arith), ((λ u n. omega arith), tt))))))
    (sym (answer_of_step (answer_of (payment_refusals w t)) w (after_payment w t)) ∙ h)

-- An own list that was read opens a wallet.
pub own_opens : (kind : ℕ) (bytes own : List ℕ) → read_body kind bytes ≡ own_body own → (opening own).answer ≡ 0
unfolding opening
own_opens kind bytes own e =
    ap (λ (s : Step). s.answer)
    (cond_true (shaped_own own) (record { wallet = opened own; answer = 0; movement = pos 0 }) (record { wallet = opened []; answer = 1; movement = pos 0 })
    (own_shaped kind bytes own e))
