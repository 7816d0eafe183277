-- Every wallet that comes of an opening and any calls is sound.
use Rattle.std.specs.Prelude.{◌≡◌, refl, true, false, cond, List, [], ◌∷◌, ℕ, zero, suc, T, pos}
use Rattle.std.proofs.Common.{sym, subst, arith}
use Rattle.sets.specs.Tests.{and_both}
use Rattle.rules.specs.Chain.{shaped_own}
use Rattle.rules.specs.States.{Wallet, opened}
use Rattle.rules.specs.Sound.{too_many, within_sizes, sets_in_order, sound}
use Rattle.rules.specs.Steps.{Step, opening}
use Rattle.rules.specs.Calls.{Call, block_call, pay_call, back_call, step, after}
use Rattle.soundness.specs.Refused.{refused_unchanged, accepted_block, accepted_payment, accepted_rollback, block_accepted, payment_accepted, rollback_accepted}
use Rattle.soundness.specs.Payment.{payment_sound}
use Rattle.soundness.specs.BlockKept.{block_sound}
use Rattle.soundness.specs.RollbackKept.{rollback_sound}

opened_sound : (own : List ℕ) → T (shaped_own own) → T (sound (opened own))
unfolding sound within_sizes sets_in_order too_many
opened_sound own t = and_both (shaped_own own) true t tt

none_shaped : T (shaped_own [])
unfolding shaped_own
none_shaped = tt

-- an opening, refused or not, gives a sound wallet
pub opening_sound : (own : List ℕ) → T (sound (opening own).wallet)
unfolding opening
opening_sound own =
    (elim (shaped_own own) as
    (λ b.
    (T b → T (shaped_own own)) →
    T (sound (cond {A = Step} b (record { wallet = opened own; answer = 0; movement = pos 0 }) (record { wallet = opened []; answer = 1; movement = pos 0 })).wallet)) [
      | true ↦ λ (k : Unit {0} → T (shaped_own own)). opened_sound own (k tt)
      | false ↦ λ (k : ⊥ → T (shaped_own own)). opened_sound [] none_shaped
    ])
    (λ t. t)

accepted_sound : (w : Wallet) (c : Call) → (step w c).answer ≡ 0 → T (sound (step w c).wallet)
accepted_sound w (block_call b) e =
    subst (λ (s : Step). T (sound s.wallet)) (sym (accepted_block w b e)) (block_sound w b (block_accepted w b e))
accepted_sound w (pay_call p) e =
    subst (λ (s : Step). T (sound s.wallet)) (sym (accepted_payment w p e)) (payment_sound w p (payment_accepted w p e))
accepted_sound w back_call e =
    subst (λ (s : Step). T (sound s.wallet)) (sym (accepted_rollback w e)) (rollback_sound w (rollback_accepted w e).sound_before)

-- every step, accepted or refused, keeps a wallet sound
pub step_sound : (w : Wallet) (c : Call) → T (sound w) → T (sound (step w c).wallet)
step_sound w c t = go (step w c).answer refl
  where
    go : (n : ℕ) → (step w c).answer ≡ n → T (sound (step w c).wallet)
    go zero e = accepted_sound w c e
    go (suc n) e = subst (λ (v : Wallet). T (sound v)) (sym (refused_unchanged w c (λ (z : (step w c).answer ≡ 0). omega (arith, e, z))).0) t

-- so does any sequence of calls
pub calls_sound : (w : Wallet) (calls : List Call) → T (sound w) → T (sound (after w calls))
calls_sound w [] t = t
calls_sound w (c ∷ l) t = calls_sound (step w c).wallet l (step_sound w c t)

-- after an opening and any calls the wallet is sound
pub after_sound : (own : List ℕ) (calls : List Call) → T (sound (after (opening own).wallet calls))
after_sound own calls = calls_sound (opening own).wallet calls (opening_sound own)
