-- What a query hands back, from what its parts were worked out to be: 9 and nothing where the wallet is not sound.
use Rattle.std.specs.Prelude.{ℕ, ◌≡◌, refl, Bool, true, false, cond, [], T}
use Rattle.std.proofs.Common.{ap, ◌∙◌}
use Rattle.chain.specs.declared.Block.{Block}
use Rattle.flat.specs.Flat.{Made}
use Rattle.flat.specs.Flat.{made_of, block_of}
use Rattle.wallet.specs.declared.Amount.{Amount}
use Rattle.wallet.specs.declared.Listed.{Listed}
use Rattle.wallet.specs.declared.Pending.{Pending}

abbrev pub told_amount : Bool → ℕ → Amount
told_amount sound n = cond sound (record { answer = 0; amount = n }) (record { answer = 9; amount = 0 })

abbrev pub told_list : Bool → Made → Listed
told_list sound list = cond sound (record { answer = 0; list = list }) (record { answer = 9; list = made_of [] })

abbrev pub told_pending : Bool → Block → Pending
told_pending sound list = cond sound (record { answer = 0; list = list }) (record { answer = 9; list = block_of [] })

-- what is told of a list is told of the one that it was worked out to be, by the test that was asked
pub told_one : {A B : Type 0} (told : Bool → A → B) {r : B} {flag test : Bool} {list other : A} → r ≡ told flag list → flag ≡ test → list ≡ other → r ≡ told test other
told_one told e f g = e ∙ (λ i. told (f i) (g i))

same_where : (test : Bool) (n m : ℕ) → (T test → n ≡ m) → told_amount test n ≡ told_amount test m
same_where true n m f = ap (told_amount true) (f tt)
same_where false n m f = refl

-- an amount need be the right one only where the test holds
pub told_amount_one : {r : Amount} {flag : Bool} (test : Bool) {n m : ℕ} → r ≡ told_amount flag n → flag ≡ test → (T test → n ≡ m) → r ≡ told_amount test m
told_amount_one test {n} {m} e f g = e ∙ ap (λ (b : Bool). told_amount b n) f ∙ same_where test n m g

-- what a query hands back, from the answer and what is told with it
pub told_amount_from : (sound : Bool) (n : ℕ) (r : ℕ × ℕ) → r ≡ cond sound (0, n) (9, 0) → record { answer = r.0; amount = r.1 } ≡ told_amount sound n
told_amount_from true n r e = λ t. record { answer = (e t).0; amount = (e t).1 }
told_amount_from false n r e = λ t. record { answer = (e t).0; amount = (e t).1 }

pub told_list_from : (sound : Bool) (list : Made) (r : ℕ × Made) → r ≡ cond sound (0, list) (9, made_of []) → record { answer = r.0; list = r.1 } ≡ told_list sound list
told_list_from true list r e = λ t. record { answer = (e t).0; list = (e t).1 }
told_list_from false list r e = λ t. record { answer = (e t).0; list = (e t).1 }

pub told_pending_from : (sound : Bool) (list : Block) (r : ℕ × Block) → r ≡ cond sound (0, list) (9, block_of []) → record { answer = r.0; list = r.1 } ≡ told_pending sound list
told_pending_from true list r e = λ t. record { answer = (e t).0; list = (e t).1 }
told_pending_from false list r e = λ t. record { answer = (e t).0; list = (e t).1 }
