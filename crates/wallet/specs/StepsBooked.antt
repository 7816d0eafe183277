-- What the code's answer to a payment, a block and a rollback says before it books, and that the booked pool with its
-- movement is the rules' step.
use Rattle.std.specs.Prelude.{ℕ, suc, ◌≤◌, ◌<◌, ◌≡◌, refl, Bool, true, false, not, cond, ◌||◌, map, T, eqb, leb, ℤ, length}
use Rattle.std.proofs.Common.{arith, sym, ap, subst, ◌∙◌, ⊎_elim, eqb→eq, leb→le, le→leb}
use Rattle.std.proofs.Math.Dec.{not_T}
use Rattle.std.proofs.lemmas.List.{length-map}
use Rattle.sets.specs.Laws.{keep-length}
use Rattle.sets.specs.Tests.{T-cases, and_both, not_not, equal_holds, cond_true, cond_false, neqb→ne}
use Rattle.rules.specs.Sizes.{most_payments, most_references}
use Rattle.rules.specs.Chain as Chain
use Rattle.rules.specs.Chain.{spent, shaped_transaction, shaped_block}
use Rattle.rules.specs.States as States
use Rattle.rules.specs.States.{after_block, after_payment, after_rollback}
use Rattle.rules.specs.Sound.{too_many}
use Rattle.rules.specs.Steps as Steps
use Rattle.rules.specs.Steps.{answer_of, step_to, already_unspent, contradicts, payment_refusals, block_refusals, rollback_refusals}
use Rattle.rules.specs.Calls.{pay_call, back_call, step}
use Rattle.soundness.specs.Refused.{AcceptedBlock, payment_accepted, rollback_accepted, none_given}
use Rattle.chain.specs.declared.Transaction.{Transaction}
use Rattle.chain.specs.declared.Block.{Block}
use Rattle.chain.specs.View as ChainView
use Rattle.chain.specs.View.{good_transaction, laid_out_block, view_block, view_transaction}
use Rattle.pool.specs.declared.Pool.{Pool}
use Rattle.pool.specs.View.{view, payments_of}
use Rattle.pool.specs.Good.{good}
use Rattle.pool.specs.Book.{payment_marked, payment_after_block, payments_after_block, book_block, book_payment, book_rollback}
use Rattle.pool.specs.BlockEntries.{entries_booked, payments_booked}
use Rattle.pool.specs.Booked.{block_room, payment_room, block_good, payment_good, rollback_good}
use Rattle.pool.specs.LayoutLaws.{good_laid_out, good_layout, good_view, payments_counted}
use Rattle.pool.specs.RefusalLaws.{only_one_lem}
use Rattle.wallet.specs.declared.Wallet.{Wallet}
use Rattle.wallet.specs.declared.Step.{Step}
use Rattle.wallet.specs.Contract.{viewed, refused_step, Stepped}
use Rattle.wallet.specs.Answers.{pay_answer, block_tests, block_answer, back_answer, block_then_room}
use Rattle.wallet.specs.Moved.{moved}
use Rattle.wallet.specs.StepLaws.{answer_unsound, answer_broken, answer_own, answered_0, stepped_refused, stepped_accepted}

-- a step that is answered with 0
abbrev pub booked_step : Pool → ℤ → Step
booked_step p m = record { wallet = record { pool = p }; answer = 0; movement = m }

-- ── a payment

-- a payment answered with a refusal hands the wallet back, as the rules do
pub pay_refused :
    (w : Wallet) (t : Transaction) (a : ℕ) → a ≡ pay_answer w.pool t → (a ≡ 0 → ⊥) →
    Stepped w (ChainView.laid_out t) (Steps.pay (viewed w) (view_transaction t)) (refused_step w a)
unfolding Steps.pay
pay_refused w t a e h =
    stepped_refused w (ChainView.laid_out t) (answer_of (payment_refusals (viewed w) (view_transaction t))) (after_payment (viewed w) (view_transaction t)) a e h

-- what is known of a payment answered with 0
pub record Payable (w : Pool) (t : Transaction) : Type 0 where
  pub sound_before : T (good w)
  pub room : w.paying < most_payments
  pub shows : view (book_payment w t) ≡ after_payment (view w) (view_transaction t)
  pub sound_after : T (good (book_payment w t))

good_of : (t : Transaction) → T (ChainView.laid_out t) → T (shaped_transaction (view_transaction t)) → T (good_transaction t)
unfolding good_transaction
good_of t l s = and_both (ChainView.laid_out t) (shaped_transaction (view_transaction t)) l s

pay_answer_0 : (v : States.Wallet) (p : Chain.Transaction) → answer_of (payment_refusals v p) ≡ 0 → (step v (pay_call p)).answer ≡ 0
unfolding Steps.pay
pay_answer_0 v p e = ap (λ (n : ℕ). (step_to n v (after_payment v p)).answer) e

-- the answer 0 tells all of this
pub payable : (w : Pool) (t : Transaction) → pay_answer w t ≡ 0 → Payable w t
payable w t e =
    let f = answered_0 (record { pool = w }) (ChainView.laid_out t) (answer_of (payment_refusals (view w) (view_transaction t))) e in
    let k = payment_accepted (view w) (view_transaction t) (pay_answer_0 (view w) (view_transaction t) f.2) in
    let s : T (good_transaction t) = good_of t f.1 k.shaped in
    let b = payment_good w f.0 t s k in
    record {
      sound_before = f.0;
      room =
          leb→le (suc w.paying) most_payments
          (not_not (leb (suc w.paying) most_payments)
          (subst (λ (c : Bool). T (not c)) (payment_room w f.0 t s k.number_new) k.room));
      shows = b.0;
      sound_after = b.1;
    }

-- a payment answered with 0 and booked is the rules' payment
pub pay_booked :
    (w : Wallet) (t : Transaction) (p : Pool) (m : ℤ) → pay_answer w.pool t ≡ 0 → p ≡ book_payment w.pool t →
    m ≡ moved w.pool p → Stepped w (ChainView.laid_out t) (Steps.pay (viewed w) (view_transaction t)) (booked_step p m)
unfolding Steps.pay
pay_booked w t p m e b d =
    let k = payable w.pool t e in
    stepped_accepted w (ChainView.laid_out t) (answer_of (payment_refusals (viewed w) (view_transaction t))) (after_payment (viewed w) (view_transaction t)) p m e
    (good_laid_out p (subst (λ (q : Pool). T (good q)) (sym b) k.sound_after))
    (ap view b ∙ k.shows)
    d

-- ── a rollback

-- a rollback answered with a refusal hands the wallet back, as the rules do
pub back_refused : (w : Wallet) (a : ℕ) → a ≡ back_answer w.pool → (a ≡ 0 → ⊥) → Stepped w true (Steps.roll_back (viewed w)) (refused_step w a)
unfolding Steps.roll_back
back_refused w a e h = stepped_refused w true (answer_of (rollback_refusals (viewed w))) (after_rollback (viewed w)) a e h

-- what is known of a rollback answered with 0
pub record Returnable (w : Pool) : Type 0 where
  pub sound_before : T (good w)
  pub some_below : 0 < w.below
  pub shows : view (book_rollback w) ≡ after_rollback (view w)
  pub sound_after : T (good (book_rollback w))

back_answer_0 : (v : States.Wallet) → answer_of (rollback_refusals v) ≡ 0 → (step v back_call).answer ≡ 0
unfolding Steps.roll_back
back_answer_0 v e = ap (λ (n : ℕ). (step_to n v (after_rollback v)).answer) e

-- the answer 0 tells all of this
pub returnable : (w : Pool) → back_answer w ≡ 0 → Returnable w
returnable w e =
    let f = answered_0 (record { pool = w }) true (answer_of (rollback_refusals (view w))) e in
    let k = rollback_accepted (view w) (back_answer_0 (view w) f.2) in
    let b = rollback_good w f.0 k in
    record {
      sound_before = f.0;
      some_below = omega (arith, neqb→ne w.below 0 (subst (λ (c : Bool). T (not c)) (only_one_lem w) k.more_than_one));
      shows = b.0;
      sound_after = b.1;
    }

-- a rollback answered with 0 and booked is the rules' rollback
pub back_booked :
    (w : Wallet) (p : Pool) (m : ℤ) → back_answer w.pool ≡ 0 → p ≡ book_rollback w.pool → m ≡ moved w.pool p →
    Stepped w true (Steps.roll_back (viewed w)) (booked_step p m)
unfolding Steps.roll_back
back_booked w p m e b d =
    let k = returnable w.pool e in
    stepped_accepted w true (answer_of (rollback_refusals (viewed w))) (after_rollback (viewed w)) p m e
    (good_laid_out p (subst (λ (q : Pool). T (good q)) (sym b) k.sound_after))
    (ap view b ∙ k.shows)
    d

-- ── a block

-- none of the tests refuses a block answered with 0
pub record Tested (w : Pool) (b : Block) : Type 0 where
  pub sound_before : T (good w)
  pub laid : T (laid_out_block b)
  pub shaped : T (shaped_block (view_block b))
  pub made_new : T (not (already_unspent (view w).present (view_block b)))
  pub consistent : T (not (contradicts (view w) (view_block b)))

-- the answer 0 tells all of this
pub tested : (w : Pool) (b : Block) → block_answer w b ≡ 0 → Tested w b
tested w b e =
    let f = answered_0 (record { pool = w }) (laid_out_block b) (answer_of (block_tests (view w) (view_block b))) e in
    let k = none_given (block_tests (view w) (view_block b)) tt f.2 in
    record {
      sound_before = f.0;
      laid = f.1;
      shaped = not_not (shaped_block (view_block b)) k.1.0;
      made_new = k.1.1.0;
      consistent = k.1.1.1.0;
    }

-- no payment is added by a block
few_payments : (w : Pool) (b : Chain.Block) → T (good w) → length (payments_booked w b) ≤ most_payments
unfolding payments_after_block
few_payments w b g =
    let f = good_layout w g in
    omega (
      arith,
      keep-length payment_marked (map (payment_after_block (spent b)) (payments_of w)),
      length-map (payments_of w) (payment_after_block (spent b)),
      payments_counted w f,
      f.few_payments,
    )

-- so a block that passed the tests lacks room exactly where its entries are too many
pub block_lacks_room : (w : Pool) (b : Block) → Tested w b → too_many (after_block (view w) (view_block b)) ≡ not (leb (length (entries_booked w (view_block b))) most_references)
block_lacks_room w b k =
    block_room w (view_block b) k.sound_before k.shaped k.made_new k.consistent
    ∙ enough (leb (length (payments_booked w (view_block b))) most_payments) _
    (le→leb (length (payments_booked w (view_block b))) most_payments (few_payments w (view_block b) k.sound_before))
  where
    enough : (a c : Bool) → T a → (not a || c) ≡ c
    enough true c t = refl
    enough false c t = absurd t

-- the rules' answer to a block: that of the tests, and then the question of room
rule_refused : (w : Pool) (b : Block) → T (good w) → T (laid_out_block b) → (block_answer w b ≡ 0 → ⊥) → answer_of (block_refusals (view w) (view_block b)) ≡ block_answer w b
rule_refused w b g l h =
    block_then_room w b g l
    ∙ cond_false (eqb (block_answer w b) 0) _ (block_answer w b)
    (not_T (eqb (block_answer w b) 0) (λ (t : T (eqb (block_answer w b) 0)). h (eqb→eq (block_answer w b) 0 t)))

rule_room : (w : Pool) (b : Block) → block_answer w b ≡ 0 → answer_of (block_refusals (view w) (view_block b)) ≡ cond (leb (length (entries_booked w (view_block b))) most_references) 0 7
rule_room w b e =
    let k = tested w b e in
    block_then_room w b k.sound_before k.laid
    ∙ cond_true (eqb (block_answer w b) 0) _ (block_answer w b) (equal_holds (block_answer w b) 0 e)
    ∙ ap (λ (c : Bool). cond c 7 0) (block_lacks_room w b k)
    ∙ turned (leb (length (entries_booked w (view_block b))) most_references)
  where
    turned : (c : Bool) → cond {A = ℕ} (not c) 7 0 ≡ cond c 0 7
    turned true = refl
    turned false = refl

-- a block refused by the tests
pub block_refused :
    (w : Wallet) (b : Block) (a : ℕ) → a ≡ block_answer w.pool b → (a ≡ 0 → ⊥) →
    Stepped w (laid_out_block b) (Steps.block (viewed w) (view_block b)) (refused_step w a)
unfolding Steps.block
block_refused w b a e h =
    stepped_refused w laid rule (after_block (viewed w) (view_block b)) a
    (e
    ∙ ⊎_elim
    (λ (g : T (good w.pool)).
    ⊎_elim
    (λ (l : T laid).
    sym (answer_own w laid rule g l ∙ rule_refused w.pool b g l (λ (z : block_answer w.pool b ≡ 0). h (e ∙ z))))
    (λ (l : T (not laid)). answer_broken w laid tests g l ∙ sym (answer_broken w laid rule g l))
    (T-cases laid))
    (λ (g : T (not (good w.pool))). answer_unsound w laid tests g ∙ sym (answer_unsound w laid rule g))
    (T-cases (good w.pool)))
    h
  where
    laid : Bool
    laid = laid_out_block b

    tests : ℕ
    tests = answer_of (block_tests (viewed w) (view_block b))

    rule : ℕ
    rule = answer_of (block_refusals (viewed w) (view_block b))

-- a block that the tests let through, and for which there is no room
pub block_without_room :
    (w : Wallet) (b : Block) → block_answer w.pool b ≡ 0 → leb (length (entries_booked w.pool (view_block b))) most_references ≡ false →
    Stepped w (laid_out_block b) (Steps.block (viewed w) (view_block b)) (refused_step w 7)
unfolding Steps.block
block_without_room w b e f =
    let k = tested w.pool b e in
    let rule : ℕ = answer_of (block_refusals (viewed w) (view_block b)) in
    let seven : rule ≡ 7 = rule_room w.pool b e ∙ ap (λ (c : Bool). cond c 0 7) f in
    stepped_refused w (laid_out_block b) rule (after_block (viewed w) (view_block b)) 7
    (sym (answer_own w (laid_out_block b) rule k.sound_before k.laid ∙ seven))
    (λ (z : 7 ≡ 0). omega (arith, z))

-- what is known of a block that the tests let through, and for which there is room
pub record Bookable (w : Pool) (b : Block) : Type 0 where
  pub shows : view (book_block w (view_block b)) ≡ after_block (view w) (view_block b)
  pub sound_after : T (good (book_block w (view_block b)))

-- the answer 0 and the room tell both
pub bookable : (w : Pool) (b : Block) → block_answer w b ≡ 0 → leb (length (entries_booked w (view_block b))) most_references ≡ true → Bookable w b
bookable w b e f =
    let k = tested w b e in
    let accepted : AcceptedBlock (view w) (view_block b) =
    record {
      sound_before = good_view w k.sound_before;
      shaped = k.shaped;
      made_new = k.made_new;
      consistent = k.consistent;
      room = subst (λ (c : Bool). T (not c)) (sym (block_lacks_room w b k ∙ ap not f)) tt;
    }
    in
    let r = block_good w (view_block b) k.sound_before accepted in
    record { shows = r.0; sound_after = r.1 }

-- such a block, booked, is the rules' block
pub block_booked :
    (w : Wallet) (b : Block) (p : Pool) (m : ℤ) → block_answer w.pool b ≡ 0 →
    leb (length (entries_booked w.pool (view_block b))) most_references ≡ true → p ≡ book_block w.pool (view_block b) →
    m ≡ moved w.pool p → Stepped w (laid_out_block b) (Steps.block (viewed w) (view_block b)) (booked_step p m)
unfolding Steps.block
block_booked w b p m e f q d =
    let k = tested w.pool b e in
    let r = bookable w.pool b e f in
    let rule : ℕ = answer_of (block_refusals (viewed w) (view_block b)) in
    let none : rule ≡ 0 = rule_room w.pool b e ∙ ap (λ (c : Bool). cond c 0 7) f in
    stepped_accepted w (laid_out_block b) rule (after_block (viewed w) (view_block b)) p m
    (answer_own w (laid_out_block b) rule k.sound_before k.laid ∙ none)
    (good_laid_out p (subst (λ (x : Pool). T (good x)) (sym q) r.sound_after))
    (ap view q ∙ r.shows)
    d
