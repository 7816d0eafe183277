-- The code's refusal 7 is the rules': the last two sizes after a block or a payment, asked of the booked places. And an
-- accepted step, booked, gives a good pool that shows the rules' wallet after it.
use Rattle.std.specs.Prelude.{ℕ, zero, suc, ◌≤◌, ◌≡◌, refl, Bool, true, false, not, ◌||◌, T, leb, eqb, length, take}
use Rattle.std.proofs.Common.{sym, ap, subst, ◌∙◌, arith, leb→le, le→leb}
use Rattle.sets.specs.Tests.{none_failed, not_not}
use Rattle.rules.specs.Sizes.{most_payments, most_references}
use Rattle.rules.specs.Chain as Chain
use Rattle.rules.specs.Chain.{shaped_block}
use Rattle.rules.specs.States as States
use Rattle.rules.specs.States.{after_block, after_payment, after_rollback}
use Rattle.rules.specs.Sound.{too_many, sound}
use Rattle.rules.specs.Steps.{number_taken, already_unspent, contradicts}
use Rattle.soundness.specs.Refused.{AcceptedBlock, AcceptedPayment, AcceptedRollback}
use Rattle.soundness.specs.BlockKept.{block_sound}
use Rattle.soundness.specs.Payment.{payment_sound}
use Rattle.soundness.specs.RollbackKept.{rollback_sound}
use Rattle.chain.specs.View as ChainView
use Rattle.chain.specs.View.{view_transaction}
use Rattle.chain.specs.declared.Transaction.{Transaction}
use Rattle.pool.specs.declared.Pool.{Pool}
use Rattle.pool.specs.View.{entries_of, payments_of, view}
use Rattle.pool.specs.Good.{laid_out, good}
use Rattle.pool.specs.Book.{payments_after_payment, book_block, book_payment, book_rollback}
use Rattle.chain.specs.ViewLaws.{good_facts}
use Rattle.pool.specs.LayoutLaws.{good_laid_out, good_layout, laid_out_good, entries_counted, payments_counted}
use Rattle.pool.specs.RoomLaws.{pool_room}
use Rattle.pool.specs.RefusalLaws.{only_one_lem}
use Rattle.pool.specs.BlockEntries.{entries_booked, payments_booked, below_booked, block_entries_ascend, block_entries_fit, block_payments_ascend, block_payments_fit}
use Rattle.pool.specs.BlockBooked.{block_view, block_booked}
use Rattle.pool.specs.PaymentBooked.{payment_ascending, payment_places_fit, payment_length, payment_view, payment_booked}
use Rattle.pool.specs.RollbackBooked.{rollback_booked}

-- ── refusal 7

-- a block lacks room where the booked payments or the booked entries are too many
pub block_room :
    (w : Pool) (b : Chain.Block) → T (good w) → T (shaped_block b) → T (not (already_unspent (view w).present b)) →
    T (not (contradicts (view w) b)) →
    too_many (after_block (view w) b)
    ≡ (not (leb (length (payments_booked w b)) most_payments) || not (leb (length (entries_booked w b)) most_references))
block_room w b g shaped made_new consistent =
    ap too_many (sym (block_view w b g shaped made_new consistent))
    ∙ pool_room (take w.owns w.own) (below_booked w) (entries_booked w b) (payments_booked w b)
    (block_entries_ascend w b g shaped) (block_entries_fit w b g) (block_payments_ascend w b g) (block_payments_fit w b g)

-- a payment lacks room where one payment more is too many
pub payment_room :
    (w : Pool) → T (good w) → (t : Transaction) → T (ChainView.good_transaction t) → T (not (number_taken (view w) t.number)) →
    too_many (after_payment (view w) (view_transaction t)) ≡ not (leb (suc w.paying) most_payments)
payment_room w g t s free =
    let h : T (laid_out w) = good_laid_out w g in
    let f = good_layout w g in
    let one_more : length (payments_after_payment t (payments_of w)) ≡ suc w.paying =
    payment_length t (payments_of w) ∙ ap suc (payments_counted w f)
    in
    ap too_many (sym (payment_view w h t free))
    ∙ pool_room (take w.owns w.own) w.below (entries_of w) (payments_after_payment t (payments_of w))
    f.entries_ascend f.entries_fit (payment_ascending w h t free) (payment_places_fit w h t (good_facts t s).0)
    ∙ ap (λ (n : ℕ). not (leb n most_payments) || not (leb (length (entries_of w)) most_references)) one_more
    ∙ enough (not (leb (suc w.paying) most_payments)) (leb (length (entries_of w)) most_references)
    (le→leb (length (entries_of w)) most_references (omega (arith, entries_counted w f, f.few_entries)))
  where
    enough : (a b : Bool) → T b → (a || not b) ≡ a
    enough true b t = refl
    enough false true t = refl
    enough false false t = absurd t

-- ── accepted steps

-- a booked pool that is laid out and shows a sound wallet is good
shown_good : (w : Pool) (v : States.Wallet) → (view w ≡ v) × T (laid_out w) → T (sound v) → (view w ≡ v) × T (good w)
shown_good w v k t = (k.0, laid_out_good w k.1 (subst (λ (u : States.Wallet). T (sound u)) (sym k.0) t))

-- an accepted block: the booked pool is good, and shows the rules' wallet after the block
pub block_good : (w : Pool) (b : Chain.Block) → T (good w) → AcceptedBlock (view w) b → (view (book_block w b) ≡ after_block (view w) b) × T (good (book_block w b))
block_good w b g k =
    let room =
    none_failed (leb (length (payments_booked w b)) most_payments) (leb (length (entries_booked w b)) most_references)
    (subst (λ (c : Bool). T (not c)) (block_room w b g k.shaped k.made_new k.consistent) k.room)
    in
    shown_good (book_block w b) (after_block (view w) b)
    (block_booked w b g k.shaped k.made_new k.consistent
    (leb→le (length (entries_booked w b)) most_references room.1)
    (leb→le (length (payments_booked w b)) most_payments room.0))
    (block_sound (view w) b k)

-- an accepted payment: the booked pool is good, and shows the rules' wallet after the payment
pub payment_good :
    (w : Pool) → T (good w) → (t : Transaction) → T (ChainView.good_transaction t) → AcceptedPayment (view w) (view_transaction t) →
    (view (book_payment w t) ≡ after_payment (view w) (view_transaction t)) × T (good (book_payment w t))
payment_good w g t s k =
    let few : suc w.paying ≤ most_payments =
    leb→le (suc w.paying) most_payments
    (not_not (leb (suc w.paying) most_payments) (subst (λ (c : Bool). T (not c)) (payment_room w g t s k.number_new) k.room))
    in
    shown_good (book_payment w t) (after_payment (view w) (view_transaction t))
    (payment_booked w g t s k.number_new (omega (arith, payment_length t (payments_of w), payments_counted w (good_layout w g))))
    (payment_sound (view w) (view_transaction t) k)

-- an accepted rollback: the booked pool is good, and shows the rules' wallet after the rollback
pub rollback_good : (w : Pool) → T (good w) → AcceptedRollback (view w) → (view (book_rollback w) ≡ after_rollback (view w)) × T (good (book_rollback w))
rollback_good w g k =
    let r = some_below w.below (subst (λ (c : Bool). T (not c)) (only_one_lem w) k.more_than_one) in
    shown_good (book_rollback w) (after_rollback (view w)) (rollback_booked w g r.0 r.1) (rollback_sound (view w) k.sound_before)
  where
    some_below : (n : ℕ) → T (not (eqb n 0)) → (m : ℕ) × (n ≡ suc m)
    some_below zero t = absurd t
    some_below (suc m) t = (m, refl)
