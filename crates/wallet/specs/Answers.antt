-- The answers to a payment, a block and a rollback, as the code comes to them: each follows from tests asked of the pool,
-- in the paper's order.
use Rattle.std.specs.Prelude.{ℕ, suc, ◌≤◌, ◌<◌, ◌^◌, ◌≡◌, refl, Bool, true, false, not, cond, ◌&&◌, ◌||◌, T, eqb, leb, ltb, take}
use Rattle.std.proofs.Common.{sym, ap, subst, ◌∙◌, ⊎_elim, arith, leb→le, le→leb, eqb→eq}
use mathlib.Core.List.{List, [], ◌∷◌, ◌++◌, map, Memᴰ}
use Rattle.std.proofs.Math.Dec.{not_T}
use Rattle.sets.specs.Sets.{any, all, has, keep, total}
use Rattle.sets.specs.Tests.{T-cases, and_left, and_right, equal_holds, cond_true, cond_false, not_not_holds}
use Rattle.sets.specs.Laws.{all_elim}
use Rattle.sets.specs.Maps.{any-map, all_same, all_map}
use Rattle.rules.specs.declared.Number.{Number}
use Rattle.rules.specs.declared.Entry.{Entry}
use Rattle.rules.specs.Sizes.{most_payments}
use Rattle.rules.specs.Chain as Chain
use Rattle.rules.specs.Chain.{same_number, same_reference, same_entry, made, worth, shaped_transaction, shaped_block}
use Rattle.rules.specs.States as States
use Rattle.rules.specs.States.{after_block, after_payment}
use Rattle.rules.specs.Balances.{available}
use Rattle.rules.specs.Sound.{too_many, agree, agreeing, sound}
use Rattle.rules.specs.Steps.{Refusal, answer_of, number_taken, input_missing, pays_too_much, already_unspent, contradicts, only_one, payment_refusals, block_refusals, rollback_refusals}
use Rattle.rules.specs.StepLaws.{given_first, given_later}
use Rattle.chain.specs.View as ChainView
use Rattle.chain.specs.View.{view_transaction, view_block, laid_out_block, good_transaction, good_block, same_struct}
use Rattle.chain.specs.ViewLaws.{good_facts, good_block_facts, same_struct_view}
use Rattle.chain.specs.Facts.{laid_out_block_facts}
use Rattle.chain.specs.declared.Transaction.{Transaction}
use Rattle.chain.specs.declared.Block.{Block}
use Rattle.pool.specs.declared.Payment.{Payment}
use Rattle.pool.specs.declared.Pool.{Pool}
use Rattle.pool.specs.View.{entries_of, payments_of, utxo_at, view}
use Rattle.pool.specs.Good.{good, payment_fits}
use Rattle.pool.specs.LayoutLaws.{good_laid_out, good_layout, good_view}
use Rattle.pool.specs.RefusalLaws.{number_taken_lem, contradicts_pool, only_one_lem}
use Rattle.pool.specs.Booked.{payment_room}

-- ── the answers

-- a payment's; a broken layout is refused like a broken shape
abbrev pub pay_answer : Pool → Transaction → ℕ
pay_answer w t = cond (good w) (cond (ChainView.laid_out t) (answer_of (payment_refusals (view w) (view_transaction t))) 1) 9

-- all refusals of a block but the last, which asks for room
abbrev pub block_tests : States.Wallet → Chain.Block → List Refusal
block_tests w b =
    record { number = 9; given = not (sound w) }
    ∷ record { number = 1; given = not (shaped_block b) }
    ∷ record { number = 5; given = already_unspent w.present b }
    ∷ record { number = 6; given = contradicts w b }
    ∷ []

-- a block's, before its room is known
abbrev pub block_answer : Pool → Block → ℕ
block_answer w b = cond (good w) (cond (laid_out_block b) (answer_of (block_tests (view w) (view_block b))) 1) 9

-- a rollback's
abbrev pub back_answer : Pool → ℕ
back_answer w = cond (good w) (answer_of (rollback_refusals (view w))) 9

-- ── the tests, asked of the pool

-- 2: the number is that of a payment or of an entry's reference
abbrev pub number_used : Pool → Number → Bool
number_used w n = any (λ p. same_number n p.transaction.number) (payments_of w) || any (λ h. same_number n h.entry.reference.number) (entries_of w)

-- 3: every input is in the available set
abbrev pub inputs_free : Pool → Transaction → Bool
inputs_free w t = all (λ i. has same_reference i (map (λ e. e.reference) (available (view w).present))) (view_transaction t).inputs

-- 4: what goes out and what comes in
abbrev pub paid_out : Transaction → ℕ
paid_out t = total (λ o. o.amount) (take t.makes t.outputs)

abbrev pub paid_in : Pool → Transaction → ℕ
paid_in w t = worth (keep (λ e. has same_reference e.reference (view_transaction t).inputs) (available (view w).present))

-- 5: an output's reference is in the present UTxO
abbrev pub unspent_made : Pool → Block → Bool
unspent_made w b = any (λ e. has same_entry e (utxo_at 0 (entries_of w))) (made (view_block b))

-- 6: no output disagrees with an entry, no transaction with a payment
abbrev pub outputs_agree : Pool → Block → Bool
outputs_agree w b = all (λ e. all (λ h. agree e h.entry) (entries_of w)) (made (view_block b))

abbrev pub payments_agree : Pool → Block → Bool
payments_agree w b =
    all
    (λ t. all (λ p. not (same_number t.number p.transaction.number) || same_struct t p.transaction) (payments_of w))
    (take b.count b.transactions)

-- ── one refusal after another

-- a conjunction that fails with its first part given
second_fails : (a b : Bool) → T (not (a && b)) → T a → T (not b)
second_fails true b t s = t
second_fails false b t s = absurd s

-- a test and its negation, carried along an equation
along : (a b : Bool) → a ≡ b → T b → T a
along a b e t = subst (λ (x : Bool). T x) (sym e) t

not_along : (a b : Bool) → a ≡ b → T (not b) → T (not a)
not_along a b e t = subst (λ (x : Bool). T (not x)) (sym e) t

-- the first of two lists answers where it refuses
answer_append :
    (l m : List Refusal) → T (all (λ r. not (eqb r.number 0)) l) →
    answer_of (l ++ m) ≡ cond (eqb (answer_of l) 0) (answer_of m) (answer_of l)
answer_append [] m t = refl
answer_append (r ∷ l) m t =
    elim r.given as
    (λ b.
    cond b r.number (answer_of (l ++ m))
    ≡ cond (eqb (cond b r.number (answer_of l)) 0) (answer_of m) (cond b r.number (answer_of l))) [
      | true ↦ sym (cond_false (eqb r.number 0) (answer_of m) r.number (and_left (not (eqb r.number 0)) (all (λ s. not (eqb s.number 0)) l) t))
      | false ↦ answer_append l m (and_right (not (eqb r.number 0)) (all (λ s. not (eqb s.number 0)) l) t)
    ]

-- ── a payment

-- its refusals from 1, 2, 3, 4, 7 on
abbrev pay7 : States.Wallet → Chain.Transaction → List Refusal
pay7 v p = record { number = 7; given = too_many (after_payment v p) } ∷ []

abbrev pay4 : States.Wallet → Chain.Transaction → List Refusal
pay4 v p = record { number = 4; given = pays_too_much v.present p } ∷ pay7 v p

abbrev pay3 : States.Wallet → Chain.Transaction → List Refusal
pay3 v p = record { number = 3; given = input_missing v.present p } ∷ pay4 v p

abbrev pay2 : States.Wallet → Chain.Transaction → List Refusal
pay2 v p = record { number = 2; given = number_taken v p.number } ∷ pay3 v p

abbrev pay1 : States.Wallet → Chain.Transaction → List Refusal
pay1 v p = record { number = 1; given = not (shaped_transaction p) } ∷ pay2 v p

-- 9: the wallet is not sound
pub pay_9 : (w : Pool) (t : Transaction) → T (not (good w)) → pay_answer w t ≡ 9
pay_9 w t h = cond_false (good w) (cond (ChainView.laid_out t) (answer_of (payment_refusals (view w) (view_transaction t))) 1) 9 h

pay_laid : (w : Pool) (t : Transaction) → T (good w) → T (ChainView.laid_out t) → pay_answer w t ≡ answer_of (pay1 (view w) (view_transaction t))
unfolding payment_refusals
pay_laid w t g l =
    cond_true (good w) (cond (ChainView.laid_out t) (answer_of (payment_refusals (view w) (view_transaction t))) 1) 9 g
    ∙ cond_true (ChainView.laid_out t) (answer_of (payment_refusals (view w) (view_transaction t))) 1 l
    ∙ given_later 9 (not (sound (view w))) (pay1 (view w) (view_transaction t)) (not_not_holds (sound (view w)) (good_view w g))

-- 1: the layout or the shape is broken
pub pay_1 : (w : Pool) (t : Transaction) → T (good w) → T (not (good_transaction t)) → pay_answer w t ≡ 1
unfolding good_transaction
pay_1 w t g h =
    ⊎_elim
    (λ (l : T (ChainView.laid_out t)).
    pay_laid w t g l
    ∙ given_first 1 (not (shaped_transaction (view_transaction t))) (pay2 (view w) (view_transaction t))
    (second_fails (ChainView.laid_out t) (shaped_transaction (view_transaction t)) h l))
    (λ (l : T (not (ChainView.laid_out t))).
    cond_true (good w) (cond (ChainView.laid_out t) (answer_of (payment_refusals (view w) (view_transaction t))) 1) 9 g
    ∙ cond_false (ChainView.laid_out t) (answer_of (payment_refusals (view w) (view_transaction t))) 1 l)
    (T-cases (ChainView.laid_out t))

-- the tests of the rules are those of the pool
missing_test : (w : Pool) (t : Transaction) → input_missing (view w).present (view_transaction t) ≡ not (inputs_free w t)
unfolding input_missing
missing_test w t =
    ap not
    (all_same (λ i. any (λ e. same_reference i e.reference) (available (view w).present))
    (λ i. has same_reference i (map (λ e. e.reference) (available (view w).present)))
    (view_transaction t).inputs
    (λ i m. sym (any-map (same_reference i) (λ (e : Entry). e.reference) (available (view w).present))))

too_much_test : (w : Pool) (t : Transaction) → pays_too_much (view w).present (view_transaction t) ≡ not (leb (paid_out t) (paid_in w t))
unfolding pays_too_much
too_much_test w t = refl

module _ (w : Pool) (t : Transaction) (g : T (good w)) (s : T (good_transaction t)) where
  pay_shaped : pay_answer w t ≡ answer_of (pay2 (view w) (view_transaction t))
  pay_shaped =
      let f = good_facts t s in
      pay_laid w t g f.0
      ∙ given_later 1 (not (shaped_transaction (view_transaction t))) (pay2 (view w) (view_transaction t)) (not_not_holds (shaped_transaction (view_transaction t)) f.1)

  number_test : number_taken (view w) t.number ≡ number_used w t.number
  number_test = number_taken_lem w (good_laid_out w g) t.number

  -- 2: the number is taken
  pub pay_2 : T (number_used w t.number) → pay_answer w t ≡ 2
  pay_2 h =
      pay_shaped
      ∙ given_first 2 (number_taken (view w) t.number) (pay3 (view w) (view_transaction t)) (along (number_taken (view w) t.number) (number_used w t.number) number_test h)

  module _ (new : T (not (number_used w t.number))) where
    not_taken : T (not (number_taken (view w) t.number))
    not_taken = not_along (number_taken (view w) t.number) (number_used w t.number) number_test new

    pay_new : pay_answer w t ≡ answer_of (pay3 (view w) (view_transaction t))
    pay_new = pay_shaped ∙ given_later 2 (number_taken (view w) t.number) (pay3 (view w) (view_transaction t)) not_taken

    -- 3: an input is not available
    pub pay_3 : T (not (inputs_free w t)) → pay_answer w t ≡ 3
    pay_3 h =
        pay_new
        ∙ given_first 3 (input_missing (view w).present (view_transaction t)) (pay4 (view w) (view_transaction t))
        (along (input_missing (view w).present (view_transaction t)) (not (inputs_free w t)) (missing_test w t) h)

    module _ (free : T (inputs_free w t)) where
      pay_free : pay_answer w t ≡ answer_of (pay4 (view w) (view_transaction t))
      pay_free =
          pay_new
          ∙ given_later 3 (input_missing (view w).present (view_transaction t)) (pay4 (view w) (view_transaction t))
          (not_along (input_missing (view w).present (view_transaction t)) (not (inputs_free w t)) (missing_test w t) (not_not_holds (inputs_free w t) free))

      -- 4: more goes out than comes in
      pub pay_4 : paid_in w t < paid_out t → pay_answer w t ≡ 4
      pay_4 h =
          pay_free
          ∙ given_first 4 (pays_too_much (view w).present (view_transaction t)) (pay7 (view w) (view_transaction t))
          (along (pays_too_much (view w).present (view_transaction t)) (not (leb (paid_out t) (paid_in w t))) (too_much_test w t)
          (not_T (leb (paid_out t) (paid_in w t)) (λ (k : T (leb (paid_out t) (paid_in w t))). omega (arith, leb→le (paid_out t) (paid_in w t) k))))

      module _ (enough : paid_out t ≤ paid_in w t) where
        pay_covered : pay_answer w t ≡ answer_of (pay7 (view w) (view_transaction t))
        pay_covered =
            pay_free
            ∙ given_later 4 (pays_too_much (view w).present (view_transaction t)) (pay7 (view w) (view_transaction t))
            (not_along (pays_too_much (view w).present (view_transaction t)) (not (leb (paid_out t) (paid_in w t))) (too_much_test w t)
            (not_not_holds (leb (paid_out t) (paid_in w t)) (le→leb (paid_out t) (paid_in w t) enough)))

        room_test : too_many (after_payment (view w) (view_transaction t)) ≡ not (leb (suc w.paying) most_payments)
        room_test = payment_room w g t s not_taken

        -- 7: there are as many payments as there may be
        pub pay_7 : most_payments ≤ w.paying → pay_answer w t ≡ 7
        pay_7 h =
            pay_covered
            ∙ given_first 7 (too_many (after_payment (view w) (view_transaction t))) []
            (along (too_many (after_payment (view w) (view_transaction t))) (not (leb (suc w.paying) most_payments)) room_test
            (not_T (leb (suc w.paying) most_payments) (λ (k : T (leb (suc w.paying) most_payments)). omega (arith, leb→le (suc w.paying) most_payments k))))

        -- 0: none of these
        pub pay_0 : w.paying < most_payments → pay_answer w t ≡ 0
        pay_0 h =
            pay_covered
            ∙ given_later 7 (too_many (after_payment (view w) (view_transaction t))) []
            (not_along (too_many (after_payment (view w) (view_transaction t))) (not (leb (suc w.paying) most_payments)) room_test
            (not_not_holds (leb (suc w.paying) most_payments) (le→leb (suc w.paying) most_payments h)))

-- ── a block

-- its refusals from 1, 5, 6 on
abbrev block6 : States.Wallet → Chain.Block → List Refusal
block6 v b = record { number = 6; given = contradicts v b } ∷ []

abbrev block5 : States.Wallet → Chain.Block → List Refusal
block5 v b = record { number = 5; given = already_unspent v.present b } ∷ block6 v b

abbrev block1 : States.Wallet → Chain.Block → List Refusal
block1 v b = record { number = 1; given = not (shaped_block b) } ∷ block5 v b

-- 9: the wallet is not sound
pub block_9 : (w : Pool) (b : Block) → T (not (good w)) → block_answer w b ≡ 9
block_9 w b h = cond_false (good w) (cond (laid_out_block b) (answer_of (block_tests (view w) (view_block b))) 1) 9 h

block_laid : (w : Pool) (b : Block) → T (good w) → T (laid_out_block b) → block_answer w b ≡ answer_of (block_tests (view w) (view_block b))
block_laid w b g l =
    cond_true (good w) (cond (laid_out_block b) (answer_of (block_tests (view w) (view_block b))) 1) 9 g
    ∙ cond_true (laid_out_block b) (answer_of (block_tests (view w) (view_block b))) 1 l

block_sound : (w : Pool) (b : Block) → T (good w) → T (laid_out_block b) → block_answer w b ≡ answer_of (block1 (view w) (view_block b))
block_sound w b g l =
    block_laid w b g l ∙ given_later 9 (not (sound (view w))) (block1 (view w) (view_block b)) (not_not_holds (sound (view w)) (good_view w g))

-- the rules' answer to a block that is laid out: this one, and then the question of room
pub block_then_room :
    (w : Pool) (b : Block) → T (good w) → T (laid_out_block b) →
    answer_of (block_refusals (view w) (view_block b))
    ≡ cond (eqb (block_answer w b) 0) (cond (too_many (after_block (view w) (view_block b))) 7 0) (block_answer w b)
unfolding block_refusals
block_then_room w b g l =
    answer_append (block_tests (view w) (view_block b)) (record { number = 7; given = too_many (after_block (view w) (view_block b)) } ∷ []) tt
    ∙ ap (λ (n : ℕ). cond (eqb n 0) (cond (too_many (after_block (view w) (view_block b))) 7 0) n) (sym (block_laid w b g l))

-- 1: the layout or the shape is broken
pub block_1 : (w : Pool) (b : Block) → T (good w) → T (not (good_block b)) → block_answer w b ≡ 1
unfolding good_block
block_1 w b g h =
    ⊎_elim
    (λ (l : T (laid_out_block b)).
    block_sound w b g l
    ∙ given_first 1 (not (shaped_block (view_block b))) (block5 (view w) (view_block b)) (second_fails (laid_out_block b) (shaped_block (view_block b)) h l))
    (λ (l : T (not (laid_out_block b))).
    cond_true (good w) (cond (laid_out_block b) (answer_of (block_tests (view w) (view_block b))) 1) 9 g
    ∙ cond_false (laid_out_block b) (answer_of (block_tests (view w) (view_block b))) 1 l)
    (T-cases (laid_out_block b))

-- of laid out structs the code's agreement with a payment is the rules'
payments_test :
    (w : Pool) (b : Block) → T (good w) → T (laid_out_block b) →
    all (λ u. all (λ q. agreeing u (view_transaction q.transaction)) (payments_of w)) (view_block b) ≡ payments_agree w b
payments_test w b g l =
    all_map (λ u. all (λ q. agreeing u (view_transaction q.transaction)) (payments_of w)) view_transaction (take b.count b.transactions)
    ∙ all_same
    (λ t. all (λ q. agreeing (view_transaction t) (view_transaction q.transaction)) (payments_of w))
    (λ t. all (λ q. not (same_number t.number q.transaction.number) || same_struct t q.transaction) (payments_of w))
    (take b.count b.transactions)
    (λ t m.
    all_same
    (λ q. agreeing (view_transaction t) (view_transaction q.transaction))
    (λ q. not (same_number t.number q.transaction.number) || same_struct t q.transaction)
    (payments_of w)
    (λ q k.
    ap (λ (x : Bool). not (same_number t.number q.transaction.number) || x)
    (sym (same_struct_view t q.transaction (all_elim ChainView.laid_out (laid_out_block_facts b l).each_laid_out m) (payment_laid q k)))))
  where
    payment_laid : (q : Payment) → Memᴰ q (payments_of w) → T (ChainView.laid_out q.transaction)
    payment_laid q k =
        and_right (ltb q.pending (2 ^ suc w.below) && not (eqb q.pending 0)) (ChainView.laid_out q.transaction)
        (all_elim (payment_fits (suc w.below)) (good_layout w g).payments_fit k)

module _ (w : Pool) (b : Block) (g : T (good w)) (s : T (good_block b)) where
  block_shaped : block_answer w b ≡ answer_of (block5 (view w) (view_block b))
  block_shaped =
      let f = good_block_facts b s in
      block_sound w b g f.0
      ∙ given_later 1 (not (shaped_block (view_block b))) (block5 (view w) (view_block b)) (not_not_holds (shaped_block (view_block b)) f.1)

  -- 5: an output is in the present UTxO
  pub block_5 : T (unspent_made w b) → block_answer w b ≡ 5
  unfolding already_unspent
  block_5 h = block_shaped ∙ given_first 5 (unspent_made w b) (block6 (view w) (view_block b)) h

  contradicts_test : contradicts (view w) (view_block b) ≡ (not (outputs_agree w b) || not (payments_agree w b))
  contradicts_test =
      contradicts_pool w (good_laid_out w g) (view_block b)
      ∙ ap (λ (x : Bool). not (outputs_agree w b) || not x) (payments_test w b g (good_block_facts b s).0)

  module _ (new : T (not (unspent_made w b))) where
    block_new : block_answer w b ≡ answer_of (block6 (view w) (view_block b))
    unfolding already_unspent
    block_new = block_shaped ∙ given_later 5 (unspent_made w b) (block6 (view w) (view_block b)) new

    -- 6: an output or a transaction disagrees with what is held
    pub block_6 : T (not (outputs_agree w b) || not (payments_agree w b)) → block_answer w b ≡ 6
    block_6 h =
        block_new
        ∙ given_first 6 (contradicts (view w) (view_block b)) []
        (along (contradicts (view w) (view_block b)) (not (outputs_agree w b) || not (payments_agree w b)) contradicts_test h)

    -- 0: none of these
    pub block_0 : T (not (not (outputs_agree w b) || not (payments_agree w b))) → block_answer w b ≡ 0
    block_0 h =
        block_new
        ∙ given_later 6 (contradicts (view w) (view_block b)) []
        (not_along (contradicts (view w) (view_block b)) (not (outputs_agree w b) || not (payments_agree w b)) contradicts_test h)

-- ── a rollback

-- 9: the wallet is not sound
pub back_9 : (w : Pool) → T (not (good w)) → back_answer w ≡ 9
back_9 w h = cond_false (good w) (answer_of (rollback_refusals (view w))) 9 h

back_sound : (w : Pool) → T (good w) → back_answer w ≡ answer_of (record { number = 8; given = only_one (view w).below } ∷ [])
unfolding rollback_refusals
back_sound w g =
    cond_true (good w) (answer_of (rollback_refusals (view w))) 9 g
    ∙ given_later 9 (not (sound (view w))) (record { number = 8; given = only_one (view w).below } ∷ []) (not_not_holds (sound (view w)) (good_view w g))

-- 8: no state lies below the present one
pub back_8 : (w : Pool) → T (good w) → w.below ≡ 0 → back_answer w ≡ 8
back_8 w g h =
    back_sound w g
    ∙ given_first 8 (only_one (view w).below) [] (along (only_one (view w).below) (eqb w.below 0) (only_one_lem w) (equal_holds w.below 0 h))

-- 0: one does
pub back_0 : (w : Pool) → T (good w) → (w.below ≡ 0 → ⊥) → back_answer w ≡ 0
back_0 w g h =
    back_sound w g
    ∙ given_later 8 (only_one (view w).below) []
    (not_along (only_one (view w).below) (eqb w.below 0) (only_one_lem w)
    (not_T (eqb w.below 0) (λ (k : T (eqb w.below 0)). h (eqb→eq w.below 0 k))))
