-- A laid out pool, taken apart into plain facts and put together again; the two parts of a good one; and a pool with
-- other places, as every booking makes it.
use Rattle.std.specs.Prelude.{◌≡◌, Bool, true, ◌&&◌, List, [], ◌∷◌, ℕ, suc, ◌-◌, ◌≤◌, T, eqb, leb, length, take, drop}
use Rattle.std.proofs.Common.{sym, subst, arith, eqb→eq, leb→le, le→leb, length-take-le}
use Rattle.sets.specs.Sets.{all, ascending}
use Rattle.sets.specs.Tests.{equal_holds, and_left, and_right, and_both, every_at}
use Rattle.sets.specs.Walks.{every_holds}
use Rattle.sets.specs.Fill.{filled-length, filled_first, filled_rest}
use Rattle.rules.specs.Sizes.{most_own, most_states, most_payments, most_references}
use Rattle.rules.specs.ChainLaws.{same_reference_refl}
use Rattle.rules.specs.Sound.{sound}
use Rattle.soundness.specs.Facts.{Sound, sound_facts}
use Rattle.chain.specs.View.{zero_reference, zero_transaction, no_reference, no_transaction}
use Rattle.pool.specs.declared.Held.{Held}
use Rattle.pool.specs.declared.Payment.{Payment}
use Rattle.pool.specs.declared.Pool.{Pool}
use Rattle.chain.specs.ViewLaws.{no_reference_zero, no_transaction_zero, zero_no_transaction}
use Rattle.pool.specs.Book.{zero_held, zero_payment, with_pool}
use Rattle.pool.specs.View.{entries_of, payments_of, view_of, view}
use Rattle.pool.specs.Good.{no_held, no_payment, before_held, before_payment, held_fits, payment_fits, laid_out, good}

-- what the layout asks, fact by fact
pub record LaidOut (w : Pool) : Type 0 where
  pub own_length : length w.own ≡ most_own
  pub few_own : w.owns ≤ most_own
  pub own_rest : T (all (λ a. eqb a 0) (drop w.owns w.own))
  pub few_below : w.below ≤ most_states - 1
  pub entries_length : length w.entries ≡ most_references
  pub few_entries : w.used ≤ most_references
  pub entries_rest : T (all no_held (drop w.used w.entries))
  pub entries_ascend : T (ascending before_held (entries_of w))
  pub entries_fit : T (all (held_fits (suc w.below)) (entries_of w))
  pub payments_length : length w.payments ≡ most_payments
  pub few_payments : w.paying ≤ most_payments
  pub payments_rest : T (all no_payment (drop w.paying w.payments))
  pub payments_ascend : T (ascending before_payment (payments_of w))
  pub payments_fit : T (all (payment_fits (suc w.below)) (payments_of w))

-- the clauses of `laid_out`, in its order
abbrev clauses : Pool → List Bool
clauses w =
    eqb (length w.own) most_own
    ∷ leb w.owns most_own
    ∷ all (λ a. eqb a 0) (drop w.owns w.own)
    ∷ leb w.below (most_states - 1)
    ∷ eqb (length w.entries) most_references
    ∷ leb w.used most_references
    ∷ all no_held (drop w.used w.entries)
    ∷ ascending before_held (entries_of w)
    ∷ all (held_fits (suc w.below)) (entries_of w)
    ∷ eqb (length w.payments) most_payments
    ∷ leb w.paying most_payments
    ∷ all no_payment (drop w.paying w.payments)
    ∷ ascending before_payment (payments_of w)
    ∷ all (payment_fits (suc w.below)) (payments_of w)
    ∷ []

-- a laid out pool fulfils every fact
pub laid_out_facts : (w : Pool) → T (laid_out w) → LaidOut w
unfolding laid_out
laid_out_facts w t =
    record {
      own_length = eqb→eq (length w.own) most_own (every_at (clauses w) 0 t);
      few_own = leb→le w.owns most_own (every_at (clauses w) 1 t);
      own_rest = every_at (clauses w) 2 t;
      few_below = leb→le w.below (most_states - 1) (every_at (clauses w) 3 t);
      entries_length = eqb→eq (length w.entries) most_references (every_at (clauses w) 4 t);
      few_entries = leb→le w.used most_references (every_at (clauses w) 5 t);
      entries_rest = every_at (clauses w) 6 t;
      entries_ascend = every_at (clauses w) 7 t;
      entries_fit = every_at (clauses w) 8 t;
      payments_length = eqb→eq (length w.payments) most_payments (every_at (clauses w) 9 t);
      few_payments = leb→le w.paying most_payments (every_at (clauses w) 10 t);
      payments_rest = every_at (clauses w) 11 t;
      payments_ascend = every_at (clauses w) 12 t;
      payments_fit = every_at (clauses w) 13 t;
    }

-- a pool that fulfils every fact is laid out
pub facts_laid_out : (w : Pool) → LaidOut w → T (laid_out w)
unfolding laid_out
facts_laid_out w k =
    every_holds (clauses w) (
      equal_holds (length w.own) most_own k.own_length,
      (
        le→leb w.owns most_own k.few_own,
        (
          k.own_rest,
          (
            le→leb w.below (most_states - 1) k.few_below,
            (
              equal_holds (length w.entries) most_references k.entries_length,
              (
                le→leb w.used most_references k.few_entries,
                (
                  k.entries_rest,
                  (
                    k.entries_ascend,
                    (
                      k.entries_fit,
                      (
                        equal_holds (length w.payments) most_payments k.payments_length,
                        (
                          le→leb w.paying most_payments k.few_payments,
                          (
                            k.payments_rest,
                            (
                              k.payments_ascend,
                              (
                                k.payments_fit,
                                tt,
                              ),
                            ),
                          ),
                        ),
                      ),
                    ),
                  ),
                ),
              ),
            ),
          ),
        ),
      ),
    )

-- an unused place holds zeros
pub no_held_lem : (h : Held) → T (no_held h) → h ≡ zero_held
no_held_lem h t =
    let r : Bool = no_reference h.entry.reference in
    let a : Bool = eqb h.entry.address 0 in
    let m : Bool = eqb h.entry.amount 0 in
    let u : Bool = eqb h.utxo 0 in
    let x : Bool = eqb h.expected 0 in
    let t₃ : T (r && a && m && u) = and_left (r && a && m && u) x t in
    let t₂ : T (r && a && m) = and_left (r && a && m) u t₃ in
    let t₁ : T (r && a) = and_left (r && a) m t₂ in
    let e = no_reference_zero h.entry.reference (and_left r a t₁) in
    let f = eqb→eq h.entry.address 0 (and_right r a t₁) in
    let g = eqb→eq h.entry.amount 0 (and_right (r && a) m t₂) in
    let j = eqb→eq h.utxo 0 (and_right (r && a && m) u t₃) in
    let k = eqb→eq h.expected 0 (and_right (r && a && m && u) x t) in
    λ i. record { entry = record { reference = e i; address = f i; amount = g i }; utxo = j i; expected = k i }

pub no_payment_lem : (p : Payment) → T (no_payment p) → p ≡ zero_payment
no_payment_lem p t =
    let e = no_transaction_zero p.transaction (and_left (no_transaction p.transaction) (eqb p.pending 0) t) in
    let k = eqb→eq p.pending 0 (and_right (no_transaction p.transaction) (eqb p.pending 0) t) in
    λ i. record { transaction = e i; pending = k i }

-- a good pool is laid out, and its view is sound; and the two make it good
pub good_laid_out : (w : Pool) → T (good w) → T (laid_out w)
unfolding good
good_laid_out w t = and_left (laid_out w) (sound (view w)) t

pub good_view : (w : Pool) → T (good w) → T (sound (view w))
unfolding good
good_view w t = and_right (laid_out w) (sound (view w)) t

pub laid_out_good : (w : Pool) → T (laid_out w) → T (sound (view w)) → T (good w)
unfolding good
laid_out_good w s t = and_both (laid_out w) (sound (view w)) s t

pub good_layout : (w : Pool) → T (good w) → LaidOut w
good_layout w t = laid_out_facts w (good_laid_out w t)

pub good_sound : (w : Pool) → T (good w) → Sound (view w)
good_sound w t = sound_facts (view w) (good_view w t)

-- as many used places as the counts say
pub entries_counted : (w : Pool) → LaidOut w → length (entries_of w) ≡ w.used
entries_counted w f = length-take-le w.used w.entries (omega (arith, f.entries_length, f.few_entries))

pub payments_counted : (w : Pool) → LaidOut w → length (payments_of w) ≡ w.paying
payments_counted w f = length-take-le w.paying w.payments (omega (arith, f.payments_length, f.few_payments))

-- ── a pool with other places

pub zero_held_lem : T (no_held zero_held)
zero_held_lem =
    let none = no_reference zero_reference in
    and_both (none && true && true && true) true
    (and_both (none && true && true) true
    (and_both (none && true) true
    (and_both none true (same_reference_refl zero_reference) tt)
    tt)
    tt)
    tt

pub zero_payment_lem : T (no_payment zero_payment)
zero_payment_lem = and_both (no_transaction zero_transaction) true zero_no_transaction tt

-- it is read as these entries and payments are
pub pool_view : (w : Pool) (n : ℕ) (es : List Held) (ps : List Payment) → view (with_pool w n es ps) ≡ view_of (take w.owns w.own) n es ps
pool_view w n es ps =
    let e = filled_first most_references zero_held es in
    let p = filled_first most_payments zero_payment ps in
    λ i. view_of (take w.owns w.own) n (e i) (p i)

-- it is laid out where its places ascend, fit and suffice
pub pool_laid_out :
    (w : Pool) (n : ℕ) (es : List Held) (ps : List Payment) → T (laid_out w) → n ≤ most_states - 1 →
    length es ≤ most_references → T (ascending before_held es) → T (all (held_fits (suc n)) es) →
    length ps ≤ most_payments → T (ascending before_payment ps) → T (all (payment_fits (suc n)) ps) →
    T (laid_out (with_pool w n es ps))
pool_laid_out w n es ps t below few order fit few-paid order-paid fit-paid =
    let f = laid_out_facts w t in
    let e = sym (filled_first most_references zero_held es) in
    let p = sym (filled_first most_payments zero_payment ps) in
    facts_laid_out (with_pool w n es ps) (record {
      own_length = f.own_length;
      few_own = f.few_own;
      own_rest = f.own_rest;
      few_below = below;
      entries_length = filled-length most_references zero_held es few;
      few_entries = few;
      entries_rest = filled_rest no_held most_references zero_held es zero_held_lem;
      entries_ascend = subst (λ (l : List Held). T (ascending before_held l)) e order;
      entries_fit = subst (λ (l : List Held). T (all (held_fits (suc n)) l)) e fit;
      payments_length = filled-length most_payments zero_payment ps few-paid;
      few_payments = few-paid;
      payments_rest = filled_rest no_payment most_payments zero_payment ps zero_payment_lem;
      payments_ascend = subst (λ (l : List Payment). T (ascending before_payment l)) p order-paid;
      payments_fit = subst (λ (l : List Payment). T (all (payment_fits (suc n)) l)) p fit-paid;
    })
