-- The soundness test taken in parts comes to the definition's: the entries, the payments, and the payments' outputs, each
-- of which is held against the first entry of its reference alone, since the entries ascend.
use Rattle.std.specs.Prelude.{ℕ, suc, ◌-◌, ◌^◌, ◌≡◌, refl, Bool, true, false, not, cond, ◌&&◌, ◌||◌, eqb, leb, ltb, length, take}
use Rattle.std.proofs.Common.{sym, ap, ◌∙◌}
use Rattle.std.proofs.Math.Path.{subst}
use Rattle.std.proofs.Math.Bool.{and-true, and_assoc}
use mathlib.Core.List.{List, [], ◌∷◌, map, Memᴰ}
use Rattle.std.proofs.Math.Dec.{T, not_T, leb→le, le→leb}
use Rattle.sets.specs.Sets.{every, all, ascending}
use Rattle.sets.specs.Tests.{or_left, and_left, and_right, and_both, is_true, same_test}
use Rattle.sets.specs.Laws.{all_intro}
use Rattle.sets.specs.Maps.{all_same}
use Rattle.sets.specs.Order.{ascending_tail, ascending_first}
use Rattle.sets.specs.Walks.{joined_every, every_facts, every_holds, all_both}
use Rattle.rules.specs.declared.Reference.{Reference}
use Rattle.rules.specs.declared.Entry.{Entry}
use Rattle.rules.specs.Sizes.{largest_amount, most_own, most_states, most_payments, most_references}
use Rattle.rules.specs.Chain.{same_reference, same_entry, same_value, made, is_own, shaped_transaction}
use Rattle.rules.specs.ChainLaws.{same_reference_eq, before_reference_trans, before_reference_never}
use Rattle.rules.specs.Sound.{agree}
use Rattle.chain.specs.View as ChainView
use Rattle.chain.specs.View.{view_transaction, good_transaction}
use Rattle.pool.specs.declared.Held.{Held}
use Rattle.pool.specs.declared.Payment.{Payment}
use Rattle.pool.specs.declared.Pool.{Pool}
use Rattle.pool.specs.Marks.{apart_marks}
use Rattle.pool.specs.View.{entries_of, payments_of}
use Rattle.pool.specs.Good.{before_held, held_fits, payment_fits, laid_out, good, pool_sound}
use Rattle.pool.specs.LayoutLaws.{laid_out_facts, facts_laid_out}
use Rattle.pool.specs.SoundLaws.{sound_tests, sound_good}
use Rattle.audit.specs.Audit.{held_test, payment_test, entries_list, entries_part, payments_list, payments_part, agrees_first}

-- ── outputs and entries

-- the first of a list decides, where the others hold whenever it is asked
first_decides : (s v later rest : Bool) → (T s → T rest) → later ≡ rest → cond s v later ≡ ((not s || v) && rest)
first_decides true v later rest f e = sym (ap (λ (b : Bool). v && b) (is_true rest (f tt)) ∙ and-true v)
first_decides false v later rest f e = e

-- of ascending entries, only the first of an output's reference can disagree with it
pub agrees_first_lem : (o : Entry) (es : List Held) → T (ascending before_held es) → agrees_first o es ≡ all (λ h. agree o h.entry) es
agrees_first_lem o [] t = refl
agrees_first_lem o (h ∷ l) t =
    first_decides (same_entry o h.entry) (same_value o h.entry) (agrees_first o l) (all (λ k. agree o k.entry) l)
    (λ (s : T (same_entry o h.entry)). all_intro (λ k. agree o k.entry) l (λ k m. others s k m))
    (agrees_first_lem o l (ascending_tail before_held h l t))
  where
    others : T (same_entry o h.entry) → (k : Held) → Memᴰ k l → T (agree o k.entry)
    others s k m =
        or_left (not (same_entry o k.entry)) (same_value o k.entry)
        (not_T (same_entry o k.entry)
        (λ (e : T (same_entry o k.entry)).
        before_reference_never h.entry.reference k.entry.reference
        (subst (λ (r : Reference). T (same_reference r k.entry.reference)) (same_reference_eq o.reference h.entry.reference s) e)
        (ascending_first before_held
        (λ a b c. before_reference_trans a.entry.reference b.entry.reference c.entry.reference)
        h l t k m)))

-- the same for a list of outputs
pub all_agree_first :
    (es : List Held) (l : List Entry) → T (ascending before_held es) →
    all (λ o. agrees_first o es) l ≡ all (λ o. all (λ h. agree o h.entry) es) l
all_agree_first es l t = all_same (λ o. agrees_first o es) (λ o. all (λ h. agree o h.entry) es) l (λ o m. agrees_first_lem o es t)

-- ── entries and payments, test by test

-- the tests of an entry, each asked of all entries
abbrev held_tests : ℕ → List ℕ → List Held → List Bool
held_tests n own l =
    all (held_fits n) l
    ∷ all (λ h. leb h.entry.amount largest_amount) l
    ∷ all (λ h. is_own own h.entry) l
    ∷ all (λ h. apart_marks most_states h.utxo h.expected) l
    ∷ []

all_held : (n : ℕ) (own : List ℕ) (l : List Held) → all (held_test (2 ^ n) own) l ≡ every (held_tests n own l)
all_held n own l =
    all_same (held_test (2 ^ n) own) (λ h. held_fits n h && leb h.entry.amount largest_amount && is_own own h.entry && apart_marks most_states h.utxo h.expected) l
    (λ h m.
    sym
    (joined_every (ltb h.utxo (2 ^ n))
    (ltb h.expected (2 ^ n)
    ∷ not (eqb h.utxo 0 && eqb h.expected 0)
    ∷ leb h.entry.amount largest_amount
    ∷ is_own own h.entry
    ∷ apart_marks most_states h.utxo h.expected
    ∷ [])))
    ∙ all_both (λ h. held_fits n h && leb h.entry.amount largest_amount && is_own own h.entry) (λ h. apart_marks most_states h.utxo h.expected) l
    ∙ ap (λ (b : Bool). b && all (λ h. apart_marks most_states h.utxo h.expected) l)
    (all_both (λ h. held_fits n h && leb h.entry.amount largest_amount) (λ h. is_own own h.entry) l
    ∙ ap (λ (b : Bool). b && all (λ h. is_own own h.entry) l)
    (all_both (held_fits n) (λ h. leb h.entry.amount largest_amount) l))
    ∙ joined_every (all (held_fits n) l)
    (all (λ h. leb h.entry.amount largest_amount) l
    ∷ all (λ h. is_own own h.entry) l
    ∷ all (λ h. apart_marks most_states h.utxo h.expected) l
    ∷ [])

-- the same for a payment
abbrev paid_tests : ℕ → List Payment → List Bool
paid_tests n l = all (payment_fits n) l ∷ all (λ p. shaped_transaction (view_transaction p.transaction)) l ∷ []

all_payments : (n : ℕ) (l : List Payment) → all (payment_test (2 ^ n)) l ≡ every (paid_tests n l)
unfolding good_transaction
all_payments n l =
    all_same (payment_test (2 ^ n)) (λ p. payment_fits n p && shaped_transaction (view_transaction p.transaction)) l
    (λ p m.
    sym
    (and_assoc
    (ltb p.pending (2 ^ n) && not (eqb p.pending 0))
    (ChainView.laid_out p.transaction)
    (shaped_transaction (view_transaction p.transaction))))
    ∙ all_both (payment_fits n) (λ p. shaped_transaction (view_transaction p.transaction)) l
    ∙ joined_every (all (payment_fits n) l) (all (λ p. shaped_transaction (view_transaction p.transaction)) l ∷ [])

-- ── the whole

-- all that the payments of a pool make
abbrev pub payments_make : Pool → List Entry
payments_make w = made (map (λ p. view_transaction p.transaction) (payments_of w))

module _ (w : Pool) where
  -- the parts as the definition groups them
  abbrev Parts : Type 0
  Parts = T (entries_part w) × T (payments_part w) × T (all (λ o. agrees_first o (entries_of w)) (payments_make w))

  to_parts : T (laid_out w) → T (pool_sound w) → Parts
  unfolding pool_sound entries_part payments_part
  to_parts t u =
      let l = laid_out_facts w t in
      let s = every_facts (sound_tests w) u in (
        every_holds (entries_list w) (
          le→leb w.owns most_own l.few_own,
          (
            le→leb w.used most_references l.few_entries,
            (
              le→leb w.below (most_states - 1) l.few_below,
              (
                s.0,
                (
                  l.own_rest,
                  (
                    l.entries_rest,
                    (
                      l.entries_ascend,
                      (
                        subst (λ (b : Bool). T b) (sym (all_held (suc w.below) (take w.owns w.own) (entries_of w)))
                            (every_holds (held_tests (suc w.below) (take w.owns w.own) (entries_of w)) (l.entries_fit, (s.1.0, (s.1.1.0, (s.1.1.1.0, tt))))),
                        tt,
                      ),
                    ),
                  ),
                ),
              ),
            ),
          ),
        ),
        every_holds (payments_list w) (
          le→leb w.paying most_payments l.few_payments,
          (
            le→leb w.below (most_states - 1) l.few_below,
            (
              l.payments_rest,
              (
                l.payments_ascend,
                (
                  subst (λ (b : Bool). T b) (sym (all_payments (suc w.below) (payments_of w)))
                      (every_holds (paid_tests (suc w.below) (payments_of w)) (l.payments_fit, (s.1.1.1.1.0, tt))),
                  tt,
                ),
              ),
            ),
          ),
        ),
        subst (λ (b : Bool). T b) (sym (all_agree_first (entries_of w) (payments_make w) l.entries_ascend)) s.1.1.1.1.1.0,
      )

  from_parts : length w.own ≡ most_own → length w.entries ≡ most_references → length w.payments ≡ most_payments → Parts → T (laid_out w) × T (pool_sound w)
  unfolding pool_sound entries_part payments_part
  from_parts lo le lp parts =
      let e = every_facts (entries_list w) parts.0 in
      let q = every_facts (payments_list w) parts.1 in
      let rise = e.1.1.1.1.1.1.0 in
      let h =
      every_facts (held_tests (suc w.below) (take w.owns w.own) (entries_of w))
      (subst (λ (b : Bool). T b) (all_held (suc w.below) (take w.owns w.own) (entries_of w)) e.1.1.1.1.1.1.1.0)
      in
      let p =
      every_facts (paid_tests (suc w.below) (payments_of w))
      (subst (λ (b : Bool). T b) (all_payments (suc w.below) (payments_of w)) q.1.1.1.1.0)
      in (
        facts_laid_out w (record {
          own_length = lo;
          few_own = leb→le w.owns most_own e.0;
          own_rest = e.1.1.1.1.0;
          few_below = leb→le w.below (most_states - 1) e.1.1.0;
          entries_length = le;
          few_entries = leb→le w.used most_references e.1.0;
          entries_rest = e.1.1.1.1.1.0;
          entries_ascend = rise;
          entries_fit = h.0;
          payments_length = lp;
          few_payments = leb→le w.paying most_payments q.0;
          payments_rest = q.1.1.0;
          payments_ascend = q.1.1.1.0;
          payments_fit = p.0;
        }),
        every_holds (sound_tests w) (
          e.1.1.1.0,
          (
            h.1.0,
            (
              h.1.1.0,
              (
                h.1.1.1.0,
                (p.1.0, (subst (λ (b : Bool). T b) (all_agree_first (entries_of w) (payments_make w) rise) parts.2, tt)),
              ),
            ),
          ),
        ),
      )

-- a pool with all its places is good when its entries, its payments and the payments' outputs are
pub parts_good :
    (w : Pool) → length w.own ≡ most_own → length w.entries ≡ most_references → length w.payments ≡ most_payments →
    good w ≡ (entries_part w && payments_part w && all (λ o. agrees_first o (entries_of w)) (made (map (λ p. view_transaction p.transaction) (payments_of w))))
parts_good w lo le lp =
    sound_good w
    ∙ same_test (laid_out w && pool_sound w) (entries_part w && payments_part w && agreed)
    (λ (t : T (laid_out w && pool_sound w)).
    let p = to_parts w (and_left (laid_out w) (pool_sound w) t) (and_right (laid_out w) (pool_sound w) t) in
    and_both (entries_part w && payments_part w) agreed (and_both (entries_part w) (payments_part w) p.0 p.1) p.2)
    (λ (t : T (entries_part w && payments_part w && agreed)).
    let u = and_left (entries_part w && payments_part w) agreed t in
    let d =
    from_parts w lo le lp (
      and_left (entries_part w) (payments_part w) u,
      and_right (entries_part w) (payments_part w) u,
      and_right (entries_part w && payments_part w) agreed t,
    )
    in
    and_both (laid_out w) (pool_sound w) d.0 d.1)
  where
    agreed : Bool
    agreed = all (λ o. agrees_first o (entries_of w)) (payments_make w)
