-- The balances of a sound wallet struct as sums over the lists that the code lays flat: the available list and the change
-- come to the available and the total balance.
use Rattle.std.specs.Prelude.{◌+◌, ◌*◌, ◌^◌, ◌≤◌, ◌<◌, ◌≡◌, refl, Bool, true, T, leb, length, sum_by, take}
use Rattle.std.proofs.Common.{ap, arith, leb→le, le→leb, subst, sym, ◌∙◌}
use Rattle.std.proofs.lemmas.List.Recursion.{is_sum_by}
use Rattle.std.proofs.Math.Bool.{not}
use mathlib.Core.List.Memᴰ
use mathlib.Core.List.{List, ◌++◌, Memᴰ}
use Rattle.sets.specs.Sets.{all, has, keep}
use Rattle.sets.specs.Tests.{cond_true, either_way}
use Rattle.sets.specs.Laws.{all_intro, all_elim, keep_from, total_bound, map_elim, gather_intro, gather_elim}
use Rattle.rules.specs.declared.Entry.{Entry}
use Rattle.rules.specs.declared.Output.{Output}
use Rattle.rules.specs.Sizes.{largest_amount, most_references}
use Rattle.rules.specs.Chain as Chain
use Rattle.rules.specs.Chain.{same_reference, entry_of, makes, made, spent, worth, shaped_transaction}
use Rattle.rules.specs.ShapeLaws.{shaped_facts}
use Rattle.rules.specs.States.{State, states}
use Rattle.rules.specs.Balances.{available, available_balance, total_balance}
use Rattle.pool.specs.declared.Pool.{Pool}
use Rattle.pool.specs.View.{entries_of, payments_of, pending_at, view}
use Rattle.pool.specs.Good.{good}
use Rattle.pool.specs.LayoutLaws.{good_sound}
use Rattle.pool.specs.BalanceLaws.{is_change, total_pool}
use Rattle.flat.specs.Flat.{made_in, made_of}
use Rattle.flat.specs.Told.{made_back}
use Rattle.balance.specs.Worth.{worth_within}

-- ── any list

-- an amount within the limit
abbrev pub within : Entry → Bool
within e = leb e.amount largest_amount

-- where none is above the limit, it is at most the largest amount for each entry
pub within_most : (l : List Entry) → T (all within l) → worth l ≤ length l * largest_amount
within_most l t = total_bound (λ e. e.amount) largest_amount l (λ e m. leb→le e.amount largest_amount (all_elim within t m))

-- the worth is the sum of the amounts
pub worth_sum : (l : List Entry) → worth l ≡ sum_by (λ e. e.amount) l
worth_sum l = is_sum_by worth (λ (e : Entry). e.amount) refl (λ e m. refl) l

-- so where none is above the limit, that sum fits
pub sum_fits : (l : List Entry) → all within l ≡ true → length l ≤ most_references → sum_by (λ e. e.amount) l < 2 ^ 64
sum_fits l e h = omega (arith, worth_sum l, within_most l (subst T (sym e) tt))

pub sum_within : (l : List Entry) → all within l ≡ true → sum_by (λ e. e.amount) l ≡ worth_within l
sum_within l e = sym (worth_sum l) ∙ sym (cond_true (all within l) (worth l) 0 (subst T (sym e) tt))

-- where no amount is above the limit it is the worth
pub within_worth : (l : List Entry) → ((e : Entry) → Memᴰ e l → e.amount ≤ largest_amount) → worth_within l ≡ worth l
within_worth l f =
    cond_true (all within l) (worth l) 0 (all_intro within l (λ e m. le→leb e.amount largest_amount (f e m)))

-- it is at most the largest amount for each entry
pub worth_most : (l : List Entry) → worth_within l ≤ length l * largest_amount
worth_most l = either_way (λ n. n ≤ length l * largest_amount) (all within l) (worth l) 0 (within_most l) (λ t. omega arith)

-- laying a list flat does not change its worth
pub worth_flat : (l : List Entry) → worth_within (made_in (made_of l)) ≡ worth_within l
worth_flat l = ap worth_within (made_back l)

-- ── a sound wallet struct

-- the change that the code lays flat
abbrev pub change_of : Pool → List Entry
change_of w = keep (is_change (take w.owns w.own) (entries_of w) (payments_of w)) (made (pending_at 0 (payments_of w)))

module _ (w : Pool) (t : T (good w)) where
  -- no available amount is above the limit
  pub available_within : (e : Entry) → Memᴰ e (available (view w).present) → e.amount ≤ largest_amount
  unfolding available
  available_within e m =
      (good_sound w t).amounts e
      (gather_intro (λ (s : State). s.utxo ++ s.expected) {l = states (view w)} (Memᴰ.head refl)
      (Memᴰ.append_left (view w).present.expected
      (keep_from (λ x. not (has same_reference x.reference (spent (view w).present.pending))) (view w).present.utxo m)))

  pending_shaped : (p : Chain.Transaction) → Memᴰ p (pending_at 0 (payments_of w)) → T (shaped_transaction p)
  pending_shaped p m = (good_sound w t).payments_shaped p (gather_intro (λ (s : State). s.pending) {l = states (view w)} (Memᴰ.head refl) m)

  change_within : (e : Entry) → Memᴰ e (change_of w) → e.amount ≤ largest_amount
  change_within e m =
      let r = gather_elim makes (pending_at 0 (payments_of w)) (keep_from (is_change (take w.owns w.own) (entries_of w) (payments_of w)) (made (pending_at 0 (payments_of w))) m) in
      let o = map_elim (entry_of r.0.number) r.0.outputs r.2 in
      let fits = (shaped_facts r.0 (pending_shaped r.0 r.1)).amounts_fit in
      omega (
        arith,
        ap (λ (x : Entry). x.amount) o.2,
        leb→le o.0.amount largest_amount (all_elim (λ (x : Output). leb x.amount largest_amount) fits o.1),
      )

  -- the worth of the available list is the available balance
  pub available_worth : worth_within (available (view w).present) ≡ available_balance (view w).present
  unfolding available_balance
  available_worth = within_worth (available (view w).present) available_within

  -- and with the worth of the change it is the total balance
  pub total_worth : worth_within (change_of w) + worth_within (available (view w).present) ≡ total_balance (take w.owns w.own) (view w).present
  total_worth =
      omega (
        arith,
        total_pool w t (take w.owns w.own),
        available_worth,
        within_worth (change_of w) change_within,
      )
