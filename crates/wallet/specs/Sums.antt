-- The available and the total balance of a sound wallet struct as the code sums them up.
use Rattle.std.specs.Prelude.{ℕ, ◌+◌, ◌^◌, ◌<◌, ◌≡◌, T, length, take}
use Rattle.std.proofs.Common.{arith, ap, ◌∙◌, length-take}
use Rattle.rules.specs.Sizes.{most_references}
use Rattle.rules.specs.Balances.{available, available_balance, total_balance}
use Rattle.soundness.specs.Bounds.{available_bound}
use Rattle.pool.specs.declared.Pool.{Pool}
use Rattle.pool.specs.View.{view}
use Rattle.pool.specs.Good.{good}
use Rattle.pool.specs.LayoutLaws.{good_view}
use Rattle.flat.specs.Flat.{Made}
use Rattle.flat.specs.Flat.{made_of, made_in}
use Rattle.balance.specs.Worth.{worth_within}
use Rattle.balance.specs.WorthLaws.{worth_flat, worth_most, change_of, available_worth, total_worth}

-- the sum over the available list is the available balance
pub free_worth :
    (w : Pool) (list : Made) (n : ℕ) → T (good w) → list ≡ made_of (available (view w).present) → n ≡ worth_within (made_in list) →
    n ≡ available_balance (view w).present
free_worth w list n g e f =
    f ∙ ap (λ (m : Made). worth_within (made_in m)) e ∙ worth_flat (available (view w).present) ∙ available_worth w g

-- and lies below half the range of 64 bits
pub free_small :
    (w : Pool) (list : Made) (n : ℕ) → T (good w) → list ≡ made_of (available (view w).present) → n ≡ worth_within (made_in list) →
    n < 2 ^ 63
free_small w list n g e f = omega (arith, free_worth w list n g e f, available_bound (view w) (good_view w g))

-- two sums over lists laid flat fit 64 bits together, whatever the lists
pub sums_small :
    (free change : Made) {m n : ℕ} → length free.items ≡ most_references → m ≡ worth_within (made_in free) →
    length change.items ≡ most_references → n ≡ worth_within (made_in change) → m + n < 2 ^ 64
sums_small free change e f g h =
    omega (
      arith,
      e,
      f,
      g,
      h,
      worth_most (made_in free),
      worth_most (made_in change),
      length-take free.count free.items,
      length-take change.count change.items,
    )

module _ (w : Pool) (free change : Made) (m n : ℕ) (g : T (good w)) (e : free ≡ made_of (available (view w).present))
    (f : m ≡ worth_within (made_in free)) (h : change ≡ made_of (change_of w)) (k : n ≡ worth_within (made_in change)) where
  free_is : m ≡ worth_within (available (view w).present)
  free_is = f ∙ ap (λ (x : Made). worth_within (made_in x)) e ∙ worth_flat (available (view w).present)

  change_is : n ≡ worth_within (change_of w)
  change_is = k ∙ ap (λ (x : Made). worth_within (made_in x)) h ∙ worth_flat (change_of w)

  -- the sums over the available list and over the change come to the total balance
  pub total_is : m + n ≡ total_balance (take w.owns w.own) (view w).present
  total_is = omega (arith, free_is, change_is, total_worth w g)
