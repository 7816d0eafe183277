-- The minimum in plain quantifiers: an allowed future reaches it, none has a lower value, and none of that value
-- chooses fewer payments.
use Rattle.std.specs.Prelude.{◌≡◌, Bool, ℕ, ◌≤◌, T, eqb, length}
use Rattle.std.proofs.Common.{sym, ap, subst, ◌∙◌, arith, eqb→eq}
use mathlib.Core.List.Memᴰ
use mathlib.Core.List.{List, [], map, Memᴰ}
use Rattle.std.proofs.Math.Dec.{eqb_refl}
use Rattle.sets.specs.Sets.{keep, choices}
use Rattle.sets.specs.Laws.{keep_from, keep_holds, keep_intro, map_intro, map_elim, gather_intro, gather_elim, choices_none}
use Rattle.sets.specs.Once.{least_below, least_reached}
use Rattle.rules.specs.declared.Number.{Number}
use Rattle.rules.specs.Chain.{Transaction}
use Rattle.rules.specs.States.{State}
use Rattle.rules.specs.Minimum.{Future, expected_numbers, futures, allowed, value, allowed_futures, minimum_balance, minimum_payments}

-- A choice of the pending payments and one of the expected numbers make a future of the state.
pub futures_in : (s : State) (ps : List Transaction) (ns : List Number) → Memᴰ ps (choices s.pending) → Memᴰ ns (choices (expected_numbers s.expected)) → Memᴰ (record { payments = ps; numbers = ns }) (futures s)
unfolding futures
futures_in s ps ns p n =
    gather_intro
    (λ (c : List Transaction). map (λ (d : List Number). record { payments = c; numbers = d }) (choices (expected_numbers s.expected)))
    p
    (map_intro (λ (d : List Number). record { payments = ps; numbers = d }) n)

-- Every future of the state is made so.
pub futures_from : (s : State) (f : Future) → Memᴰ f (futures s) → Memᴰ f.payments (choices s.pending) × Memᴰ f.numbers (choices (expected_numbers s.expected))
unfolding futures
futures_from s f m =
    let g =
    gather_elim
    (λ (c : List Transaction). map (λ (d : List Number). record { payments = c; numbers = d }) (choices (expected_numbers s.expected)))
    (choices s.pending)
    m
    in
    let r = map_elim (λ (d : List Number). record { payments = g.0; numbers = d }) (choices (expected_numbers s.expected)) g.2 in
    (Memᴰ.cast (ap (λ (h : Future). h.payments) r.2) g.1, Memᴰ.cast (ap (λ (h : Future). h.numbers) r.2) r.1)

-- the future that chooses nothing
abbrev pub nothing : Future
nothing = record { payments = []; numbers = [] }

pub nothing_in : (s : State) → Memᴰ nothing (futures s)
nothing_in s = futures_in s [] [] (choices_none s.pending) (choices_none (expected_numbers s.expected))

pub nothing_allowed : (s : State) → T (allowed s nothing)
unfolding allowed
nothing_allowed s = tt

-- What it is to be the minimum, with its number of chosen payments.
pub record IsMinimum (own : List ℕ) (s : State) (amount count : ℕ) : Type 0 where
  pub reached : (f : Future) × Memᴰ f (futures s) × T (allowed s f) × (value own s f ≡ amount) × (length f.payments ≡ count)
  pub least : (f : Future) → Memᴰ f (futures s) → T (allowed s f) → amount ≤ value own s f
  pub fewest : (f : Future) → Memᴰ f (futures s) → T (allowed s f) → value own s f ≡ amount → count ≤ length f.payments

-- The two numbers that the rules compute are it.
pub minimum_is : (own : List ℕ) (s : State) → IsMinimum own s (minimum_balance own s) (minimum_payments own s)
unfolding minimum_balance minimum_payments allowed_futures
minimum_is own s =
    record {
      reached = (
        f,
        keep_from (allowed s) (futures s) fm,
        keep_holds (allowed s) (futures s) fm,
        eqb→eq (value own s f) (minimum_balance own s) (keep_holds at_least (allowed_futures s) r.1),
        sym r.2,
      );
      least = λ g m t. least_below (value own s) (allowed_futures s) (keep_intro (allowed s) (futures s) m t);
      fewest = λ g m t e. least_below size (keep at_least (allowed_futures s)) (lowest g m t e);
    }
  where
    size : Future → ℕ
    size g = length g.payments

    at_least : Future → Bool
    at_least g = eqb (value own s g) (minimum_balance own s)

    lowest : (g : Future) → Memᴰ g (futures s) → T (allowed s g) → value own s g ≡ minimum_balance own s → Memᴰ g (keep at_least (allowed_futures s))
    lowest g m t e =
        keep_intro at_least (allowed_futures s) (keep_intro (allowed s) (futures s) m t)
        (subst (λ (n : ℕ). T (eqb (value own s g) n)) e (eqb_refl (value own s g)))

    first : (g : Future) × Memᴰ g (allowed_futures s) × (minimum_balance own s ≡ value own s g)
    first = least_reached (value own s) (allowed_futures s) (keep_intro (allowed s) (futures s) (nothing_in s) (nothing_allowed s))

    r : (g : Future) × Memᴰ g (keep at_least (allowed_futures s)) × (minimum_payments own s ≡ size g)
    r =
        least_reached size (keep at_least (allowed_futures s))
        (lowest first.0 (keep_from (allowed s) (futures s) first.1) (keep_holds (allowed s) (futures s) first.1) (sym first.2))

    f : Future
    f = r.0

    fm : Memᴰ f (keep (allowed s) (futures s))
    fm = keep_from at_least (allowed_futures s) r.1

-- There is only one minimum, with one number of payments.
pub minimum_one :
    (own : List ℕ) (s : State) {a b c d : ℕ} → IsMinimum own s a c → IsMinimum own s b d → (a ≡ b) × (c ≡ d)
minimum_one own s {a} {b} {c} {d} x y =
    let f = x.reached in
    let g = y.reached in
    let ba : b ≤ value own s f.0 = y.least f.0 f.1 f.2 in
    let ab : a ≤ value own s g.0 = x.least g.0 g.1 g.2 in
    let fa : value own s f.0 ≡ a = f.3 in
    let gb : value own s g.0 ≡ b = g.3 in
    let e : a ≡ b = omega arith in
    let dc : d ≤ length f.0.payments = y.fewest f.0 f.1 f.2 (fa ∙ e) in
    let cd : c ≤ length g.0.payments = x.fewest g.0 g.1 g.2 (gb ∙ sym e) in
    let fc : length f.0.payments ≡ c = f.4 in
    let gd : length g.0.payments ≡ d = g.4 in
    (e, omega arith)
