-- Sameness and order of numbers, references, outputs and transactions: sameness is equality (of entries: of their
-- references), and the orders are strict and total.
use Rattle.std.specs.Prelude.{◌≡◌, refl, ◌⊎◌, Bool, true, false, not, cond, ◌&&◌, ◌||◌, ℕ, ◌<◌, T, eqb, ltb}
use Rattle.std.specs.Ordering.{nat_cmp, ordering_then}
use Rattle.std.proofs.Common.{Less, Equal, Greater, sym, subst, ◌∙◌, inl, inr, ⊎_elim, arith, T_not, eqb→eq, ltb→lt, nltb→le, lt→ltb}
use Rattle.std.proofs.Math.Dec.{eqb_refl}
use Rattle.sets.specs.Sets.{same_list}
use Rattle.sets.specs.Laws.{same_list_refl, same_list_eq}
use Rattle.sets.specs.Tests.{or_left, or_right, or_cases, and_left, and_right, and_both, T-cases, equal_holds}
use Rattle.rules.specs.declared.Number.{Number}
use Rattle.rules.specs.declared.Reference.{Reference}
use Rattle.rules.specs.declared.Output.{Output}
use Rattle.rules.specs.Chain.{same_number, before_number, same_reference, before_reference, same_output, Transaction, same_transaction}

-- ── numbers: the only laws that look inside

pub same_number_refl : (a : Number) → T (same_number a a)
unfolding same_number
same_number_refl a = eqb_refl a.serial

pub same_number_eq : (a b : Number) → T (same_number a b) → a ≡ b
unfolding same_number
same_number_eq a b t = λ i. record { serial = eqb→eq a.serial b.serial t i }

pub before_number_irrefl : (a : Number) → T (before_number a a) → ⊥
unfolding before_number
before_number_irrefl a t = omega (arith, ltb→lt a.serial a.serial t)

pub before_number_trans : (a b c : Number) → T (before_number a b) → T (before_number b c) → T (before_number a c)
unfolding before_number
before_number_trans a b c s t =
    lt→ltb a.serial c.serial (omega (arith, ltb→lt a.serial b.serial s, ltb→lt b.serial c.serial t))

-- neither before the other: the same
pub before_number_total : (a b : Number) → T (not (before_number a b)) → T (not (before_number b a)) → T (same_number a b)
unfolding same_number before_number
before_number_total a b s t =
    equal_holds a.serial b.serial (omega (arith, nltb→le a.serial b.serial s, nltb→le b.serial a.serial t))

-- equal numbers are the same
pub same_number_of : {a b : Number} → a ≡ b → T (same_number a b)
same_number_of {a} e = subst (λ (n : Number). T (same_number a n)) e (same_number_refl a)

-- what `==` of two numbers compares
pub number_equal : (a b : Number) → eqb a.serial b.serial ≡ same_number a b
unfolding same_number
number_equal a b = refl

-- ── references

pub same_reference_refl : (a : Reference) → T (same_reference a a)
same_reference_refl a =
    and_both (same_number a.number a.number) (eqb a.index a.index) (same_number_refl a.number) (eqb_refl a.index)

pub same_reference_eq : (a b : Reference) → T (same_reference a b) → a ≡ b
same_reference_eq a b t =
    let n = same_number_eq a.number b.number (and_left (same_number a.number b.number) (eqb a.index b.index) t) in
    let k = eqb→eq a.index b.index (and_right (same_number a.number b.number) (eqb a.index b.index) t) in
    λ i. record { number = n i; index = k i }

pub same_reference_sym : (a b : Reference) → T (same_reference a b) → T (same_reference b a)
same_reference_sym a b t = subst (λ (c : Reference). T (same_reference c a)) (same_reference_eq a b t) (same_reference_refl a)

-- the two ways to be before: by number, or by index under one number
pub before_reference_cases : (a b : Reference) → T (before_reference a b) → T (before_number a.number b.number) ⊎ ((a.number ≡ b.number) × (a.index < b.index))
before_reference_cases a b t =
    ⊎_elim
    (λ (h : T (before_number a.number b.number)). inl h)
    (λ (h : T (same_number a.number b.number && ltb a.index b.index)).
    inr (
      same_number_eq a.number b.number (and_left (same_number a.number b.number) (ltb a.index b.index) h),
      ltb→lt a.index b.index (and_right (same_number a.number b.number) (ltb a.index b.index) h),
    ))
    (or_cases (before_number a.number b.number) (same_number a.number b.number && ltb a.index b.index) t)

pub before_reference_number : (a b : Reference) → T (before_number a.number b.number) → T (before_reference a b)
before_reference_number a b t =
    or_left (before_number a.number b.number) (same_number a.number b.number && ltb a.index b.index) t

pub before_reference_index : (a b : Reference) → a.number ≡ b.number → a.index < b.index → T (before_reference a b)
before_reference_index a b e h =
    or_right (before_number a.number b.number) (same_number a.number b.number && ltb a.index b.index)
    (and_both (same_number a.number b.number) (ltb a.index b.index)
    (same_number_of e)
    (lt→ltb a.index b.index h))

pub before_reference_irrefl : (a : Reference) → T (before_reference a a) → ⊥
before_reference_irrefl a t =
    ⊎_elim
    (λ (h : T (before_number a.number a.number)). before_number_irrefl a.number h)
    (λ (h : (a.number ≡ a.number) × (a.index < a.index)). omega arith)
    (before_reference_cases a a t)

pub before_reference_trans : (a b c : Reference) → T (before_reference a b) → T (before_reference b c) → T (before_reference a c)
before_reference_trans a b c s t =
    ⊎_elim
    (λ (h : T (before_number a.number b.number)).
    ⊎_elim
    (λ (k : T (before_number b.number c.number)).
    before_reference_number a c (before_number_trans a.number b.number c.number h k))
    (λ (k : (b.number ≡ c.number) × (b.index < c.index)).
    before_reference_number a c (subst (λ (n : Number). T (before_number a.number n)) k.0 h))
    (before_reference_cases b c t))
    (λ (h : (a.number ≡ b.number) × (a.index < b.index)).
    ⊎_elim
    (λ (k : T (before_number b.number c.number)).
    before_reference_number a c (subst (λ (n : Number). T (before_number n c.number)) (sym h.0) k))
    (λ (k : (b.number ≡ c.number) × (b.index < c.index)).
    before_reference_index a c (h.0 ∙ k.0) (omega arith))
    (before_reference_cases b c t))
    (before_reference_cases a b s)

-- the same reference is not before; of two different ones, one is before the other
pub before_reference_never : (a b : Reference) → T (same_reference a b) → T (before_reference a b) → ⊥
before_reference_never a b s t =
    before_reference_irrefl a (subst (λ (c : Reference). T (before_reference a c)) (sym (same_reference_eq a b s)) t)

pub before_reference_one : (a b : Reference) → T (not (same_reference a b)) → T (before_reference a b) ⊎ T (before_reference b a)
before_reference_one a b n =
    ⊎_elim
    (λ (h : T (before_number a.number b.number)). inl (before_reference_number a b h))
    (λ (h : T (not (before_number a.number b.number))).
    ⊎_elim
    (λ (k : T (before_number b.number a.number)). inr (before_reference_number b a k))
    (λ (k : T (not (before_number b.number a.number))). by_index (before_number_total a.number b.number h k))
    (T-cases (before_number b.number a.number)))
    (T-cases (before_number a.number b.number))
  where
    by_index : T (same_number a.number b.number) → T (before_reference a b) ⊎ T (before_reference b a)
    by_index s =
        let e = same_number_eq a.number b.number s in
        ⊎_elim
        (λ (h : T (ltb a.index b.index)). inl (before_reference_index a b e (ltb→lt a.index b.index h)))
        (λ (h : T (not (ltb a.index b.index))).
        ⊎_elim
        (λ (k : T (ltb b.index a.index)). inr (before_reference_index b a (sym e) (ltb→lt b.index a.index k)))
        (λ (k : T (not (ltb b.index a.index))).
        absurd
        (T_not (same_reference a b) n
        (and_both (same_number a.number b.number) (eqb a.index b.index) s
        (subst (λ (j : ℕ). T (eqb a.index j))
        (omega (arith, nltb→le a.index b.index h, nltb→le b.index a.index k))
        (eqb_refl a.index)))))
        (T-cases (ltb b.index a.index)))
        (T-cases (ltb a.index b.index))

-- what `==` of two references compares, and what `cmp` answers
pub reference_equal : (a b : Reference) → (eqb a.number.serial b.number.serial && eqb a.index b.index) ≡ same_reference a b
reference_equal a b = λ i. number_equal a.number b.number i && eqb a.index b.index

one_then_other :
    (lower same under level : Bool) →
    ordering_then (cond lower Less (cond same Equal Greater)) (cond under Less (cond level Equal Greater))
    ≡ cond (lower || same && under) Less (cond (same && level) Equal Greater)
one_then_other true same under level = refl
one_then_other false true under level = refl
one_then_other false false under level = refl

pub reference_order :
    (a b : Reference) →
    ordering_then (nat_cmp a.number.serial b.number.serial) (nat_cmp a.index b.index)
    ≡ cond (before_reference a b) Less (cond (same_reference a b) Equal Greater)
unfolding same_number before_number
reference_order a b =
    one_then_other (before_number a.number b.number) (same_number a.number b.number) (ltb a.index b.index) (eqb a.index b.index)

-- ── outputs and transactions

pub same_output_refl : (a : Output) → T (same_output a a)
same_output_refl a =
    and_both (eqb a.index a.index && eqb a.address a.address) (eqb a.amount a.amount)
    (and_both (eqb a.index a.index) (eqb a.address a.address) (eqb_refl a.index) (eqb_refl a.address))
    (eqb_refl a.amount)

pub same_output_eq : (a b : Output) → T (same_output a b) → a ≡ b
same_output_eq a b t =
    let f = and_left (eqb a.index b.index && eqb a.address b.address) (eqb a.amount b.amount) t in
    let x = eqb→eq a.index b.index (and_left (eqb a.index b.index) (eqb a.address b.address) f) in
    let y = eqb→eq a.address b.address (and_right (eqb a.index b.index) (eqb a.address b.address) f) in
    let z = eqb→eq a.amount b.amount (and_right (eqb a.index b.index && eqb a.address b.address) (eqb a.amount b.amount) t) in
    λ i. record { index = x i; address = y i; amount = z i }

pub same_transaction_refl : (a : Transaction) → T (same_transaction a a)
unfolding same_transaction
same_transaction_refl a =
    and_both
    (same_number a.number a.number && same_list same_reference a.inputs a.inputs)
    (same_list same_output a.outputs a.outputs)
    (and_both
    (same_number a.number a.number)
    (same_list same_reference a.inputs a.inputs)
    (same_number_refl a.number)
    (same_list_refl same_reference same_reference_refl a.inputs))
    (same_list_refl same_output same_output_refl a.outputs)

pub same_transaction_eq : (a b : Transaction) → T (same_transaction a b) → a ≡ b
unfolding same_transaction
same_transaction_eq a b t =
    let f =
    and_left
    (same_number a.number b.number && same_list same_reference a.inputs b.inputs)
    (same_list same_output a.outputs b.outputs)
    t
    in
    let n =
    same_number_eq a.number b.number
    (and_left (same_number a.number b.number) (same_list same_reference a.inputs b.inputs) f)
    in
    let x =
    same_list_eq same_reference same_reference_eq a.inputs b.inputs
    (and_right (same_number a.number b.number) (same_list same_reference a.inputs b.inputs) f)
    in
    let y =
    same_list_eq same_output same_output_eq a.outputs b.outputs
    (and_right
    (same_number a.number b.number && same_list same_reference a.inputs b.inputs)
    (same_list same_output a.outputs b.outputs)
    t)
    in
    λ i. record { number = n i; inputs = x i; outputs = y i }
