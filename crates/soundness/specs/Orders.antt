-- Entries by their references, transactions by their numbers: sameness and order as the set laws ask for them.
use Rattle.std.proofs.Common.{sym, subst, inl, inr, ⊎_elim}
use Rattle.std.specs.Prelude.{◌≡◌, ◌⊎◌, not, T}
use Rattle.sets.specs.Tests.{T-cases, same_test}
use Rattle.rules.specs.declared.Reference.{Reference}
use Rattle.rules.specs.declared.Entry.{Entry}
use Rattle.rules.specs.Chain.{same_number, same_reference, same_entry, before_entry, Transaction, same_transaction, before_transaction}
use Rattle.rules.specs.ChainLaws.{same_number_refl, before_number_irrefl, before_number_trans, before_number_total, same_reference_refl, same_reference_eq, same_reference_sym, before_reference_irrefl, before_reference_trans, before_reference_never, before_reference_one, same_transaction_refl, same_transaction_eq}

-- ── entries

pub same_entry_refl : (a : Entry) → T (same_entry a a)
same_entry_refl a = same_reference_refl a.reference

pub same_entry_sym : (a b : Entry) → T (same_entry a b) → T (same_entry b a)
same_entry_sym a b t = same_reference_sym a.reference b.reference t

pub same_entry_turned : (a b : Entry) → same_entry a b ≡ same_entry b a
same_entry_turned a b = same_test (same_entry a b) (same_entry b a) (same_entry_sym a b) (same_entry_sym b a)

pub same_entry_trans : (a b c : Entry) → T (same_entry a b) → T (same_entry b c) → T (same_entry a c)
same_entry_trans a b c s t =
    subst (λ (r : Reference). T (same_reference a.reference r)) (same_reference_eq b.reference c.reference t) s

pub before_entry_irrefl : (a : Entry) → T (before_entry a a) → ⊥
before_entry_irrefl a t = before_reference_irrefl a.reference t

pub before_entry_trans : (a b c : Entry) → T (before_entry a b) → T (before_entry b c) → T (before_entry a c)
before_entry_trans a b c s t = before_reference_trans a.reference b.reference c.reference s t

pub before_entry_never : (a b : Entry) → T (same_entry a b) → T (before_entry a b) → ⊥
before_entry_never a b s t = before_reference_never a.reference b.reference s t

pub before_entry_one : (a b : Entry) → T (not (same_entry a b)) → T (before_entry a b) ⊎ T (before_entry b a)
before_entry_one a b n = before_reference_one a.reference b.reference n

-- ── transactions

pub same_transaction_sym : (a b : Transaction) → T (same_transaction a b) → T (same_transaction b a)
same_transaction_sym a b t = subst (λ (c : Transaction). T (same_transaction c a)) (same_transaction_eq a b t) (same_transaction_refl a)

pub same_transaction_trans : (a b c : Transaction) → T (same_transaction a b) → T (same_transaction b c) → T (same_transaction a c)
same_transaction_trans a b c s t = subst (λ (u : Transaction). T (same_transaction a u)) (same_transaction_eq b c t) s

pub same_transaction_number : (a b : Transaction) → T (same_transaction a b) → T (same_number a.number b.number)
same_transaction_number a b t =
    subst (λ (c : Transaction). T (same_number a.number c.number)) (same_transaction_eq a b t) (same_number_refl a.number)

pub before_transaction_irrefl : (a : Transaction) → T (before_transaction a a) → ⊥
before_transaction_irrefl a t = before_number_irrefl a.number t

pub before_transaction_trans : (a b c : Transaction) → T (before_transaction a b) → T (before_transaction b c) → T (before_transaction a c)
before_transaction_trans a b c s t = before_number_trans a.number b.number c.number s t

pub before_transaction_never : (a b : Transaction) → T (same_transaction a b) → T (before_transaction a b) → ⊥
before_transaction_never a b s t =
    before_transaction_irrefl a (subst (λ (c : Transaction). T (before_transaction a c)) (sym (same_transaction_eq a b s)) t)

-- of two transactions with different numbers, one is before the other
pub before_transaction_one : (a b : Transaction) → (T (same_number a.number b.number) → ⊥) → T (before_transaction a b) ⊎ T (before_transaction b a)
before_transaction_one a b n =
    ⊎_elim
    (λ (h : T (before_transaction a b)). inl h)
    (λ (h : T (not (before_transaction a b))).
    ⊎_elim
    (λ (k : T (before_transaction b a)). inr k)
    (λ (k : T (not (before_transaction b a))). absurd (n (before_number_total a.number b.number h k)))
    (T-cases (before_transaction b a)))
    (T-cases (before_transaction a b))
