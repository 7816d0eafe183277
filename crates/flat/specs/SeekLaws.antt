-- Where a reference stands in a list: the place of the first same one, below the length exactly where there is one, and
-- the only such place where no two are the same.
use Rattle.std.specs.Prelude.{ℕ, zero, suc, ◌≤◌, ◌<◌, ◌≡◌, refl, true, false, not, cond, ◌||◌, List, map, [], ◌∷◌, T, ltb, length, get_or, take}
use Rattle.std.proofs.Common.{sym, ap, subst, ◌∙◌, ⊎_elim, not-suc-le-zero, le_of_suc-le-suc, arith, T_not}
use Rattle.std.proofs.Math.Dec.{not_T, leb-zero, leb-suc-suc}
use Rattle.sets.specs.Sets.{has, ascending}
use Rattle.sets.specs.Count.{member_at}
use Rattle.sets.specs.Tests.{or_cases, T-cases, cond_true, cond_false}
use Rattle.sets.specs.Order.{ascending_first, ascending_tail}
use Rattle.rules.specs.declared.Reference.{Reference}
use Rattle.rules.specs.Chain.{same_reference, before_reference}
use Rattle.rules.specs.ChainLaws.{same_reference_eq, before_reference_trans, before_reference_irrefl}
use Rattle.flat.specs.Flat.{seek}

-- the place is at most the length
pub seek_most : (r : Reference) (l : List Reference) → seek r l ≤ length l
seek_most r [] = omega arith
seek_most r (x ∷ l) =
    let h : seek r l ≤ length l = seek_most r l in
    elim (same_reference r x) as (λ b. cond b 0 (suc (seek r l)) ≤ suc (length l)) [ true ↦ omega arith | false ↦ omega arith ]

-- it is below the length exactly where the reference is in the list
pub seek_found : (r : Reference) (l : List Reference) → ltb (seek r l) (length l) ≡ has same_reference r l
seek_found r [] = refl
seek_found r (x ∷ l) =
    elim (same_reference r x) as (λ b. ltb (cond b 0 (suc (seek r l))) (suc (length l)) ≡ (b || has same_reference r l)) [
      | true ↦ leb-suc-suc 0 (length l) ∙ leb-zero (length l)
      | false ↦ leb-suc-suc (suc (seek r l)) (length l) ∙ seek_found r l
    ]

-- and what stands there is the same reference
pub seek_at : (r : Reference) (l : List Reference) (d : Reference) → T (has same_reference r l) → T (same_reference r (get_or l (seek r l) d))
seek_at r [] d t = absurd t
seek_at r (x ∷ l) d t =
    ⊎_elim
    (λ (h : T (same_reference r x)).
    subst (λ (k : ℕ). T (same_reference r (get_or (x ∷ l) k d))) (sym (cond_true (same_reference r x) 0 (suc (seek r l)) h)) h)
    (λ (h : T (not (same_reference r x))).
    let later : T (has same_reference r l) =
    ⊎_elim (λ (k : T (same_reference r x)). absurd (T_not (same_reference r x) h k)) (λ (k : T (has same_reference r l)). k) (or_cases (same_reference r x) (has same_reference r l) t)
    in
    subst (λ (k : ℕ). T (same_reference r (get_or (x ∷ l) k d))) (sym (cond_false (same_reference r x) 0 (suc (seek r l)) h)) (seek_at r l d later))
    (T-cases (same_reference r x))

-- where none is the same the place is the length
pub seek_none : (r : Reference) (l : List Reference) → T (not (has same_reference r l)) → seek r l ≡ length l
seek_none r [] t = refl
seek_none r (x ∷ l) t =
    (elim (same_reference r x) as (λ b. T (not (b || has same_reference r l)) → cond b 0 (suc (seek r l)) ≡ suc (length l)) [
      | true ↦ λ (h : ⊥). absurd h
      | false ↦ λ (h : T (not (has same_reference r l))). ap suc (seek_none r l h)
    ])
    t

-- the first that is the same
pub seek_first :
    (r : Reference) (l : List Reference) (j : ℕ) (d : Reference) → j < length l →
    T (not (has same_reference r (take j l))) → T (same_reference r (get_or l j d)) → seek r l ≡ j
seek_first r [] j d h n t = absurd (not-suc-le-zero h)
seek_first r (x ∷ l) zero d h n t = cond_true (same_reference r x) 0 (suc (seek r l)) t
seek_first r (x ∷ l) (suc j) d h n t =
    (elim (same_reference r x) as (λ b. T (not (b || has same_reference r (take j l))) → cond b 0 (suc (seek r l)) ≡ suc j) [
      | true ↦ λ (k : ⊥). absurd k
      | false ↦ λ (k : T (not (has same_reference r (take j l)))). ap suc (seek_first r l j d (le_of_suc-le-suc h) k t)
    ])
    n

-- in an ascending list there is one such place
pub seek_one :
    (r : Reference) (l : List Reference) (j : ℕ) (d : Reference) → T (ascending before_reference l) → j < length l →
    T (same_reference r (get_or l j d)) → seek r l ≡ j
seek_one r [] j d a h t = absurd (not-suc-le-zero h)
seek_one r (x ∷ l) zero d a h t = cond_true (same_reference r x) 0 (suc (seek r l)) t
seek_one r (x ∷ l) (suc j) d a h t =
    let k : j < length l = le_of_suc-le-suc h in
    let y : Reference = get_or l j d in
    let ahead : T (before_reference x y) = ascending_first before_reference before_reference_trans x l a y (member_at l j d k) in
    let other : T (not (same_reference r x)) =
    not_T (same_reference r x)
    (λ (s : T (same_reference r x)).
    before_reference_irrefl x
    (subst (λ (u : Reference). T (before_reference x u)) (sym (same_reference_eq r y t) ∙ same_reference_eq r x s) ahead))
    in
    cond_false (same_reference r x) 0 (suc (seek r l)) other
    ∙ ap suc (seek_one r l j d (ascending_tail before_reference x l a) k t)

-- of each reference, whether its place is inside the list says whether the list has it
pub found_same :
    (a b : List Reference) → map (λ p. ltb p (length b)) (map (λ x. seek x b) a) ≡ map (λ x. has same_reference x b) a
found_same [] b = refl
found_same (x ∷ a) b = λ i. seek_found x b i ∷ found_same a b i
