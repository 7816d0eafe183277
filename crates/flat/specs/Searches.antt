-- What the library's two searches answer of a list of references: the place of the first same one, or the length.
use Rattle.std.specs.Prelude.{ℕ, zero, suc, ◌+◌, ◌≤◌, ◌<◌, ◌≡◌, refl, Bool, true, false, not, cond, List, [], ◌∷◌, T, ltb, length, get_or}
use Rattle.std.specs.declared.cmp.Ordering.{Ordering}
use Rattle.std.specs.List.{position_or_len}
use Rattle.std.specs.List.Sorted.{IsBinarySearchResult, IsNonDecreasingBy, IsPartitionPoint, IsSearchInRange}
use Rattle.std.specs.Option.{unwrap_or}
use Rattle.std.specs.Ordering.{ordering_index}
use Rattle.std.specs.Result.{result_unwrap_or}
use Rattle.std.proofs.Common.{sym, subst, ◌∙◌, ⊎_elim, arith, not-suc-le-zero, le_of_suc-le-suc, Result, Some, None, Ok, Err, Less, Equal, Greater, ltb→lt, nltb→le}
use Rattle.std.proofs.Math.Dec.{not_T}
use Rattle.std.proofs.lemmas.List.Recursion.{is_position_or_len}
use Rattle.sets.specs.Sets.{has, ascending}
use Rattle.sets.specs.Count.{member_at}
use Rattle.sets.specs.Order.{ascending_first, ascending_tail}
use Rattle.sets.specs.Tests.{T-cases, cond_true, cond_false}
use Rattle.rules.specs.declared.Reference.{Reference}
use Rattle.rules.specs.Chain.{same_reference, before_reference}
use Rattle.rules.specs.ChainLaws.{same_reference_eq, same_reference_sym, before_reference_trans, before_reference_never}
use Rattle.chain.specs.View.{zero_reference}
use Rattle.flat.specs.Flat.{seek}
use Rattle.flat.specs.SeekLaws.{seek_most, seek_found, seek_at, seek_none, seek_one}

-- ── from the front

next : (b : Bool) (n : ℕ) → cond b 0 (suc n) ≡ cond b 0 (1 + n)
next true n = refl
next false n = omega arith

or_end : (b : Bool) (n p : ℕ) → b ≡ ltb p n → p ≤ n → unwrap_or (cond b (Some p) None) n ≡ p
or_end true n p e h = refl
or_end false n p e h = omega (arith, nltb→le p n (subst (λ (b : Bool). T (not b)) e tt))

pub by_turns :
    (r : Reference) (l : List Reference) →
    unwrap_or (cond (ltb (position_or_len (same_reference r) l) (length l)) (Some (position_or_len (same_reference r) l)) None) (length l) ≡ seek r l
by_turns r l =
    let here : seek r l ≡ position_or_len (same_reference r) l =
    is_position_or_len (seek r) (same_reference r) refl (λ x m. next (same_reference r x) (seek r m)) l
    in
    or_end _ (length l) (position_or_len (same_reference r) l) refl (subst (λ (n : ℕ). n ≤ length l) here (seek_most r l)) ∙ sym here

-- ── by halves, in a list that ascends

-- a reference beside the one that is sought: before it, the same, or neither
abbrev by_reference : Reference → Reference → Ordering
by_reference y r = cond (before_reference y r) Less (cond (same_reference y r) Equal Greater)

equal_same : (before same : Bool) → cond before Less (cond same Equal Greater) ≡ Equal → T same
equal_same true same h = cc
equal_same false true h = tt
equal_same false false h = cc

same_of : (y r : Reference) → by_reference y r ≡ Equal → T (same_reference r y)
same_of y r e = same_reference_sym y r (equal_same (before_reference y r) (same_reference y r) e)

of_same : (y r : Reference) → T (same_reference r y) → by_reference y r ≡ Equal
of_same y r t =
    let s = same_reference_sym r y t in
    cond_false (before_reference y r) Less (cond (same_reference y r) Equal Greater)
    (not_T (before_reference y r) (before_reference_never y r s))
    ∙ cond_true (same_reference y r) Equal Greater s

-- one is no higher than another where it is before whenever the other is before or the same
lower :
    (b s c t : Bool) → (T c → T b) → (T t → T b) →
    ordering_index (cond b Less (cond s Equal Greater)) ≤ ordering_index (cond c Less (cond t Equal Greater))
lower true s c t f g = omega arith
lower false s true t f g = absurd (f tt)
lower false s false true f g = absurd (g tt)
lower false true false false f g = omega arith
lower false false false false f g = omega arith

before_higher : (x y r : Reference) → T (before_reference x y) → ordering_index (by_reference x r) ≤ ordering_index (by_reference y r)
before_higher x y r t =
    lower (before_reference x r) (same_reference x r) (before_reference y r) (same_reference y r)
    (λ (h : T (before_reference y r)). before_reference_trans x y r t h)
    (λ (h : T (same_reference y r)). subst (λ (z : Reference). T (before_reference x z)) (same_reference_eq y r h) t)

-- what stands later is no lower
no_lower : (r : Reference) (l : List Reference) → T (ascending before_reference l) → IsNonDecreasingBy (λ y. ordering_index (by_reference y r)) l
no_lower r [] a i j d h t = absurd (not-suc-le-zero t)
no_lower r (x ∷ l) a zero zero d h t = omega arith
no_lower r (x ∷ l) a zero (suc j) d h t =
    before_higher x (get_or l j d) r
    (ascending_first before_reference before_reference_trans x l a (get_or l j d) (member_at l j d (le_of_suc-le-suc t)))
no_lower r (x ∷ l) a (suc i) zero d h t = absurd (not-suc-le-zero h)
no_lower r (x ∷ l) a (suc i) (suc j) d h t = no_lower r l (ascending_tail before_reference x l a) i j d (le_of_suc-le-suc h) (le_of_suc-le-suc t)

module _ (r : Reference) (l : List Reference) (a : T (ascending before_reference l)) where
  hit : (j : ℕ) → j < length l → by_reference (get_or l j zero_reference) r ≡ Equal → seek r l ≡ j
  hit j h e = seek_one r l j zero_reference a h (same_of (get_or l j zero_reference) r e)

  miss : (j : ℕ) → IsPartitionPoint (λ y. by_reference y r ≡ Less) (λ y. by_reference y r ≡ Greater) l j → T (has same_reference r l) → ⊥
  miss j p t =
      let k : ℕ = seek r l in
      let y : Reference = get_or l k zero_reference in
      let same : by_reference y r ≡ Equal = of_same y r (seek_at r l zero_reference t) in
      ⊎_elim
      (λ (h : T (ltb k j)). let less : by_reference y r ≡ Less = p.0 k zero_reference (omega arith) (ltb→lt k j h) in cc)
      (λ (h : T (not (ltb k j))).
      let greater : by_reference y r ≡ Greater =
      p.1 k zero_reference (nltb→le k j h) (ltb→lt k (length l) (subst (λ (b : Bool). T b) (sym (seek_found r l)) t))
      in
      cc)
      (T-cases (ltb k j))

  pub by_halves :
      (found : Result ℕ ℕ) → IsSearchInRange found (length l) → IsBinarySearchResult (λ y. by_reference y r) l found →
      result_unwrap_or found (length l) ≡ seek r l
  by_halves (Ok j) b h = sym (hit j b (h zero_reference))
  by_halves (Err j) b h = sym (seek_none r l (not_T (has same_reference r l) (miss j (h (no_lower r l a)))))
