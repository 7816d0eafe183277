-- Laws of mark words: what raising and lowering do to each mark, and that a word is its marks.
use Rattle.std.specs.Prelude.{ℕ, zero, suc, ◌+◌, ◌*◌, ◌/◌, ◌%◌, ◌^◌, ◌<◌, ◌≡◌, refl, Bool, false, not, ◌&&◌, T, eqb}
use Rattle.std.proofs.Common.{ap, subst, ◌∙◌, ⊎_elim, not-suc-le-zero, le_of_suc-le-suc, pow-suc, pow_pos, arith, T_not, eqb→eq}
use Rattle.std.proofs.Math.Arith.{mod-mul}
use Rattle.std.proofs.Math.Dec.{not_T}
use Rattle.sets.specs.Tests.{T-cases, neqb→ne, ne→neqb, and_left, and_right, and_both}
use Rattle.sets.specs.Fill.{flag_most}
use Rattle.sets.specs.Words.{bit_low, bit_rest, digit_set, digit_clear}
use Rattle.sets.specs.Marks.{half_fits}
use Rattle.pool.specs.Marks.{marked, bit, raised, lowered, apart_marks}

-- a mark put under the others, as raising and lowering count it
turned : (n : ℕ) (b : Bool) → n * 2 + bit b ≡ bit b + 2 * n
turned n b = omega arith

bit_odd : (n : ℕ) (b : Bool) → marked 0 (n * 2 + bit b) ≡ b
bit_odd n b = ap (marked 0) (turned n b) ∙ bit_low b n

bit_half : (n : ℕ) (b : Bool) → (n * 2 + bit b) / 2 ≡ n
bit_half n b = ap (λ (m : ℕ). m / 2) (turned n b) ∙ bit_rest b n

-- no mark in 0, and one in 1
pub marked_zero : (k : ℕ) → marked k 0 ≡ false
marked_zero zero = refl
marked_zero (suc k) = marked_zero k

pub marked_one : (k : ℕ) → marked (suc k) 1 ≡ false
marked_one k = marked_zero k

-- a word with a mark is not 0
pub marked_some : (k m : ℕ) → T (marked k m) → T (not (eqb m 0))
marked_some k m t =
    not_T (eqb m 0)
    (λ (z : T (eqb m 0)). subst (λ (b : Bool). T b) (ap (marked k) (eqb→eq m 0 z) ∙ marked_zero k) t)

-- the low bit and the rest of a word below 2 ^ suc n
low : (n m : ℕ) → m % 2 ^ suc n ≡ m / 2 % 2 ^ n * 2 + m % 2
low n m = ap (λ (x : ℕ). m % x) (pow-suc 2 n) ∙ mod-mul m (pow_pos n) (omega arith)

-- marks below n do not see what stands above
pub marked_rest : (k n m : ℕ) → k < n → marked k (m % 2 ^ n) ≡ marked k m
marked_rest k zero m h = absurd (not-suc-le-zero h)
marked_rest zero (suc n) m h =
    let odd : m % 2 ^ suc n % 2 ≡ m % 2 = omega (arith, low n m) in
    ap (λ (r : ℕ). eqb r 1) odd
marked_rest (suc k) (suc n) m h =
    let half : m % 2 ^ suc n / 2 ≡ m / 2 % 2 ^ n = omega (arith, low n m) in
    ap (marked k) half ∙ marked_rest k n (m / 2) (le_of_suc-le-suc h)

-- ── one state more

pub raised_present : (m : ℕ) (b : Bool) → marked 0 (raised m b) ≡ b
raised_present m b = bit_odd (m % 128) b

pub raised_below : (k m : ℕ) (b : Bool) → k < 7 → marked (suc k) (raised m b) ≡ marked k m
raised_below k m b h = ap (marked k) (bit_half (m % 128) b) ∙ marked_rest k 7 m h

-- ── one state less

pub lowered_present : (m : ℕ) (b : Bool) → marked 0 (lowered m b) ≡ b
lowered_present m b = bit_odd (m / 4) b

pub lowered_below : (k m : ℕ) (b : Bool) → marked (suc k) (lowered m b) ≡ marked (suc (suc k)) m
lowered_below k m b =
    let quarter : m / 4 ≡ m / 2 / 2 = omega arith in
    ap (marked k) (bit_half (m / 4) b ∙ quarter)

-- ── bounds

-- the present mark alone
pub one_fits : (n : ℕ) → 1 < 2 ^ suc n
one_fits n = omega (arith, pow-suc 2 n, pow_pos n)

pub raised_fits : (n m : ℕ) (b : Bool) → m < 2 ^ n → raised m b < 2 ^ suc n
raised_fits n m b h = omega (arith, pow-suc 2 n, flag_most b)

-- never more than eight states
pub raised_eight : (m : ℕ) (b : Bool) → raised m b < 2 ^ 8
raised_eight m b = omega (arith, flag_most b)

pub lowered_fits : (n m : ℕ) (b : Bool) → m < 2 ^ suc (suc n) → lowered m b < 2 ^ suc n
lowered_fits n m b h = omega (arith, pow-suc 2 n, pow-suc 2 (suc n), flag_most b)

-- ── a word is its marks

odd_same : (a b : ℕ) → marked 0 a ≡ marked 0 b → a % 2 ≡ b % 2
odd_same a b e =
    ⊎_elim
    (λ (t : T (marked 0 a)). omega (arith, digit_set a t, digit_set b (subst (λ (c : Bool). T c) e t)))
    (λ (t : T (not (marked 0 a))). omega (arith, digit_clear a t, digit_clear b (subst (λ (c : Bool). T (not c)) e t)))
    (T-cases (marked 0 a))

pub word_one : (n a b : ℕ) → a < 2 ^ n → b < 2 ^ n → ((k : ℕ) → k < n → marked k a ≡ marked k b) → a ≡ b
word_one zero a b h k f = omega arith
word_one (suc n) a b h k f =
    let low_bits : a % 2 ≡ b % 2 = odd_same a b (f 0 (omega arith)) in
    let rest : a / 2 ≡ b / 2 =
    word_one n (a / 2) (b / 2) (half_fits n a h) (half_fits n b k) (λ j q. f (suc j) (omega arith))
    in
    omega arith

-- a word that is not 0 has a mark
pub word_some : (n a : ℕ) → a < 2 ^ n → T (not (eqb a 0)) → (k : ℕ) × (k < n) × T (marked k a)
word_some zero a h t = absurd (neqb→ne a 0 t (omega arith))
word_some (suc n) a h t =
    ⊎_elim
    (λ (p : T (marked 0 a)). (0, omega arith, p))
    (λ (p : T (not (marked 0 a))).
    let even : a % 2 ≡ 0 = digit_clear a p in
    let some : T (not (eqb (a / 2) 0)) = ne→neqb (a / 2) 0 (λ (z : a / 2 ≡ 0). neqb→ne a 0 t (omega arith)) in
    let r = word_some n (a / 2) (half_fits n a h) some in
    (suc r.0, omega (arith, r.1), r.2))
    (T-cases (marked 0 a))

-- a mark stands only in a word that is large enough
pub marked_fits : (n k a : ℕ) → a < 2 ^ n → T (marked k a) → k < n
marked_fits zero k a h t =
    let z : a ≡ 0 = omega arith in
    absurd (subst (λ (b : Bool). T b) (ap (marked k) z ∙ marked_zero k) t)
marked_fits (suc n) zero a h t = omega arith
marked_fits (suc n) (suc k) a h t = omega (arith, marked_fits n k (a / 2) (half_fits n a h) t)

-- ── marks apart

pub apart_elim : (n a b k : ℕ) → T (apart_marks n a b) → k < n → T (marked k a) → T (marked k b) → ⊥
apart_elim zero a b k t h p q = absurd (not-suc-le-zero h)
apart_elim (suc n) a b zero t h p q =
    T_not (marked 0 a && marked 0 b)
    (and_left (not (marked 0 a && marked 0 b)) (apart_marks n (a / 2) (b / 2)) t)
    (and_both (marked 0 a) (marked 0 b) p q)
apart_elim (suc n) a b (suc k) t h p q =
    apart_elim n (a / 2) (b / 2) k (and_right (not (marked 0 a && marked 0 b)) (apart_marks n (a / 2) (b / 2)) t) (le_of_suc-le-suc h) p q

pub apart_intro : (n a b : ℕ) → ((k : ℕ) → k < n → T (marked k a) → T (marked k b) → ⊥) → T (apart_marks n a b)
apart_intro zero a b f = tt
apart_intro (suc n) a b f =
    and_both (not (marked 0 a && marked 0 b)) (apart_marks n (a / 2) (b / 2))
    (not_T (marked 0 a && marked 0 b)
    (λ t. f 0 (omega arith) (and_left (marked 0 a) (marked 0 b) t) (and_right (marked 0 a) (marked 0 b) t)))
    (apart_intro n (a / 2) (b / 2) (λ k h p q. f (suc k) (omega arith) p q))
