-- The decimal digits: as the library io has them, digit by digit, and how many there are.
use Rattle.std.specs.Prelude.{ℕ, zero, suc, ◌+◌, ◌-◌, ◌/◌, ◌%◌, ◌^◌, ◌≤◌, ◌<◌, ◌≡◌, refl, Bool, cond, List, [], ◌∷◌, ◌++◌, length}
use Rattle.std.proofs.Common.{sym, ap, ap₂, subst, ◌∙◌, pow-suc, mod-lt, mod-eq_of_lt, arith, length-append, lt-ltb}
use Rattle.std.proofs.Math.Nat.{mod-add-div'}
use Rattle.io.specs.Digits.{hex_digit_ascii, last_digits, IsDigitCount}
use Rattle.lines.specs.Sheet.{digit, digits_within, decimal}

-- ── as the library io has them

glyph_digit : (d : ℕ) → d < 10 → hex_digit_ascii d ≡ digit d
glyph_digit d h = ap (λ (b : Bool). cond b (48 + d) (87 + d)) (lt-ltb d 10 h)

-- the last of them
last_digit : (n : ℕ) → hex_digit_ascii (n % 10) ≡ digit (n % 10)
last_digit n = glyph_digit (n % 10) (mod-lt n (omega arith))

none : (f : ℕ) → digits_within f 0 ≡ []
none zero = refl
none (suc f) = refl

-- a tenth of a number of so many digits has one fewer
tenth_least : (r n : ℕ) → (0 < r → 10 ^ r ≤ n) → 0 < r → 10 ^ (r - 1) ≤ n / 10
tenth_least zero n low g = absurd (omega arith)
tenth_least (suc r) n low g =
    let one : r ≡ suc r - 1 = omega arith in
    subst (λ (e : ℕ). 10 ^ e ≤ n / 10) one (omega (arith, low g, pow-suc 10 r, mod-add-div' n 10, mod-lt n {m = 10} (omega arith)))

tenth_most : (r n : ℕ) → n < 10 ^ suc r → n / 10 < 10 ^ r
tenth_most r n h = omega (arith, pow-suc 10 r, mod-add-div' n 10)

within : (r f n : ℕ) → n ≤ f → n < 10 ^ r → (0 < r → 10 ^ (r - 1) ≤ n) → last_digits 10 r n ≡ digits_within f n
within zero f n h most low =
    let e : 0 ≡ n = omega arith in
    sym (none f) ∙ ap (digits_within f) e
within (suc r) f zero h most low =
    let one : suc r - 1 ≡ r = omega arith in
    absurd (omega (arith, subst (λ (e : ℕ). 10 ^ e ≤ 0) one (low (omega arith)), pow_pos r))
  where
    pow_pos : (r : ℕ) → 1 ≤ 10 ^ r
    pow_pos zero = omega arith
    pow_pos (suc r) = omega (arith, pow-suc 10 r, pow_pos r)
within (suc r) zero (suc k) h most low = absurd (omega arith)
within (suc r) (suc f) (suc k) h most low =
    let one : suc r - 1 ≡ r = omega arith in
    let least : 10 ^ r ≤ suc k = subst (λ (e : ℕ). 10 ^ e ≤ suc k) one (low (omega arith)) in
    ap₂ (λ (l : List ℕ) (d : ℕ). l ++ d ∷ [])
    (within r f (suc k / 10) (omega (arith, mod-add-div' (suc k) 10)) (tenth_most r (suc k) most) (tenth_least r (suc k) (λ (g : 0 < r). least)))
    (last_digit (suc k))

-- The digits that the library writes are the number's.
pub decimal_digits : (n r : ℕ) → IsDigitCount 10 1 n r → last_digits 10 r n ≡ decimal n
unfolding decimal
decimal_digits n zero k = absurd (omega (arith, k.0))
decimal_digits n (suc r) k =
    let one : suc r - 1 ≡ r = omega arith in
    ap₂ (λ (l : List ℕ) (d : ℕ). l ++ d ∷ [])
    (within r n (n / 10) (omega (arith, mod-add-div' n 10)) (tenth_most r n k.1)
    (tenth_least r n (λ (g : 0 < r). subst (λ (e : ℕ). 10 ^ e ≤ n) one (k.2 (omega arith)))))
    (last_digit n)

-- ── digit by digit

-- any bound that is large enough gives the same
enough : (f g n : ℕ) → n ≤ f → n ≤ g → digits_within f n ≡ digits_within g n
enough zero g n h k =
    let e : 0 ≡ n = omega arith in
    sym (none g) ∙ ap (digits_within g) e
enough (suc f) zero n h k =
    let e : n ≡ 0 = omega arith in
    ap (digits_within (suc f)) e
enough (suc f) (suc g) zero h k = refl
enough (suc f) (suc g) (suc n) h k =
    let d = mod-add-div' (suc n) 10 in
    ap (λ (l : List ℕ). l ++ digit (suc n % 10) ∷ []) (enough f g (suc n / 10) (omega arith) (omega arith))

-- A number below ten is its digit; any other is the text of its tenth and then its last digit.
pub decimal_one : (n : ℕ) → n < 10 → decimal n ≡ digit n ∷ []
unfolding decimal
decimal_one n h =
    let tenth : n / 10 ≡ 0 = omega (arith, mod-add-div' n 10) in
    ap₂ (λ (m d : ℕ). digits_within n m ++ digit d ∷ []) tenth (mod-eq_of_lt h)
    ∙ ap (λ (l : List ℕ). l ++ digit n ∷ []) (none n)

all_digits : (f n : ℕ) → n ≤ f → 0 < n → digits_within f n ≡ decimal n
unfolding decimal
all_digits f zero h g = absurd (omega arith)
all_digits zero (suc n) h g = absurd (omega arith)
all_digits (suc f) (suc n) h g =
    let d = mod-add-div' (suc n) 10 in
    ap (λ (l : List ℕ). l ++ digit (suc n % 10) ∷ []) (enough f (suc n) (suc n / 10) (omega arith) (omega arith))

shown : (n : ℕ) → decimal n ≡ digits_within n (n / 10) ++ digit (n % 10) ∷ []
unfolding decimal
shown n = refl

pub decimal_more : (n : ℕ) → 10 ≤ n → decimal n ≡ decimal (n / 10) ++ digit (n % 10) ∷ []
decimal_more n h =
    let d = mod-add-div' n 10 in
    let m = mod-lt n {m = 10} (omega arith) in
    shown n ∙ ap (λ (l : List ℕ). l ++ digit (n % 10) ∷ []) (all_digits n (n / 10) (omega arith) (omega arith))

-- ── how many

few : (f k n : ℕ) → n < 10 ^ k → length (digits_within f n) ≤ k
few zero k n h = omega arith
few (suc f) k zero h = omega arith
few (suc f) zero (suc n) h = absurd (omega arith)
few (suc f) (suc k) (suc n) h =
    omega (
      arith,
      length-append (digits_within f (suc n / 10)) (digit (suc n % 10) ∷ []),
      few f k (suc n / 10) (tenth_most k (suc n) h),
    )

-- A number below a power of ten has at most so many digits.
pub decimal_few : (k n : ℕ) → n < 10 ^ suc k → length (decimal n) ≤ suc k
unfolding decimal
decimal_few k n h =
    omega (arith, length-append (digits_within n (n / 10)) (digit (n % 10) ∷ []), few n k (n / 10) (tenth_most k n h))
