-- A number as the code puts it together: byte by byte from the highest down, each turn with room for one byte more.
use Rattle.std.specs.Prelude.{◌≡◌, not, List, ℕ, suc, ◌+◌, ◌-◌, ◌*◌, ◌^◌, ◌≤◌, ◌<◌, T, ltb, length, get_or, take}
use Rattle.std.proofs.Common.{sym, ap, subst, ◌∙◌, ⊎_elim, arith, ltb→lt, drop_of_length-le, ltb-false}
use Rattle.std.proofs.Math.Nat.{pow-succ', pow-le-pow_right}
use Rattle.std.proofs.Math.ListN.{get_or-eq_default}
use Rattle.std.proofs.Math.Seq.{take-nil}
use Rattle.sets.specs.Tests.{T-cases, is_false}
use Rattle.format.specs.Fields.{little, number_at}
use Rattle.format.specs.Loops.{number_more}

-- behind the end every number is 0
pub number_behind : (width : ℕ) (bytes : List ℕ) (place : ℕ) → length bytes ≤ place → number_at width bytes place ≡ 0
number_behind width bytes place h =
    ap (λ (l : List ℕ). little (take width l)) (drop_of_length-le bytes {i = place} h) ∙ ap little (take-nil width)

-- a number's first byte, and the others at the next place, at any place
pub number_first : (width : ℕ) (bytes : List ℕ) (place : ℕ) →
    number_at (suc width) bytes place ≡ get_or bytes place 0 + 256 * number_at width bytes (place + 1)
number_first width bytes place =
    ⊎_elim
    (λ (t : T (ltb place (length bytes))). number_more width bytes place (ltb→lt place (length bytes) t))
    (λ (t : T (not (ltb place (length bytes)))).
    let h : length bytes ≤ place = ltb-false place (length bytes) (is_false (ltb place (length bytes)) t) in
    omega
    (arith, number_behind (suc width) bytes place h, number_behind width bytes (place + 1) (omega arith), get_or-eq_default bytes 0 {n = place} h))
    (T-cases (ltb place (length bytes)))

-- what the code has put together from byte i of a number up
pub record From (bytes : List ℕ) (place width value i : ℕ) : Type 0 where
  pub within : i ≤ width
  pub made : value ≡ number_at (width - i) bytes (place + i)
  pub fits : value < 256 ^ (width - i)

-- at first there is none
pub from_start : (bytes : List ℕ) (place width : ℕ) → From bytes place width 0 width
from_start bytes place width =
    let e : width - width ≡ 0 = omega arith in
    record {
      within = omega arith;
      made = ap (λ (k : ℕ). number_at k bytes (place + width)) (sym e);
      fits = subst (λ (k : ℕ). 0 < 256 ^ k) (sym e) (omega arith);
    }

-- one byte more
pub from_step : (bytes : List ℕ) (place width value i byte : ℕ) → From bytes place width value i → 0 < i →
    byte ≡ get_or bytes (place + (i - 1)) 0 → byte < 256 → From bytes place width (value * 256 + byte) (i - 1)
from_step bytes place width value i byte f h e small =
    let w = f.within in
    let k : width - (i - 1) ≡ suc (width - i) = omega arith in
    let p : place + (i - 1) + 1 ≡ place + i = omega arith in
    let n = number_first (width - i) bytes (place + (i - 1)) in
    let m : number_at (width - i) bytes (place + (i - 1) + 1) ≡ value = ap (λ (q : ℕ). number_at (width - i) bytes q) p ∙ sym f.made in
    let x : 256 ^ suc (width - i) ≡ 256 * 256 ^ (width - i) = pow-succ' 256 (width - i) in
    let y = f.fits in
    record {
      within = omega arith;
      made = subst (λ (j : ℕ). value * 256 + byte ≡ number_at j bytes (place + (i - 1))) (sym k) (omega (arith, n, m));
      fits = subst (λ (j : ℕ). value * 256 + byte < 256 ^ j) (sym k) (omega (arith, x, y));
    }

-- there is room for it
pub from_room : (bytes : List ℕ) (place width value i : ℕ) → From bytes place width value i → 0 < i → width ≤ 8 → value < 256 ^ 7
from_room bytes place width value i f h w =
    let p : 256 ^ (width - i) ≤ 256 ^ 7 = pow-le-pow_right (omega arith) {j = 7} (omega arith) in
    omega (arith, p, f.fits)

-- at last the whole number is there
pub from_end : (bytes : List ℕ) (place width value i : ℕ) → From bytes place width value i → i ≤ 0 →
    (value ≡ number_at width bytes place) × (value < 256 ^ width)
from_end bytes place width value i f h =
    let k : width - i ≡ width = omega arith in
    let p : place + i ≡ place = omega arith in (
      f.made ∙ ap (λ (q : ℕ). number_at (width - i) bytes q) p ∙ ap (λ (j : ℕ). number_at j bytes place) k,
      subst (λ (j : ℕ). value < 256 ^ j) k f.fits,
    )
