-- Numbers in bytes: writing a number that fits and reading it gives it back, and bytes are the writing of what they make.
use Rattle.std.specs.Prelude.{◌≡◌, refl, List, [], ◌∷◌, ℕ, zero, suc, ◌+◌, ◌*◌, ◌/◌, ◌%◌, ◌^◌, ◌<◌, T, length}
use Rattle.std.proofs.Common.{ap, ◌∙◌, arith, ltb→lt}
use Rattle.std.proofs.Math.Nat.{pow-succ'}
use Rattle.sets.specs.Sets.{all}
use Rattle.sets.specs.Tests.{and_left, and_right}
use Rattle.rules.specs.declared.Number.{Number}
use Rattle.format.specs.Fields.{little}
use Rattle.format.specs.Bodies.{number_of, serial_of}
use Rattle.format.specs.Writing.{write_number, is_byte}

pub written_length : (width n : ℕ) → length (write_number width n) ≡ width
written_length zero n = refl
written_length (suc width) n = ap suc (written_length width (n / 256))

-- a number that fits is read back
pub little_written : (width n : ℕ) → n < 256 ^ width → little (write_number width n) ≡ n
little_written zero n h = omega arith
little_written (suc width) n h =
    let p : 256 ^ suc width ≡ 256 * 256 ^ width = pow-succ' 256 width in
    let r : little (write_number width (n / 256)) ≡ n / 256 = little_written width (n / 256) (omega arith) in
    omega arith

-- some bytes are the writing of the number that they make
pub written_little : (l : List ℕ) → T (all is_byte l) → write_number (length l) (little l) ≡ l
written_little [] t = refl
written_little (b ∷ l) t =
    let h : b < 256 = ltb→lt b 256 (and_left (is_byte b) (all is_byte l) t) in
    let first : (b + 256 * little l) % 256 ≡ b = omega arith in
    let rest : (b + 256 * little l) / 256 ≡ little l = omega arith in
    let r : write_number (length l) (little l) ≡ l = written_little l (and_right (is_byte b) (all is_byte l) t) in
    λ i. first i ∷ (ap (λ (n : ℕ). write_number (length l) n) rest ∙ r) i

-- ── transaction numbers: the only laws that look inside

pub number_of_serial : (n : Number) → number_of (serial_of n) ≡ n
unfolding number_of serial_of
number_of_serial n = refl

pub serial_of_number : (n : ℕ) → serial_of (number_of n) ≡ n
unfolding number_of serial_of
serial_of_number n = refl
