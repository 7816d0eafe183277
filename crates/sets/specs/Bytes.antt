-- Parts of lists: two lists that agree on their first members agree on every part of these.
use Rattle.std.specs.Prelude.{◌≡◌, List, [], ◌∷◌, ℕ, zero, suc, ◌+◌, ◌≤◌, min, length, take, drop}
use Rattle.std.proofs.Common.{sym, ap, ◌∙◌, zero-add, suc-add, length-take, take-take}
use Rattle.std.proofs.Math.Seq.{take-nil}

module _ {A : Type 0} where
  -- lists that agree on their first n members agree on fewer
  pub agree_fewer : (m n : ℕ) (a b : List A) → m ≤ n → take n a ≡ take n b → take m a ≡ take m b
  agree_fewer m n a b h e = sym (take-take m n a h) ∙ ap (λ (l : List A). take m l) e ∙ take-take m n b h

  -- a part of a list is the end of its first members
  pub part_of_first : (p k : ℕ) (l : List A) → take k (drop p l) ≡ drop p (take (p + k) l)
  part_of_first zero k l = ap (λ (n : ℕ). take n l) (sym (zero-add k))
  part_of_first (suc p) k [] = take-nil k ∙ sym (ap (λ (l : List A). drop (suc p) l) (take-nil (suc p + k)))
  part_of_first (suc p) k (x ∷ l) = part_of_first p k l ∙ ap (λ (n : ℕ). drop (suc p) (take n (x ∷ l))) (sym (suc-add p k))

  -- and on every part of them
  pub agree_part : (p k : ℕ) (a b : List A) → take (p + k) a ≡ take (p + k) b → take k (drop p a) ≡ take k (drop p b)
  agree_part p k a b e = part_of_first p k a ∙ ap (λ (l : List A). drop p l) e ∙ sym (part_of_first p k b)

  -- and in length, as far as they agree
  pub agree_length : (n : ℕ) (a b : List A) → take n a ≡ take n b → min n (length a) ≡ min n (length b)
  agree_length n a b e = sym (length-take n a) ∙ ap (λ (l : List A). length l) e ∙ length-take n b
