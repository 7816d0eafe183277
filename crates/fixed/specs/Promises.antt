-- What contracts of more than one equation let through, where a list is handed out or left behind: one answer.
use Rattle.std.specs.Prelude.{ℕ, ◌≡◌, ◌≤◌, List, length}
use Rattle.std.proofs.Common.{◌∙◌, sym}
use Rattle.fixed.specs.declared.Filled.{Filled}
use Rattle.fixed.specs.Filled.{with_item, with_items}

-- a slice of which the items are told, and a bound on their number
pub slice_one : {T : Type 0} {most : ℕ} {r q items : List T} → (r ≡ items) × (length r ≤ most) → (q ≡ items) × (length q ≤ most) → r ≡ q
slice_one e f = e.0 ∙ sym f.0

-- the list left behind
pub pushed_one : {T : Type 0} {n : ℕ} (old r q : Filled T n) (item : T) → r ≡ with_item old item → q ≡ with_item old item → r ≡ q
pushed_one old r q item e f = e ∙ sym f

pub extended_one : {T : Type 0} {n : ℕ} (old r q : Filled T n) (items : List T) → r ≡ with_items old items → q ≡ with_items old items → r ≡ q
extended_one old r q items e f = e ∙ sym f
