-- A list in fixed memory: its items in the first places, and behind them what an unused place holds.
use Rattle.std.specs.Prelude.{ℕ, ◌+◌, cond, List, ltb, length, take, set}
use Rattle.std.specs.List.{fold}
use Rattle.sets.specs.Fill.{filled}
use Rattle.fixed.specs.declared.Filled.{Filled}

-- a list in n places
abbrev pub filled_of : {T : Type 0} → (n : ℕ) → T → List T → Filled T n
filled_of n unused l = record { items = filled n unused l; count = length l }

-- and back: the first places, as many as the count says
abbrev pub items_in : {T : Type 0} {n : ℕ} → Filled T n → List T
items_in f = take f.count f.items

-- with one item more; as it is where it is full
abbrev pub with_item : {T : Type 0} {n : ℕ} → Filled T n → T → Filled T n
with_item {n = n} f x = cond (ltb f.count n) (record { items = set f.items f.count x; count = f.count + 1 }) f

-- with more items, one behind the other
abbrev pub with_items : {T : Type 0} {n : ℕ} → Filled T n → List T → Filled T n
with_items f l = fold with_item f l
