-- What the code's answers say in the format's words, case by case.
use Rattle.std.specs.Prelude.{◌≡◌, Bool, List, [], ℕ, ◌^◌, ◌<◌, T, IfOk, IfErr}
use Rattle.std.specs.Prelude as Std
use Rattle.std.specs.Prelude.{Some, None, Result, Ok, Err}
use Rattle.std.proofs.Math.Option.{Option, none, some}
use Rattle.format.specs.Fields.{Reading, Reader, got, fault, field}
use Rattle.chain.specs.declared.Transaction.{Transaction}
use Rattle.chain.specs.View.{view_transaction}
use Rattle.rules.specs.Chain as Chain
use Rattle.rules.specs.declared.Number.{Number}
use Rattle.feed.specs.declared.fields.Fault.{Fault}

module _ {A : Type 0} where
  -- the reading of a field, or of an item: what was read and the next place, or a fault's place
  abbrev pub field_read : Result (A × ℕ) Fault → Reading A
  field_read (Ok (x, next)) = got x next
  field_read (Err f) = fault f.place

  -- the item before the present one, which the first does not have
  abbrev pub before : Std.Option A → Option A
  before None = none
  before (Some x) = some x

-- the transaction that a struct holds, where there is one
abbrev pub viewed : Option Transaction → Option Chain.Transaction
viewed none = none
viewed (some t) = some (view_transaction t)

-- a transaction of a number, for the one before: the next is held against its number alone
abbrev pub numbered : Option Number → Option Chain.Transaction
numbered none = none
numbered (some n) = some (record { number = n; inputs = []; outputs = [] })

-- a reader of one item in view of the one before it
abbrev pub ItemReader : Type 0 → Type 0
ItemReader A = Option A → Reader A

-- What a field's reading is: the format's; a number keeps the rule and fits its bytes, a fault is at the field's start.
pub record ReadsField (width : ℕ) (rule : ℕ → Bool) (bytes : List ℕ) (place : ℕ) (r : Result (ℕ × ℕ) Fault) : Type 0 where
  pub reading : field_read r ≡ field width rule bytes place
  pub kept : IfOk r (λ x. T (rule x.0))
  pub fits : IfOk r (λ x. x.0 < 256 ^ width)
  pub start : IfErr r (λ f. f.place ≡ place)
