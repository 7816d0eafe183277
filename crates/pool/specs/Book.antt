-- What the steps do to the pool. Each is shown to be the rule's doing on the view.
use Rattle.std.specs.Prelude.{ℕ, ◌+◌, ◌-◌, ◌/◌, min, Bool, not, cond, ◌&&◌, ◌||◌, List, [], ◌∷◌, ◌++◌, map, eqb, length, take, replicate}
use Rattle.sets.specs.Fill.{filled}
use Rattle.sets.specs.Sets.{has, keep, place}
use Rattle.rules.specs.declared.Reference.{Reference}
use Rattle.rules.specs.declared.Entry.{Entry}
use Rattle.rules.specs.Sizes.{most_states, most_payments, most_references}
use Rattle.rules.specs.Chain as Chain
use Rattle.rules.specs.Chain.{same_reference, same_entry, spent}
use Rattle.rules.specs.States.{own_made, spends}
use Rattle.chain.specs.View.{view_transaction, zero_reference, zero_transaction}
use Rattle.chain.specs.declared.Transaction.{Transaction}
use Rattle.pool.specs.declared.Held.{Held}
use Rattle.pool.specs.declared.Payment.{Payment}
use Rattle.pool.specs.declared.Pool.{Pool}
use Rattle.pool.specs.Marks.{marked, raised, lowered}
use Rattle.pool.specs.View.{entries_of, payments_of}
use Rattle.pool.specs.Good.{before_held, before_payment}

-- two ascending lists into one
module _ {A : Type 0} where
  abbrev pub merge_ahead : (A → A → Bool) → A → (List A → List A) → List A → List A
  merge_ahead before x rest [] = x ∷ rest []
  merge_ahead before x rest (y ∷ m) = let ahead = merge_ahead before x rest m in cond (before y x) (y ∷ ahead) (x ∷ rest (y ∷ m))

  abbrev pub merge : (A → A → Bool) → List A → List A → List A
  merge before [] m = m
  merge before (x ∷ l) m = merge_ahead before x (merge before l) m

-- a place with at least one mark
abbrev pub held_marked : Held → Bool
held_marked h = not (eqb h.utxo 0 && eqb h.expected 0)

abbrev pub payment_marked : Payment → Bool
payment_marked p = not (eqb p.pending 0)

-- Block: `made` are its own outputs, `gone` the references that it spends.
abbrev pub held_after_block : List Entry → List Reference → Held → Held
held_after_block made gone h =
    record {
      entry = h.entry;
      utxo =
          raised h.utxo
          ((marked 0 h.utxo || has same_entry h.entry made) && not (has same_reference h.entry.reference gone));
      expected = raised h.expected (marked 0 h.expected && not (has same_entry h.entry made));
    }

-- an own output that the block does not spend and the pool does not hold yet
abbrev pub is_fresh : List Held → List Reference → Entry → Bool
is_fresh es gone e = not (has same_reference e.reference gone) && not (has same_entry e (map (λ h. h.entry) es))

abbrev pub fresh_held : Entry → Held
fresh_held e = record { entry = e; utxo = 1; expected = 0 }

unfoldable pub entries_after_block : List Entry → List Reference → List Held → List Held
entries_after_block made gone es =
    merge before_held
    (keep held_marked (map (held_after_block made gone) es))
    (map fresh_held (keep (is_fresh es gone) made))

abbrev pub payment_after_block : List Reference → Payment → Payment
payment_after_block gone p =
    record {
      transaction = p.transaction;
      pending = raised p.pending (marked 0 p.pending && not (spends gone (view_transaction p.transaction)));
    }

unfoldable pub payments_after_block : List Reference → List Payment → List Payment
payments_after_block gone ps = keep payment_marked (map (payment_after_block gone) ps)

-- Rollback: with marks 0 and 1 for the state that goes and the one below it.
abbrev pub held_after_rollback : Held → Held
held_after_rollback h =
    record {
      entry = h.entry;
      utxo = h.utxo / 2;
      expected =
          lowered h.expected
          ((marked 0 h.expected || marked 1 h.expected || marked 0 h.utxo) && not (marked 1 h.utxo));
    }

unfoldable pub entries_after_rollback : List Held → List Held
entries_after_rollback es = keep held_marked (map held_after_rollback es)

-- a payment that is pending in either of the two is pending now
abbrev pub payment_after_rollback : Payment → Payment
payment_after_rollback p =
    record {
      transaction = p.transaction;
      pending = lowered p.pending (marked 0 p.pending || marked 1 p.pending);
    }

unfoldable pub payments_after_rollback : List Payment → List Payment
payments_after_rollback ps = map payment_after_rollback ps

-- Payment: one place more, in its order, pending in the present state alone.
unfoldable pub payments_after_payment : Transaction → List Payment → List Payment
payments_after_payment t ps = place before_payment (record { transaction = t; pending = 1 }) ps

-- the places of an array: a list, and zeros behind it
abbrev pub zero_held : Held
zero_held =
    record {
      entry = record { reference = zero_reference; address = 0; amount = 0 };
      utxo = 0;
      expected = 0;
    }

abbrev pub zero_payment : Payment
zero_payment = record { transaction = zero_transaction; pending = 0 }

-- the wallet with these entries and payments, and n states below the present one
abbrev pub with_pool : Pool → ℕ → List Held → List Payment → Pool
with_pool w n es ps =
    record {
      own = w.own;
      owns = w.owns;
      below = n;
      entries = filled most_references zero_held es;
      used = length es;
      payments = filled most_payments zero_payment ps;
      paying = length ps;
    }

unfoldable pub book_block : Pool → Chain.Block → Pool
book_block w b =
    with_pool w (min (most_states - 1) (w.below + 1))
    (entries_after_block (own_made (take w.owns w.own) b) (spent b) (entries_of w))
    (payments_after_block (spent b) (payments_of w))

unfoldable pub book_payment : Pool → Transaction → Pool
book_payment w t = with_pool w w.below (entries_of w) (payments_after_payment t (payments_of w))

unfoldable pub book_rollback : Pool → Pool
book_rollback w = with_pool w (w.below - 1) (entries_after_rollback (entries_of w)) (payments_after_rollback (payments_of w))
