-- What shaped transactions make ascends: their outputs by index, those of one before those of the next by number.
use Rattle.std.specs.Prelude.{refl, ℕ, T}
use Rattle.std.proofs.Common.{sym, subst, ltb→lt}
use mathlib.Core.List.{List, Memᴰ}
use Rattle.sets.specs.Sets.{ascending}
use Rattle.sets.specs.Order.{ascending_mapped, ascending-keep, ascending-gather}
use Rattle.rules.specs.declared.Number.{Number}
use Rattle.rules.specs.declared.Entry.{Entry}
use Rattle.rules.specs.Chain as Chain
use Rattle.rules.specs.Chain.{before_number, before_entry, before_output, before_transaction, entry_of, makes, made, is_own, shaped_transaction, shaped_block}
use Rattle.rules.specs.ChainLaws.{before_reference_number, before_reference_index}
use Rattle.rules.specs.ShapeLaws.{shaped_facts, shaped_block_facts}
use Rattle.rules.specs.States.{own_made}
use Rattle.soundness.specs.Orders.{before_entry_trans, before_transaction_trans}
use Rattle.soundness.specs.Made.{block_transactions_shaped, makes_number}

makes_ascending : (t : Chain.Transaction) → T (shaped_transaction t) → T (ascending before_entry (makes t))
makes_ascending t h =
    ascending_mapped before_output before_entry (entry_of t.number)
    (λ x y k. before_reference_index (entry_of t.number x).reference (entry_of t.number y).reference refl (ltb→lt x.index y.index k))
    t.outputs (shaped_facts t h).outputs_ascend

made_in_order : (t u : Chain.Transaction) (e f : Entry) → T (before_transaction t u) → Memᴰ e (makes t) → Memᴰ f (makes u) → T (before_entry e f)
made_in_order t u e f h m n =
    before_reference_number e.reference f.reference
    (subst (λ (x : Number). T (before_number x f.reference.number)) (sym (makes_number t e m))
    (subst (λ (x : Number). T (before_number t.number x)) (sym (makes_number u f n)) h))

-- what ascending shaped transactions make
pub made_ascending :
    (l : List Chain.Transaction) → T (ascending before_transaction l) → ((t : Chain.Transaction) → Memᴰ t l → T (shaped_transaction t)) →
    T (ascending before_entry (made l))
made_ascending l t shaped =
    ascending-gather before_entry before_entry_trans before_transaction before_transaction_trans makes made_in_order l t
    (λ u m. makes_ascending u (shaped u m))

-- the own outputs of a shaped block
pub own_made_ascending : (own : List ℕ) (b : Chain.Block) → T (shaped_block b) → T (ascending before_entry (own_made own b))
own_made_ascending own b h =
    ascending-keep before_entry before_entry_trans (is_own own) (made b)
    (made_ascending b (shaped_block_facts b h).block_ascends (block_transactions_shaped b h))
