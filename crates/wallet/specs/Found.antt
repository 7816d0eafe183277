-- What a search for references tells: a place below the end of the list searched, exactly where the reference is in it.
-- And so what the code's searches tell of a payment's inputs and of a block's outputs.
use Rattle.std.specs.Prelude.{ℕ, ◌+◌, ◌*◌, ◌^◌, ◌≤◌, ◌<◌, leb, sum_by, min, ◌≡◌, refl, Bool, List, [], ◌∷◌, map, T, ltb, length, get_or, take}
use Rattle.std.proofs.Common.{leb→le, sym, ap, ap₂, ◌∙◌, append-nil, arith, length-take}
use Rattle.std.proofs.lemmas.List.{length-map}
use Rattle.sets.specs.Sets.{any, all, has, keep, total}
use Rattle.std.proofs.lemmas.List.Recursion.{is_sum_by}
use Rattle.sets.specs.Laws.{all_elim, keep_from, total_bound}
use Rattle.rules.specs.Sizes.{largest_amount, most_outputs}
use Rattle.rules.specs.ShapeLaws.{shaped_facts}
use Rattle.rules.specs.declared.Output.{Output}
use Rattle.sets.specs.Maps.{any-map, any_same, all_map}
use Rattle.sets.specs.Fill.{filled_first}
use Rattle.rules.specs.declared.Reference.{Reference}
use Rattle.rules.specs.declared.Entry.{Entry}
use Rattle.rules.specs.Chain.{same_reference, same_entry, made, spent}
use Rattle.rules.specs.Balances.{available}
use Rattle.rules.specs.Sound.{agree}
use Rattle.chain.specs.View.{good_transaction, view_transaction, view_block}
use Rattle.chain.specs.ViewLaws.{good_facts}
use Rattle.chain.specs.declared.Transaction.{Transaction}
use Rattle.chain.specs.declared.Block.{Block}
use Rattle.pool.specs.declared.Pool.{Pool}
use Rattle.pool.specs.View.{entries_of, utxo_at, view}
use Rattle.pool.specs.Good.{good}
use Rattle.pool.specs.LayoutLaws.{good_layout}
use Rattle.flat.specs.Flat.{Refs}
use Rattle.flat.specs.Flat.{Made}
use Rattle.flat.specs.Flat.{Places}
use Rattle.flat.specs.Flat.{zero_entry, refs_of, made_of, places_of, block_of, refs_in, made_in, seek}
use Rattle.flat.specs.SeekLaws.{seek_found}
use Rattle.flat.specs.Told.{refs_back, made_back, count_of, tells}
use Rattle.audit.specs.Audit.{agrees_first}
use Rattle.audit.specs.AuditLaws.{all_agree_first}
use Rattle.balance.specs.Worth.{worth_within}
use Rattle.balance.specs.WorthLaws.{within_worth, available_within}
use Rattle.wallet.specs.Answers.{inputs_free, paid_in, paid_out, unspent_made, outputs_agree}

-- what a list laid flat holds
held_flat : (l : List Entry) (list : Made) → list ≡ made_of l → made_in list ≡ l
held_flat l list e = ap made_in e ∙ made_back l

-- 3: every input stands among the available entries
pub inputs_among :
    (w : Pool) (t : Transaction) (free : Made) → free ≡ made_of (available (view w).present) →
    all (λ i. has same_reference i (map (λ e. e.reference) (made_in free))) (take t.takes t.inputs) ≡ inputs_free w t
inputs_among w t free e =
    ap (λ (l : List Entry). all (λ i. has same_reference i (map (λ e. e.reference) l)) (take t.takes t.inputs))
    (held_flat (available (view w).present) free e)

-- 5: some output stands among the entries of the present UTxO
pub outputs_among :
    (w : Pool) (b : Block) (out unspent : Made) → out ≡ made_of (made (view_block b)) → unspent ≡ made_of (utxo_at 0 (entries_of w)) →
    any (λ r. has same_reference r (map (λ e. e.reference) (made_in unspent))) (map (λ e. e.reference) (made_in out)) ≡ unspent_made w b
outputs_among w b out unspent e f =
    ap₂ (λ (l m : List Entry). any (λ r. has same_reference r (map (λ e. e.reference) m)) (map (λ e. e.reference) l))
    (held_flat (made (view_block b)) out e)
    (held_flat utxo unspent f)
    ∙ any-map (λ x. has same_reference x (map (λ e. e.reference) utxo)) (λ (e : Entry). e.reference) (made (view_block b))
    ∙ any_same (λ e. has same_reference e.reference (map (λ x. x.reference) utxo)) (λ e. has same_entry e utxo) (made (view_block b))
    (λ e m. any-map (same_reference e.reference) (λ (x : Entry). x.reference) utxo)
  where
    utxo : List Entry
    utxo = utxo_at 0 (entries_of w)

-- 4: what the available entries that the inputs take are worth
pub inputs_worth :
    (w : Pool) (t : Transaction) (free : Made) → T (good w) → free ≡ made_of (available (view w).present) →
    worth_within (keep (λ e. has same_reference e.reference (take t.takes t.inputs)) (made_in free)) ≡ paid_in w t
inputs_worth w t free good-one e =
    ap (λ (l : List Entry). worth_within (keep is_input l)) (held_flat (available (view w).present) free e)
    ∙ within_worth (keep is_input (available (view w).present))
    (λ x m. available_within w good-one x (keep_from is_input (available (view w).present) m))
  where
    is_input : Entry → Bool
    is_input x = has same_reference x.reference (take t.takes t.inputs)

-- 6: the outputs' first agreements, asked of the list laid flat
pub outputs_told :
    (w : Pool) (b : Block) (out : Made) → T (good w) → out ≡ made_of (made (view_block b)) →
    all (λ o. agrees_first o (entries_of w)) (made_in out) ≡ outputs_agree w b
outputs_told w b out g e =
    all_agree_first (entries_of w) (made_in out) (good_layout w g).entries_ascend
    ∙ ap (all (λ o. all (λ h. agree o h.entry) (entries_of w))) (ap made_in e ∙ made_back (made (view_block b)))

-- 4: what the outputs of a payment come to; of a good one it fits 64 bits
pub outputs_sum : (t : Transaction) → sum_by (λ o. o.amount) (take t.makes t.outputs) ≡ paid_out t
outputs_sum t = sym (is_sum_by (total (λ (o : Output). o.amount)) (λ (o : Output). o.amount) refl (λ e m. refl) (take t.makes t.outputs))

pub outputs_small : (t : Transaction) → T (good_transaction t) → length (take t.makes t.outputs) ≤ most_outputs → sum_by (λ o. o.amount) (take t.makes t.outputs) < 2 ^ 64
outputs_small t g few =
    let amounts = (shaped_facts (view_transaction t) (good_facts t g).1).amounts_fit in
    omega (
      arith,
      outputs_sum t,
      total_bound (λ (o : Output). o.amount) largest_amount (take t.makes t.outputs)
          (λ o m. leb→le o.amount largest_amount (all_elim (λ (x : Output). leb x.amount largest_amount) amounts m)),
    )
