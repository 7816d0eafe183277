-- What shaped transactions and shaped blocks make: one reference is made once, and no amount is above the largest.
use Rattle.std.specs.Prelude.{◌≡◌, ◌⊎◌, ◌≤◌, T, eqb, leb}
use Rattle.std.proofs.Common.{sym, ap, subst, ◌∙◌, ⊎_elim, arith, leb→le, eqb→eq, ltb→lt, lt→ltb}
use mathlib.Core.List.{Memᴰ}
use Rattle.sets.specs.Tests.{and_left, and_right}
use Rattle.sets.specs.Laws.{all_elim, map_elim, gather_elim}
use Rattle.sets.specs.Count.{ascending_two}
use Rattle.rules.specs.declared.Number.{Number}
use Rattle.rules.specs.declared.Output.{Output}
use Rattle.rules.specs.declared.Entry.{Entry}
use Rattle.rules.specs.Sizes.{largest_amount}
use Rattle.rules.specs.Chain.{same_number, before_number, before_output, same_entry, Transaction, before_transaction, Block, entry_of, makes, made, shaped_transaction, shaped_block}
use Rattle.rules.specs.ShapeLaws.{shaped_facts, shaped_block_facts}
use Rattle.rules.specs.ChainLaws.{same_number_eq, before_number_irrefl, before_number_trans}

-- ── shape, member by member

pub shaped_amounts : (t : Transaction) → T (shaped_transaction t) → (o : Output) → Memᴰ o t.outputs → o.amount ≤ largest_amount
shaped_amounts t h o m =
    leb→le o.amount largest_amount (all_elim (λ (o : Output). leb o.amount largest_amount) (shaped_facts t h).amounts_fit m)

pub block_transactions_shaped : (b : Block) → T (shaped_block b) → (t : Transaction) → Memᴰ t b → T (shaped_transaction t)
block_transactions_shaped b h t m = all_elim shaped_transaction (shaped_block_facts b h).each_shaped m

-- ── one reference is made once

-- what a transaction makes has its number
pub makes_number : (t : Transaction) (e : Entry) → Memᴰ e (makes t) → e.reference.number ≡ t.number
makes_number t e m = let r = map_elim (entry_of t.number) t.outputs m in ap (λ (x : Entry). x.reference.number) r.2

-- the two parts of one reference
pub same_entry_number : (e f : Entry) → T (same_entry e f) → e.reference.number ≡ f.reference.number
same_entry_number e f s =
    same_number_eq e.reference.number f.reference.number
    (and_left (same_number e.reference.number f.reference.number) (eqb e.reference.index f.reference.index) s)

pub same_entry_index : (e f : Entry) → T (same_entry e f) → e.reference.index ≡ f.reference.index
same_entry_index e f s =
    eqb→eq e.reference.index f.reference.index
    (and_right (same_number e.reference.number f.reference.number) (eqb e.reference.index f.reference.index) s)

-- of one shaped transaction
pub makes_once : (t : Transaction) → T (shaped_transaction t) → (e f : Entry) → Memᴰ e (makes t) → Memᴰ f (makes t) → T (same_entry e f) → e ≡ f
makes_once t h e f m n s =
    let a = map_elim (entry_of t.number) t.outputs m in
    let b = map_elim (entry_of t.number) t.outputs n in
    let i : a.0.index ≡ b.0.index =
    sym (ap (λ (x : Entry). x.reference.index) a.2) ∙ same_entry_index e f s ∙ ap (λ (x : Entry). x.reference.index) b.2
    in
    let d : a.0 ≡ b.0 =
    ⊎_elim
    (λ (q : a.0 ≡ b.0). q)
    (λ (q : T (before_output a.0 b.0) ⊎ T (before_output b.0 a.0)).
    absurd
    (⊎_elim
    (λ (u : T (before_output a.0 b.0)). omega (arith, i, ltb→lt a.0.index b.0.index u))
    (λ (u : T (before_output b.0 a.0)). omega (arith, i, ltb→lt b.0.index a.0.index u))
    q))
    (ascending_two before_output
    (λ x y z u v. lt→ltb x.index z.index (omega (arith, ltb→lt x.index y.index u, ltb→lt y.index z.index v)))
    t.outputs (shaped_facts t h).outputs_ascend a.1 b.1)
    in
    a.2 ∙ ap (entry_of t.number) d ∙ sym b.2

-- two transactions of a shaped block with one number are one
pub block_number_once : (b : Block) → T (shaped_block b) → (t u : Transaction) → Memᴰ t b → Memᴰ u b → t.number ≡ u.number → t ≡ u
block_number_once b h t u m n e =
    ⊎_elim
    (λ (q : t ≡ u). q)
    (λ (q : T (before_transaction t u) ⊎ T (before_transaction u t)).
    absurd
    (⊎_elim
    (λ (k : T (before_transaction t u)). before_number_irrefl u.number (subst (λ (x : Number). T (before_number x u.number)) e k))
    (λ (k : T (before_transaction u t)). before_number_irrefl u.number (subst (λ (x : Number). T (before_number u.number x)) e k))
    q))
    (ascending_two before_transaction
    (λ x y z k l. before_number_trans x.number y.number z.number k l)
    b (shaped_block_facts b h).block_ascends m n)

-- of one shaped block
pub made_once : (b : Block) → T (shaped_block b) → (e f : Entry) → Memᴰ e (made b) → Memᴰ f (made b) → T (same_entry e f) → e ≡ f
made_once b h e f m n s =
    let t = gather_elim makes b m in
    let u = gather_elim makes b n in
    let q : t.0 ≡ u.0 =
    block_number_once b h t.0 u.0 t.1 u.1
    (sym (makes_number t.0 e t.2) ∙ same_entry_number e f s ∙ makes_number u.0 f u.2)
    in
    makes_once u.0 (block_transactions_shaped b h u.0 u.1) e f
    (subst (λ (x : Transaction). Memᴰ e (makes x)) q t.2)
    u.2 s

-- no amount made by a shaped transaction is above the largest
pub makes_amounts : (t : Transaction) → T (shaped_transaction t) → (e : Entry) → Memᴰ e (makes t) → e.amount ≤ largest_amount
makes_amounts t h e m =
    let r = map_elim (entry_of t.number) t.outputs m in
    omega (arith, shaped_amounts t h r.0 r.1, ap (λ (x : Entry). x.amount) r.2)
