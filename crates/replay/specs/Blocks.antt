-- An accepted block keeps the invariant: the old state goes below the new one, and the oldest may be let go.
use Rattle.std.specs.Prelude.{suc, ◌-◌, ◌<◌, ◌≡◌, refl, not, T}
use Rattle.std.proofs.Common.{arith, sym, ap, subst, ⊎_elim, T_not}
use mathlib.Core.List.Memᴰ
use mathlib.Core.List.{List, ◌∷◌, Memᴰ}
use Rattle.std.proofs.Math.Dec.{not_T}
use Rattle.sets.specs.Sets.{has}
use Rattle.sets.specs.Laws.{any_intro, any_elim, keep_from, keep_holds, keep_intro}
use Rattle.rules.specs.declared.Entry.{Entry}
use Rattle.rules.specs.Sizes.{most_states}
use Rattle.rules.specs.Chain.{same_reference, Transaction, Block, spent}
use Rattle.rules.specs.ChainLaws.{same_reference_refl, same_reference_eq}
use Rattle.rules.specs.States.{states, spends, block_utxo, block_pending, after_block}
use Rattle.rules.specs.Calls.{block_call}
use Rattle.replay.specs.Log.{Accepted, Standing, Run, accepted_call}
use Rattle.replay.specs.Demand.{SpendsAnInput}
use Rattle.replay.specs.Invariant.{Untouched, PendingBefore, Invariant, below_take}

-- The rules' test holds exactly when the block spends one of the payment's inputs.
pub spends_elim : (b : Block) (p : Transaction) → T (spends (spent b) p) → SpendsAnInput b p
spends_elim b p t =
    let k = any_elim (λ i. has same_reference i (spent b)) p.inputs t in
    let j = any_elim (same_reference k.0) (spent b) k.2 in
    (k.0, k.1, Memᴰ.cast (same_reference_eq k.0 j.0 j.2) j.1)

pub spends_intro : (b : Block) (p : Transaction) → SpendsAnInput b p → T (spends (spent b) p)
spends_intro b p k =
    any_intro (λ i. has same_reference i (spent b)) k.1 (any_intro (same_reference k.0) k.2 (same_reference_refl k.0))

-- A payment is pending after a block exactly when it was before and the block spends none of its inputs.
pub pending_kept :
    (pending : List Transaction) (b : Block) (p : Transaction) →
    Memᴰ p (block_pending pending b) → Memᴰ p pending × (SpendsAnInput b p → ⊥)
unfolding block_pending
pending_kept pending b p m = (
  keep_from (λ u. not (spends (spent b) u)) pending m,
  λ h. T_not (spends (spent b) p) (keep_holds (λ u. not (spends (spent b) u)) pending m) (spends_intro b p h),
)

pub pending_keeps :
    (pending : List Transaction) (b : Block) (p : Transaction) →
    Memᴰ p pending → (SpendsAnInput b p → ⊥) → Memᴰ p (block_pending pending b)
unfolding block_pending
pending_keeps pending b p m f =
    keep_intro (λ u. not (spends (spent b) u)) pending m (not_T (spends (spent b) p) (λ t. f (spends_elim b p t)))

-- untouched by older blocks, and not touched by the newest: untouched by all
untouched_more :
    (a : Accepted) (b : Standing) (older : List Standing) (p : Transaction) →
    Untouched a older p → (a.moment < b.moment → SpendsAnInput b.block p → ⊥) → Untouched a (b ∷ older) p
untouched_more a b older p f g d m =
    ⊎_elim
    (λ (e : d ≡ b). subst (λ (c : Standing). a.moment < c.moment → SpendsAnInput c.block p → ⊥) (sym e) g)
    (λ (k : Memᴰ d older). f d k)
    (Memᴰ.cases_cons m)

-- The invariant after an accepted block.
pub invariant_block :
    (r : Run) (b : Block) → Invariant r →
    Invariant (record { wallet = after_block r.wallet b; log = accepted_call r.log (block_call b) })
unfolding after_block
invariant_block r b v =
    let w = r.wallet in
    let g = r.log in
    let new : Standing = record { moment = g.now; block = b } in
    record {
      accepted_before = λ a m. omega (arith, v.accepted_before a m);
      present =
          record {
            unspent = ap (λ (u : List Entry). block_utxo w.own u b) v.present.unspent;
            pending_only =
                λ p m.
                let k = pending_kept w.present.pending b p m in
                let h = v.present.pending_only p k.0 in
                (h.0, h.1, h.2, omega arith, untouched_more h.0 new g.standing p h.4 (λ l. k.1));
            pending_all =
                λ p (h : PendingBefore g.accepted (suc g.now) (new ∷ g.standing) p).
                pending_keeps w.present.pending b p
                (v.present.pending_all p
                (h.0, h.1, h.2, v.accepted_before h.0 h.1, λ d m. h.4 d (Memᴰ.tail m)))
                (h.4 new (Memᴰ.head refl) (v.accepted_before h.0 h.1));
            standing_before =
                λ d m.
                ⊎_elim
                (λ (e : d ≡ new). let q : d.moment ≡ g.now = ap (λ (c : Standing). c.moment) e in omega arith)
                (λ (k : Memᴰ d g.standing). omega (arith, v.present.standing_before d k))
                (Memᴰ.cases_cons m);
          };
      below = below_take w.own g.accepted (new ∷ g.standing) (most_states - 1) (states w) (v.present, v.below);
    }
