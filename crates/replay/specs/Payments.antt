-- An accepted payment keeps the invariant: it is pending in the present state, and the states below do not see it.
use Rattle.std.specs.Prelude.{ℕ, suc, ◌<◌, ◌≤◌, ◌≡◌, refl, ◌⊎◌}
use Rattle.std.proofs.Common.{arith, sym, ap, ◌∙◌, inl, inr, ⊎_elim}
use mathlib.Core.List.Memᴰ
use mathlib.Core.List.{List, [], ◌∷◌, Memᴰ}
use Rattle.sets.specs.Laws.{together_from, together_left, together_both}
use Rattle.rules.specs.Chain.{Transaction, same_transaction, before_transaction}
use Rattle.rules.specs.ChainLaws.{same_transaction_refl, same_transaction_eq}
use Rattle.rules.specs.States.{State, with_payments, after_payment}
use Rattle.rules.specs.Calls.{pay_call}
use Rattle.replay.specs.Log.{Accepted, Standing, Run, accepted_call}
use Rattle.replay.specs.Invariant.{PendingBefore, Stands, StandBelow, Invariant}

-- the payments of two sets together are those of either
pub payments_from :
    (s new : List Transaction) (p : Transaction) → Memᴰ p (with_payments s new) → Memᴰ p s ⊎ Memᴰ p new
payments_from s new p m = together_from same_transaction before_transaction s new m

pub payments_old : (s new : List Transaction) (p : Transaction) → Memᴰ p s → Memᴰ p (with_payments s new)
payments_old s new p m = together_left same_transaction before_transaction s new m

pub payments_new : (s new : List Transaction) (p : Transaction) → Memᴰ p new → Memᴰ p (with_payments s new)
payments_new s new p m = together_both same_transaction before_transaction s new same_transaction_refl same_transaction_eq m

-- A state does not see a payment accepted at its moment or later.
pub stands_unseen :
    (own : List ℕ) (accepted : List Accepted) (a : Accepted) (upto : ℕ) (standing : List Standing) (s : State) →
    upto ≤ a.moment → Stands own accepted upto standing s → Stands own (a ∷ accepted) upto standing s
stands_unseen own accepted a upto standing s h v =
    record {
      unspent = v.unspent;
      pending_only = λ p m. let k = v.pending_only p m in (k.0, Memᴰ.tail k.1, k.2, k.3, k.4);
      pending_all =
          λ p (k : PendingBefore (a ∷ accepted) upto standing p).
          ⊎_elim
          (λ (e : k.0 ≡ a).
          let q : k.0.moment ≡ a.moment = ap (λ (c : Accepted). c.moment) e in
          let l : k.0.moment < upto = k.3 in
          let no : ⊥ = omega arith in
          absurd no)
          (λ (m : Memᴰ k.0 accepted). v.pending_all p (k.0, m, k.2, k.3, k.4))
          (Memᴰ.cases_cons k.1);
      standing_before = v.standing_before;
    }

-- Nor do the states below it.
pub below_unseen :
    (own : List ℕ) (accepted : List Accepted) (a : Accepted) (standing : List Standing) (below : List State) →
    ((b : Standing) → Memᴰ b standing → b.moment ≤ a.moment) → StandBelow own accepted standing below →
    StandBelow own (a ∷ accepted) standing below
below_unseen own accepted a standing [] h v = tt
below_unseen own accepted a [] (q ∷ rest) h v = absurd v
below_unseen own accepted a (b ∷ older) (q ∷ rest) h v = (
  stands_unseen own accepted a b.moment older q (h b (Memᴰ.head refl)) v.0,
  below_unseen own accepted a older rest (λ d m. h d (Memᴰ.tail m)) v.1,
)

-- The invariant after an accepted payment.
pub invariant_payment :
    (r : Run) (p : Transaction) → Invariant r →
    Invariant (record { wallet = after_payment r.wallet p; log = accepted_call r.log (pay_call p) })
unfolding after_payment
invariant_payment r p v =
    let w = r.wallet in
    let g = r.log in
    let new : Accepted = record { moment = g.now; payment = p } in
    record {
      accepted_before =
          λ a m.
          ⊎_elim
          (λ (e : a ≡ new). let q : a.moment ≡ g.now = ap (λ (c : Accepted). c.moment) e in omega arith)
          (λ (k : Memᴰ a g.accepted). omega (arith, v.accepted_before a k))
          (Memᴰ.cases_cons m);
      present =
          record {
            unspent = v.present.unspent;
            pending_only =
                λ u m.
                ⊎_elim
                (λ (k : Memᴰ u w.present.pending).
                let h = v.present.pending_only u k in
                (h.0, Memᴰ.tail h.1, h.2, omega arith, h.4))
                (λ (k : Memᴰ u (p ∷ [])). accepted_now u (Memᴰ.cases_cons k))
                (payments_from w.present.pending (p ∷ []) u m);
            pending_all =
                λ u (h : PendingBefore (new ∷ g.accepted) (suc g.now) g.standing u).
                ⊎_elim
                (λ (e : h.0 ≡ new).
                payments_new w.present.pending (p ∷ []) u
                (Memᴰ.head (sym h.2 ∙ ap (λ (a : Accepted). a.payment) e)))
                (λ (k : Memᴰ h.0 g.accepted).
                payments_old w.present.pending (p ∷ []) u
                (v.present.pending_all u (h.0, k, h.2, v.accepted_before h.0 k, h.4)))
                (Memᴰ.cases_cons h.1);
            standing_before = λ d m. omega (arith, v.present.standing_before d m);
          };
      below =
          below_unseen w.own g.accepted new g.standing w.below
          (λ d m. omega (arith, v.present.standing_before d m))
          v.below;
    }
  where
    accepted_now :
        (u : Transaction) → (u ≡ p) ⊎ Memᴰ u [] →
        PendingBefore (record { moment = r.log.now; payment = p } ∷ r.log.accepted) (suc r.log.now) r.log.standing u
    accepted_now u (inl e) = (
      record { moment = r.log.now; payment = p },
      Memᴰ.head refl,
      sym e,
      omega arith,
      λ b m l s. omega (arith, v.present.standing_before b m),
    )
    accepted_now u (inr k) = absurd (Memᴰ.not-nil k)
