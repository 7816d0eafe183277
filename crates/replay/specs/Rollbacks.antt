-- An accepted rollback keeps the invariant: the newest block stands no more, and the payments that it took away are
-- pending again, beside those accepted since.
use Rattle.std.specs.Prelude.{ℕ, suc, ◌≤◌, ◌≡◌, refl, not, T, ltb, drop}
use Rattle.std.proofs.Common.{arith, sym, ap, ◌∙◌, ⊎_elim, ltb→lt, nltb→le}
use mathlib.Core.List.Memᴰ
use mathlib.Core.List.{List, [], ◌∷◌, Memᴰ}
use Rattle.sets.specs.Tests.{T-cases}
use Rattle.rules.specs.Chain.{Transaction}
use Rattle.rules.specs.States.{State, rolled_back, back_to, after_rollback}
use Rattle.rules.specs.Steps.{roll_back}
use Rattle.rules.specs.Calls.{back_call, step}
use Rattle.replay.specs.Log.{Accepted, Standing, Log, Run, accepted_call}
use Rattle.replay.specs.Invariant.{Untouched, PendingBefore, Stands, StandBelow, Invariant, stands_later}
use Rattle.replay.specs.Answers.{rollback_alone}
use Rattle.replay.specs.Payments.{payments_from, payments_old, payments_new}

-- The state rolled back to stands without the newest block.
pub stands_back :
    (own : List ℕ) (accepted : List Accepted) (upto : ℕ) (b : Standing) (older : List Standing) (s q : State) →
    Stands own accepted upto (b ∷ older) s → Stands own accepted b.moment older q →
    Stands own accepted upto older (rolled_back s q)
unfolding rolled_back
stands_back own accepted upto b older s q v u =
    record {
      unspent = u.unspent;
      pending_only =
          λ p m.
          ⊎_elim
          (λ (k : Memᴰ p q.pending).
          let h = u.pending_only p k in
          (h.0, h.1, h.2, omega (arith, v.standing_before b (Memᴰ.head refl)), h.4))
          (λ (k : Memᴰ p s.pending).
          let h = v.pending_only p k in
          (h.0, h.1, h.2, h.3, λ d n. h.4 d (Memᴰ.tail n)))
          (payments_from q.pending s.pending p m);
      pending_all =
          λ p (h : PendingBefore accepted upto older p).
          ⊎_elim
          -- accepted before the block: pending below
          (λ (t : T (ltb h.0.moment b.moment)).
          payments_old q.pending s.pending p
          (u.pending_all p (h.0, h.1, h.2, ltb→lt h.0.moment b.moment t, h.4)))
          -- accepted after the block: not touched by it
          (λ (t : T (not (ltb h.0.moment b.moment))).
          payments_new q.pending s.pending p
          (v.pending_all p (h.0, h.1, h.2, h.3, since p h (nltb→le h.0.moment b.moment t))))
          (T-cases (ltb h.0.moment b.moment));
      standing_before = λ d m. v.standing_before d (Memᴰ.tail m);
    }
  where
    since :
        (p : Transaction) (h : PendingBefore accepted upto older p) → b.moment ≤ h.0.moment → Untouched h.0 (b ∷ older) p
    since p h le d m l =
        ⊎_elim
        (λ (e : d ≡ b).
        let f : d.moment ≡ b.moment = ap (λ (c : Standing). c.moment) e in
        let no : ⊥ = omega arith in
        absurd no)
        (λ (k : Memᴰ d older). h.4 d k l)
        (Memᴰ.cases_cons m)

-- The invariant after an accepted rollback: it is accepted only where there is a state to go back to.
pub invariant_rollback :
    (r : Run) → (step r.wallet back_call).answer ≡ 0 → Invariant r →
    Invariant (record { wallet = after_rollback r.wallet; log = accepted_call r.log back_call })
unfolding after_rollback
invariant_rollback r e v = back r.wallet.below r.log.standing e v.present v.below
  where
    own : List ℕ
    own = r.wallet.own

    s : State
    s = r.wallet.present

    g : Log
    g = r.log

    back :
        (below : List State) (standing : List Standing) →
        (roll_back (record { own = own; present = s; below = below })).answer ≡ 0 →
        Stands own g.accepted g.now standing s → StandBelow own g.accepted standing below →
        Invariant
        (record {
          wallet = back_to own s below;
          log = record { now = suc g.now; accepted = g.accepted; standing = drop 1 standing };
        })
    back [] standing e h k =
        let n = rollback_alone own s in
        let f : 0 ≡ suc n.0 = sym e ∙ n.1 in
        let no : ⊥ = omega arith in
        absurd no
    back (q ∷ rest) [] e h k = absurd k
    back (q ∷ rest) (b ∷ older) e h k =
        record {
          accepted_before = λ a m. omega (arith, v.accepted_before a m);
          present =
              stands_later own g.accepted g.now (suc g.now) older (rolled_back s q) (omega arith) v.accepted_before
              (stands_back own g.accepted g.now b older s q h k.0);
          below = k.1;
        }
