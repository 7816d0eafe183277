-- The total balance as the available balance and a sum over the pool: over the own outputs of pending payments that no
-- pending payment takes and no available place has.
use Rattle.std.specs.Prelude.{ℕ, ◌+◌, ◌≡◌, refl, Bool, not, ◌&&◌, List, ◌++◌, T}
use Rattle.std.proofs.Common.{sym, ap, subst, ◌∙◌}
use mathlib.Core.List.Memᴰ
use Rattle.sets.specs.Sets.{any, has, keep, ascending, once}
use Rattle.sets.specs.Laws.{keep_same, keep-keep, total-append}
use Rattle.sets.specs.Order.{ascending-keep, ascending-once}
use Rattle.sets.specs.Once.{once-append}
use Rattle.sets.specs.Maps.{any-map, any-keep}
use Rattle.sets.specs.Picks.{pick_ascending}
use Rattle.rules.specs.declared.Entry.{Entry}
use Rattle.rules.specs.Chain as Chain
use Rattle.rules.specs.Chain.{same_reference, same_entry, before_entry, made, spent, worth, is_own}
use Rattle.rules.specs.States.{State, own_made}
use Rattle.rules.specs.Balances.{available, change, available_balance, total_balance}
use Rattle.soundness.specs.Orders.{before_entry_irrefl, before_entry_trans, before_entry_never, same_entry_turned}
use Rattle.soundness.specs.Facts.{held_pending}
use Rattle.pool.specs.declared.Held.{Held}
use Rattle.pool.specs.declared.Payment.{Payment}
use Rattle.pool.specs.declared.Pool.{Pool}
use Rattle.pool.specs.View.{entries_of, payments_of, pending_at, view}
use Rattle.pool.specs.Good.{laid_out, good}
use Rattle.pool.specs.LayoutLaws.{laid_out_facts, good_laid_out, good_sound}
use Rattle.pool.specs.MadeLaws.{made_ascending}
use Rattle.pool.specs.RefusalLaws.{is_available, stands_available, available_places}

-- ── change

-- an own output of a pending payment that no pending payment takes and no available place has
abbrev pub is_change : List ℕ → List Held → List Payment → Entry → Bool
is_change own es ps e =
    is_own own e
    && not (has same_reference e.reference (spent (pending_at 0 ps)))
    && not (stands_available es ps e.reference)

available_once : (w : Pool) → T (laid_out w) → once same_entry (available (view w).present) ≡ available (view w).present
available_once w t =
    ascending-once before_entry before_entry_trans before_entry_irrefl same_entry before_entry_never (available (view w).present)
    (subst (λ (l : List Entry). T (ascending before_entry l)) (sym (available_places w))
    (pick_ascending (λ (h : Held). h.entry) before_entry before_entry_trans (is_available (payments_of w)) (entries_of w) (laid_out_facts w t).entries_ascend))

change_once : (own : List ℕ) (s : State) → T (ascending before_entry (made s.pending)) → once same_entry (change own s) ≡ change own s
unfolding change
change_once own s t =
    ascending-once before_entry before_entry_trans before_entry_irrefl same_entry before_entry_never (change own s)
    (ascending-keep before_entry before_entry_trans (λ e. not (has same_reference e.reference (spent s.pending))) (own_made own s.pending)
    (ascending-keep before_entry before_entry_trans (is_own own) (made s.pending) t))

pending_made_ascending : (w : Pool) → T (good w) → T (ascending before_entry (made (pending_at 0 (payments_of w))))
pending_made_ascending w t =
    let k = good_sound w t in
    made_ascending (pending_at 0 (payments_of w)) (k.pending_ascending (view w).present (Memᴰ.head refl))
    (λ u m. k.payments_shaped u (held_pending (view w) (Memᴰ.head refl) m))

change_new :
    (own : List ℕ) (w : Pool) →
    keep (λ e. not (any (λ f. same_entry f e) (available (view w).present))) (change own (view w).present)
    ≡ keep (is_change own (entries_of w) (payments_of w)) (made (pending_at 0 (payments_of w)))
unfolding change
change_new own w =
    let free : Entry → Bool = λ e. not (has same_reference e.reference (spent (pending_at 0 (payments_of w)))) in
    let made-now : List Entry = made (pending_at 0 (payments_of w)) in
    let p : Entry → Bool = λ e. not (any (λ f. same_entry f e) (available (view w).present)) in
    ap (keep p) (keep-keep free (is_own own) made-now)
    ∙ keep-keep p (λ e. is_own own e && free e) made-now
    ∙ keep_same (λ e. (is_own own e && free e) && p e) (is_change own (entries_of w) (payments_of w)) made-now
    (λ e m. ap (λ (b : Bool). (is_own own e && free e) && not b) (stands e))
  where
    stands : (e : Entry) → any (λ f. same_entry f e) (available (view w).present) ≡ stands_available (entries_of w) (payments_of w) e.reference
    stands e =
        ap (any (λ f. same_entry f e)) (available_places w)
        ∙ any-map (λ f. same_entry f e) (λ h. h.entry) (keep (is_available (payments_of w)) (entries_of w))
        ∙ any-keep (λ h. same_entry h.entry e) (is_available (payments_of w)) (entries_of w)
        ∙ (λ t. any (λ h. same_entry_turned h.entry e t && is_available (payments_of w) h) (entries_of w))

-- the total balance is the available balance and the sum of the change
pub total_pool :
    (w : Pool) → T (good w) → (own : List ℕ) →
    total_balance own (view w).present ≡ available_balance (view w).present + worth (keep (is_change own (entries_of w) (payments_of w)) (made (pending_at 0 (payments_of w))))
unfolding total_balance available_balance
total_pool w t own =
    let s : State = (view w).present in
    let fresh : List Entry → List Entry = keep (λ e. not (any (λ f. same_entry f e) (available s))) in
    let a : once same_entry (available s) ≡ available s = available_once w (good_laid_out w t) in
    let c : fresh (once same_entry (change own s)) ≡ keep (is_change own (entries_of w) (payments_of w)) (made (pending_at 0 (payments_of w))) =
    ap fresh (change_once own s (pending_made_ascending w t)) ∙ change_new own w
    in
    let whole : once same_entry (available s ++ change own s) ≡ available s ++ keep (is_change own (entries_of w) (payments_of w)) (made (pending_at 0 (payments_of w))) =
    once-append same_entry (available s) (change own s) ∙ (λ i. a i ++ c i)
    in
    ap worth whole ∙ total-append (λ e. e.amount) (available s) (keep (is_change own (entries_of w) (payments_of w)) (made (pending_at 0 (payments_of w))))
