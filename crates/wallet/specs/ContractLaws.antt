-- What the contracts leave open: nothing. Two results that a contract allows are equal, a refused step hands back the
-- very wallet that came in, a sound wallet stays sound, and a movement has its range.
use Rattle.std.specs.Prelude.{ℕ, ◌*◌, ◌≤◌, ◌≡◌, Bool, not, List, map, T, ℤ, pos, nat_abs}
use Rattle.std.proofs.Common.{arith, sym, ap, subst, ◌∙◌, ⊎_elim}
use Rattle.std.proofs.lemmas.Simd.{map-map}
use Rattle.sets.specs.Tests.{T-cases}
use Rattle.sets.specs.Sets.{keep}
use Rattle.rules.specs.Sizes.{largest_amount, most_references}
use Rattle.rules.specs.States as States
use Rattle.rules.specs.Steps as Steps
use Rattle.rules.specs.Sound.{sound}
use Rattle.rules.specs.Calls.{Call, step}
use Rattle.soundness.specs.Refused.{refused_unchanged}
use Rattle.soundness.specs.Bounds.{movement_bound}
use Rattle.soundness.specs.Kept.{opening_sound, step_sound}
use Rattle.chain.specs.View.{view_transaction}
use Rattle.pool.specs.declared.Payment.{Payment}
use Rattle.pool.specs.Marks.{marked}
use Rattle.pool.specs.View.{payments_of}
use Rattle.pool.specs.Good.{laid_out}
use Rattle.pool.specs.LayoutLaws.{good_laid_out, good_view, laid_out_good}
use Rattle.pool.specs.ViewLaws.{view_one}
use Rattle.wallet.specs.declared.Wallet.{Wallet}
use Rattle.wallet.specs.declared.Step.{Step}
use Rattle.wallet.specs.Contract.{viewed, is_sound, Reads, refused_step, Stepped, pending_structs}

-- two laid out wallets that show one wallet of the rules are one
pub wallet_one : (w v : Wallet) → T (laid_out w.pool) → T (laid_out v.pool) → viewed w ≡ viewed v → w ≡ v
wallet_one w v s t e =
    let p = view_one w.pool v.pool s t e in
    λ i. record { pool = p i }

-- ── one result

-- two steps of the code that read as one step of the rules are equal
pub reads_one : {r q : Step} {s : Steps.Step} → Reads r s → Reads q s → r ≡ q
reads_one {r} {q} {s} a b =
    let w = wallet_one r.wallet q.wallet a.laid b.laid (a.wallet ∙ sym b.wallet) in
    let n = a.answer ∙ sym b.answer in
    let m = a.movement ∙ sym b.movement in
    λ i. record { wallet = w i; answer = n i; movement = m i }

-- two results that a step's contract allows are equal
pub stepped_one : {w : Wallet} {laid : Bool} {rule : Steps.Step} {r q : Step} → Stepped w laid rule r → Stepped w laid rule q → r ≡ q
stepped_one {w} {laid} {rule} {r} {q} a b =
    ⊎_elim
    (λ (g : T (is_sound w)).
    ⊎_elim
    (λ (t : T laid). reads_one (a.booked g t) (b.booked g t))
    (λ (t : T (not laid)). a.broken g t ∙ sym (b.broken g t))
    (T-cases laid))
    (λ (g : T (not (is_sound w))). a.unsound g ∙ sym (b.unsound g))
    (T-cases (is_sound w))

-- ── refused

-- what a refused step hands back
abbrev pub Unchanged : Wallet → Step → Type 0
Unchanged w r = (r.wallet ≡ w) × (r.movement ≡ pos 0)

refused_same : (w : Wallet) (r : Step) (n : ℕ) → r ≡ refused_step w n → Unchanged w r
refused_same w r n e = (ap (λ (s : Step). s.wallet) e, ap (λ (s : Step). s.movement) e)

-- where the rule's refusal changes nothing, the code's hands back the very wallet, and movement 0
pub stepped_unchanged :
    {w : Wallet} {laid : Bool} {rule : Steps.Step} {r : Step} → Stepped w laid rule r →
    ((rule.answer ≡ 0 → ⊥) → (rule.wallet ≡ viewed w) × (rule.movement ≡ pos 0)) →
    (r.answer ≡ 0 → ⊥) → Unchanged w r
stepped_unchanged {w} {laid} {rule} {r} a unchanged refused =
    ⊎_elim
    (λ (g : T (is_sound w)).
    ⊎_elim
    (λ (t : T laid).
    let k = a.booked g t in
    let u = unchanged (λ (e : rule.answer ≡ 0). refused (k.answer ∙ e)) in (
      wallet_one r.wallet w k.laid (good_laid_out w.pool g) (k.wallet ∙ u.0),
      k.movement ∙ u.1,
    ))
    (λ (t : T (not laid)). refused_same w r 1 (a.broken g t))
    (T-cases laid))
    (λ (g : T (not (is_sound w))). refused_same w r 9 (a.unsound g))
    (T-cases (is_sound w))

-- a refused block, payment or rollback hands back the very wallet, and movement 0
pub call_unchanged :
    {w : Wallet} {laid : Bool} {r : Step} (c : Call) → Stepped w laid (step (viewed w) c) r →
    (r.answer ≡ 0 → ⊥) → Unchanged w r
call_unchanged {w} c a refused = stepped_unchanged a (refused_unchanged (viewed w) c) refused

-- ── sound

-- a step that reads as one to a sound wallet gives a sound wallet
pub reads_sound : {r : Step} {s : Steps.Step} → Reads r s → T (sound s.wallet) → T (is_sound r.wallet)
reads_sound {r} {s} a t =
    laid_out_good r.wallet.pool a.laid (subst (λ (v : States.Wallet). T (sound v)) (sym a.wallet) t)

-- an opening, refused or not, gives a sound wallet
pub opened_sound : {r : Step} (own : List ℕ) → Reads r (Steps.opening own) → T (is_sound r.wallet)
opened_sound own a = reads_sound a (opening_sound own)

-- a block, payment or rollback, refused or not, keeps a sound wallet sound
pub stepped_sound :
    {w : Wallet} {laid : Bool} {r : Step} (c : Call) → Stepped w laid (step (viewed w) c) r →
    T (is_sound w) → T (is_sound r.wallet)
stepped_sound {w} {laid} {r} c a g =
    ⊎_elim
    (λ (t : T laid). reads_sound (a.booked g t) (step_sound (viewed w) c (good_view w.pool g)))
    (λ (t : T (not laid)).
    subst (λ (v : Wallet). T (is_sound v)) (sym (refused_same w r 1 (a.broken g t)).0) g)
    (T-cases laid)

-- ── how far

unmoved : (r : Step) → r.movement ≡ pos 0 → nat_abs r.movement ≤ most_references * largest_amount
unmoved r e = subst (λ (z : ℤ). nat_abs z ≤ most_references * largest_amount) (sym e) (omega arith)

-- the movement of a block, payment or rollback lies between minus and plus the largest available balance
pub stepped_movement :
    {w : Wallet} {laid : Bool} {r : Step} (c : Call) → Stepped w laid (step (viewed w) c) r →
    nat_abs r.movement ≤ most_references * largest_amount
stepped_movement {w} {laid} {r} c a =
    ⊎_elim
    (λ (g : T (is_sound w)).
    ⊎_elim
    (λ (t : T laid).
    subst (λ (z : ℤ). nat_abs z ≤ most_references * largest_amount) (sym (a.booked g t).movement)
    (movement_bound (viewed w) c (good_view w.pool g)))
    (λ (t : T (not laid)). unmoved r (refused_same w r 1 (a.broken g t)).1)
    (T-cases laid))
    (λ (g : T (not (is_sound w))). unmoved r (refused_same w r 9 (a.unsound g)).1)
    (T-cases (is_sound w))

-- ── what is pending

-- the structs that `pending_list` hands out hold the present pending set of the rules
pub pending_told : (w : Wallet) → map view_transaction (pending_structs w) ≡ (viewed w).present.pending
pending_told w = map-map view_transaction (λ (p : Payment). p.transaction) (keep (λ (p : Payment). marked 0 p.pending) (payments_of w.pool))
