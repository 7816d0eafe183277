-- What the loops read and leave: pending payments as a block, references found among others, and what is available and
-- what is made, laid flat.
use Rattle.std.specs.Prelude.{ℕ, ◌+◌, ◌≤◌, ◌<◌, ◌≡◌, refl, Bool, true, false, not, ◌&&◌, List, map, length, get_or, take}
use Rattle.std.proofs.Common.{ap, sym, ◌∙◌, arith}
use Rattle.std.proofs.lemmas.Simd.{map-map}
use Rattle.sets.specs.Sets.{has, keep}
use Rattle.sets.specs.Laws.{keep-keep, keep_same}
use Rattle.sets.specs.Maps.{any-map, any-keep}
use Rattle.sets.specs.Fill.{filled, gained, Gaining, mapped_at}
use Rattle.rules.specs.declared.Reference.{Reference}
use Rattle.rules.specs.declared.Entry.{Entry}
use Rattle.rules.specs.Sizes.{most_references}
use Rattle.rules.specs.Chain as Chain
use Rattle.rules.specs.Chain.{same_reference, made, spent, is_own}
use Rattle.rules.specs.States.{own_made, without_references}
use Rattle.rules.specs.Balances.{available}
use Rattle.chain.specs.View.{view_transaction, view_block}
use Rattle.chain.specs.declared.Block.{Block}
use Rattle.pool.specs.declared.Held.{Held}
use Rattle.pool.specs.declared.Payment.{Payment}
use Rattle.pool.specs.declared.Pool.{Pool}
use Rattle.pool.specs.Marks.{marked}
use Rattle.pool.specs.View.{entries_of, payments_of, pending_at, utxo_at, view}
use Rattle.pool.specs.BalanceLaws.{is_change}
use Rattle.pool.specs.RefusalLaws.{is_available, stands_available, available_places}
use Rattle.fixed.specs.Filled.{items_in, with_item}
use Rattle.fixed.specs.Laws.{items-filled, kept_pushed, kept_passed}
use Rattle.flat.specs.Flat.{Made, Refs, Found}
use Rattle.flat.specs.Flat.{zero_entry, refs_of, made_of, found_of, block_of, refs_in, made_in}
use Rattle.flat.specs.Told.{refs_back, made_back, block_back}

-- the block of the payments that are pending holds them
pub pending_back : (ps : List Payment) → view_block (block_of (map (λ p. p.transaction) (keep (λ p. marked 0 p.pending) ps))) ≡ pending_at 0 ps
pending_back ps =
    let now : List Payment = keep (λ p. marked 0 p.pending) ps in
    block_back (map (λ p. p.transaction) now) ∙ map-map view_transaction (λ (p : Payment). p.transaction) now

-- ── what is left of a list without some references

-- of each entry of a list whether its reference was found
pub flags_are :
    (l : List Entry) (b : List Reference) (these : Refs) (found : Found) (flags : List Bool) →
    these ≡ refs_of (map (λ e. e.reference) l) → found ≡ found_of (map (λ x. has same_reference x b) (refs_in these)) → flags ≡ items_in found →
    flags ≡ map (λ e. has same_reference e.reference b) l
flags_are l b these found flags e h k =
    k
    ∙ ap items_in h
    ∙ items-filled most_references false (map (λ x. has same_reference x b) (refs_in these))
    ∙ ap (map (λ x. has same_reference x b)) (ap refs_in e ∙ refs_back (map (λ e. e.reference) l))
    ∙ map-map (λ x. has same_reference x b) (λ (y : Entry). y.reference) l

-- a turn of the loop that goes over a list and its flags, at an entry without the flag and at one with it
module _
    (p : Entry → Bool) (l : List Entry) (flags : List Bool) (e : flags ≡ map p l) (n m : ℕ) (x : Entry) (flag : Bool) (h : n < length l)
    (a : (d : Entry) → x ≡ get_or l n d) (b : (d : Bool) → flag ≡ get_or flags n d) (next : m ≡ n + 1) (old : Made)
    (so_far : old ≡ made_of (keep (λ y. not (p y)) (take n l))) where
  told : flag ≡ p (get_or l n zero_entry)
  told = b false ∙ ap (λ (q : List Bool). get_or q n false) e ∙ mapped_at p l n zero_entry false h

  pub left_pushed : (new : Made) → length l ≤ most_references → flag ≡ false → new ≡ with_item old x → new ≡ made_of (keep (λ y. not (p y)) (take m l))
  left_pushed new few f w =
      kept_pushed most_references zero_entry (λ y. not (p y)) l n zero_entry old new so_far h few (ap not (sym told ∙ f))
      (w ∙ ap (with_item old) (a zero_entry))
      ∙ ap (λ (k : ℕ). made_of (keep (λ y. not (p y)) (take k l))) (sym next)

  pub left_passed : flag ≡ true → old ≡ made_of (keep (λ y. not (p y)) (take m l))
  left_passed f =
      kept_passed most_references zero_entry (λ y. not (p y)) l n zero_entry old so_far h (ap not (sym told ∙ f))
      ∙ ap (λ (k : ℕ). made_of (keep (λ y. not (p y)) (take k l))) (sym next)

-- ── pending payments

-- what the pending payments take
pub taken_back :
    (ps : List Payment) (pending : Block) (taken : Refs) →
    pending ≡ block_of (map (λ p. p.transaction) (keep (λ p. marked 0 p.pending) ps)) → taken ≡ refs_of (spent (view_block pending)) →
    taken ≡ refs_of (spent (pending_at 0 ps))
taken_back ps pending taken e f = f ∙ ap (λ (b : Block). refs_of (spent (view_block b))) e ∙ ap (λ (l : List Chain.Transaction). refs_of (spent l)) (pending_back ps)

-- ── picked

-- after the last turn the array with its count is the list that was picked
pub picked_all :
    (live : ℕ → Bool) (at : ℕ → Entry) (end : ℕ) (kept : List Entry) (count i : ℕ) → end ≤ i →
    Gaining most_references zero_entry live at end kept count i → record { items = kept; count = count } ≡ made_of (gained live at end)
picked_all live at end kept count i h g =
    let here : i ≡ end = omega (arith, g.0) in
    let items : kept ≡ filled most_references zero_entry (gained live at end) = g.4 ∙ ap (λ (k : ℕ). filled most_references zero_entry (gained live at k)) here in
    let many : count ≡ length (gained live at end) = g.3 ∙ ap (λ (k : ℕ). length (gained live at k)) here in
    λ t. record { items = items t; count = many t }

-- ── laid flat

-- the references of the available entries are those that stand available
pub stands_free :
    (w : Pool) (r : Reference) →
    has same_reference r (map (λ e. e.reference) (available (view w).present)) ≡ stands_available (entries_of w) (payments_of w) r
stands_free w r =
    ap (λ (l : List Entry). has same_reference r (map (λ (e : Entry). e.reference) l)) (available_places w)
    ∙ any-map (same_reference r) (λ (e : Entry). e.reference) (map (λ (h : Held). h.entry) (keep (is_available (payments_of w)) (entries_of w)))
    ∙ any-map (λ (e : Entry). same_reference r e.reference) (λ (h : Held). h.entry) (keep (is_available (payments_of w)) (entries_of w))
    ∙ any-keep (λ (h : Held). same_reference r h.entry.reference) (is_available (payments_of w)) (entries_of w)

-- what is left of the unspent outputs without what the pending payments take is available
pub available_told :
    (w : Pool) (utxo m : Made) (taken : Refs) → utxo ≡ made_of (utxo_at 0 (entries_of w)) → taken ≡ refs_of (spent (pending_at 0 (payments_of w))) →
    m ≡ made_of (without_references (refs_in taken) (made_in utxo)) → m ≡ made_of (available (view w).present)
unfolding available
available_told w utxo m taken e f g =
    let unspent = ap made_in e ∙ made_back (utxo_at 0 (entries_of w)) in
    let spent_now = ap refs_in f ∙ refs_back (spent (pending_at 0 (payments_of w))) in
    g ∙ (λ t. made_of (without_references (spent_now t) (unspent t)))

-- the same, of the pending payments as a block and what it takes
pub free_told :
    (w : Pool) (pending : Block) (taken : Refs) (m : Made) →
    pending ≡ block_of (map (λ p. p.transaction) (keep (λ p. marked 0 p.pending) (payments_of w))) → taken ≡ refs_of (spent (view_block pending)) →
    m ≡ made_of (without_references (refs_in taken) (utxo_at 0 (entries_of w))) → m ≡ made_of (available (view w).present)
free_told w pending taken m e f g =
    let unspent = utxo_at 0 (entries_of w) in
    available_told w (made_of unspent) m taken refl (taken_back (payments_of w) pending taken e f)
    (g ∙ ap (λ (l : List Entry). made_of (without_references (refs_in taken) l)) (sym (made_back unspent)))

-- what is left of the own outputs without that and without what is available is the change
pub change_told :
    (w : Pool) (own left free m : Made) (taken here : Refs) →
    own ≡ made_of (own_made (take w.owns w.own) (pending_at 0 (payments_of w))) →
    taken ≡ refs_of (spent (pending_at 0 (payments_of w))) → left ≡ made_of (without_references (refs_in taken) (made_in own)) →
    free ≡ made_of (available (view w).present) → here ≡ refs_of (map (λ e. e.reference) (made_in free)) →
    m ≡ made_of (without_references (refs_in here) (made_in left)) →
    m ≡ made_of (keep (is_change (take w.owns w.own) (entries_of w) (payments_of w)) (made (pending_at 0 (payments_of w))))
change_told w own left free m taken here e f g h k r =
    let made_now : List Entry = made (pending_at 0 (payments_of w)) in
    let mine : Entry → Bool = is_own (take w.owns w.own) in
    let untaken : Entry → Bool = λ y. not (has same_reference y.reference (spent (pending_at 0 (payments_of w)))) in
    let own_now = ap made_in e ∙ made_back (keep mine made_now) in
    let spent_now = ap refs_in f ∙ refs_back (spent (pending_at 0 (payments_of w))) in
    let left_now =
    ap made_in (g ∙ (λ t. made_of (without_references (spent_now t) (own_now t)))) ∙ made_back (keep untaken (keep mine made_now)) ∙ keep-keep untaken mine made_now
    in
    let free_now = ap made_in h ∙ made_back (available (view w).present) in
    let here_now =
    ap refs_in (k ∙ (λ t. refs_of (map (λ (y : Entry). y.reference) (free_now t))))
    ∙ refs_back (map (λ (y : Entry). y.reference) (available (view w).present))
    in
    r
    ∙ (λ t. made_of (without_references (here_now t) (left_now t)))
    ∙ ap made_of
    (keep-keep (λ y. not (has same_reference y.reference (map (λ z. z.reference) (available (view w).present)))) (λ y. mine y && untaken y) made_now
    ∙ keep_same _ (is_change (take w.owns w.own) (entries_of w) (payments_of w)) made_now
    (λ y i. ap (λ (b : Bool). (mine y && untaken y) && not b) (stands_free w y.reference)))

-- the own ones of all that the pending payments make
pub own_told :
    (w : Pool) (own : List ℕ) (pending : Block) (outputs m : Made) → own ≡ take w.owns w.own →
    pending ≡ block_of (map (λ p. p.transaction) (keep (λ p. marked 0 p.pending) (payments_of w))) → outputs ≡ made_of (made (view_block pending)) →
    m ≡ made_of (keep (is_own own) (made_in outputs)) → m ≡ made_of (own_made (take w.owns w.own) (pending_at 0 (payments_of w)))
own_told w own pending outputs m o e f g =
    let outputs_now =
    ap made_in f ∙ made_back (made (view_block pending)) ∙ ap (λ (b : Block). made (view_block b)) e ∙ ap made (pending_back (payments_of w))
    in
    g ∙ (λ t. made_of (keep (is_own (o t)) (outputs_now t)))

-- the change, of the pending payments as a block, what it takes, and what is left of the unspent outputs
pub change_made :
    (w : Pool) (mine : List ℕ) (pending : Block) (outputs own left free m : Made) (taken here : Refs) → mine ≡ take w.owns w.own →
    pending ≡ block_of (map (λ p. p.transaction) (keep (λ p. marked 0 p.pending) (payments_of w))) → taken ≡ refs_of (spent (view_block pending)) →
    outputs ≡ made_of (made (view_block pending)) → own ≡ made_of (keep (is_own mine) (made_in outputs)) →
    left ≡ made_of (without_references (refs_in taken) (made_in own)) →
    free ≡ made_of (without_references (refs_in taken) (utxo_at 0 (entries_of w))) → here ≡ refs_of (map (λ e. e.reference) (made_in free)) →
    m ≡ made_of (without_references (refs_in here) (made_in left)) →
    m ≡ made_of (keep (is_change (take w.owns w.own) (entries_of w) (payments_of w)) (made (pending_at 0 (payments_of w))))
change_made w mine pending outputs own left free m taken here o e f g h k a r q =
    change_told w own left free m taken here (own_told w mine pending outputs own o e g h) (taken_back (payments_of w) pending taken e f) k
    (free_told w pending taken free e f a) r q
