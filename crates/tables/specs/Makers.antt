-- Where the inputs of chosen payments stand: which payment makes a reference, and when the forced numbers are enough.
use Rattle.std.specs.Prelude.{◌≡◌, Bool, ◌||◌, ℕ, T}
use Rattle.std.proofs.Common.{sym, ap, ◌∙◌, ⊎_elim}
use mathlib.Core.List.{List, map, Memᴰ}
use Rattle.sets.specs.Sets.{has, pairwise}
use Rattle.sets.specs.Tests.{or_left, or_right, or_cases}
use Rattle.sets.specs.Laws.{any_intro, any_elim, keep_from, keep_intro, map_intro, gather_intro, gather_elim}
use Rattle.sets.specs.Once.{once_in}
use Rattle.sets.specs.Words.{picked, left_out, picked_from, picked_apart}
use Rattle.rules.specs.declared.Number.{Number}
use Rattle.rules.specs.declared.Reference.{Reference}
use Rattle.rules.specs.declared.Entry.{Entry}
use Rattle.rules.specs.Chain.{same_number, same_reference, Transaction, makes, made, spent}
use Rattle.rules.specs.ChainLaws.{same_number_refl, same_number_eq, same_reference_eq}
use Rattle.rules.specs.States.{State}
use Rattle.rules.specs.Minimum.{Future, expected_numbers, brought, stands, shares_no_input, allowed}
use Rattle.future.specs.Forced.{forced_future, forced_allowed, provided, allowed_provided, allowed_intro}
use Rattle.soundness.specs.Made.{makes_number}
use Rattle.tables.specs.Tables.{held}
use Rattle.tables.specs.Present.{Present, other_number, numbers_differ, other_never}

-- ── which payment makes a reference

-- what some payments make, one of them makes
pub made_by : (l : List Transaction) (i : Reference) → T (stands (made l) i) → (q : Transaction) × Memᴰ q l × T (stands (makes q) i)
made_by l i t =
    let e = any_elim (λ (d : Entry). same_reference i d.reference) (made l) t in
    let q = gather_elim makes l e.1 in
    (q.0, q.1, any_intro (λ (d : Entry). same_reference i d.reference) q.2 e.2)

pub by_made : {q : Transaction} (l : List Transaction) (i : Reference) → Memᴰ q l → T (stands (makes q) i) → T (stands (made l) i)
by_made {q} l i m t =
    let e = any_elim (λ (d : Entry). same_reference i d.reference) (makes q) t in
    any_intro (λ (d : Entry). same_reference i d.reference) (gather_intro makes m e.1) e.2

-- a reference has the number of the payment that makes it
pub maker_number : (q : Transaction) (i : Reference) → T (stands (makes q) i) → q.number ≡ i.number
maker_number q i t =
    let e = any_elim (λ (d : Entry). same_reference i d.reference) (makes q) t in
    sym (makes_number q e.0 e.1) ∙ sym (ap (λ (r : Reference). r.number) (same_reference_eq i e.0.reference e.2))

-- what the chosen payments make, the pending payments make
pub chosen_made : (m : ℕ) (l : List Transaction) (i : Reference) → T (stands (made (picked m l)) i) → T (stands (made l) i)
chosen_made m l i t = let q = made_by (picked m l) i t in by_made l i (picked_from m l q.1) q.2

-- what a payment left out makes, no chosen payment makes
pub left_makes :
    {own : List ℕ} {s : State} → Present own s → (m : ℕ) (q : Transaction) (i : Reference) →
    Memᴰ q (left_out m s.pending) → T (stands (makes q) i) → T (stands (made (picked m s.pending)) i) → ⊥
left_makes {s = s} k m q i h t u =
    let c = made_by (picked m s.pending) i u in
    let e : c.0.number ≡ q.number = maker_number c.0 i c.2 ∙ sym (maker_number q i t) in
    ⊎_elim
    (λ (d : T (other_number c.0 q)). other_never c.0 q e d)
    (λ (d : T (other_number q c.0)). other_never q c.0 (sym e) d)
    (picked_apart other_number m s.pending (numbers_differ k) c.1 h)

-- ── allowed, without the numbers

-- what a number brings is expected
pub brought_expected : (l : List Entry) (ns : List Number) (i : Reference) → T (stands (brought l ns) i) → T (stands l i)
brought_expected l ns i t =
    let e = any_elim (λ (d : Entry). same_reference i d.reference) (brought l ns) t in
    any_intro (λ (d : Entry). same_reference i d.reference)
    (keep_from (λ (d : Entry). has same_number d.reference.number ns) l e.1)
    e.2

-- an expected entry's number is among the expected numbers
pub number_expected : (l : List Entry) {e : Entry} → Memᴰ e l → Memᴰ e.reference.number (expected_numbers l)
number_expected l m =
    once_in same_number same_number_eq (map (λ d. d.reference.number) l) (map_intro (λ (d : Entry). d.reference.number) m)

-- all expected numbers bring all that is expected
all_brought : (l : List Entry) (i : Reference) → T (stands l i) → T (stands (brought l (expected_numbers l)) i)
all_brought l i t =
    let e = any_elim (λ (d : Entry). same_reference i d.reference) l t in
    any_intro (λ (d : Entry). same_reference i d.reference)
    (keep_intro (λ (d : Entry). has same_number d.reference.number (expected_numbers l)) l e.1
    (any_intro (same_number e.0.reference.number) (number_expected l e.1) (same_number_refl e.0.reference.number)))
    e.2

-- Payments are allowed with their forced numbers exactly when no two share an input and each input is held or made by
-- one of them.
pub allowed_held :
    (s : State) (ps : List Transaction) → T (allowed s (forced_future s ps)) → (i : Reference) → Memᴰ i (spent ps) →
    T (held s i || stands (made ps) i)
allowed_held s ps t i m =
    ⊎_elim
    (λ (h : T (u || b)).
    or_left (u || x) o
    (⊎_elim (λ (a : T u). or_left u x a) (λ (a : T b). or_right u x (brought_expected s.expected f.numbers i a)) (or_cases u b h)))
    (λ (h : T o). or_right (u || x) o h)
    (or_cases (u || b) o (allowed_provided s f t i m))
  where
    f : Future
    f = forced_future s ps

    u : Bool
    u = stands s.utxo i

    x : Bool
    x = stands s.expected i

    b : Bool
    b = stands (brought s.expected f.numbers) i

    o : Bool
    o = stands (made ps) i

pub held_allowed :
    (s : State) (ps : List Transaction) → T (pairwise shares_no_input ps) →
    ((i : Reference) → Memᴰ i (spent ps) → T (held s i || stands (made ps) i)) → T (allowed s (forced_future s ps))
held_allowed s ps t h = forced_allowed s f (allowed_intro s f t (λ i m. at i (h i m)))
  where
    f : Future
    f = record { payments = ps; numbers = expected_numbers s.expected }

    at : (i : Reference) → T (held s i || stands (made ps) i) → T (provided s f i)
    at i g =
        let u : Bool = stands s.utxo i in
        let x : Bool = stands s.expected i in
        let b : Bool = stands (brought s.expected (expected_numbers s.expected)) i in
        let o : Bool = stands (made ps) i in
        ⊎_elim
        (λ (a : T (u || x)).
        or_left (u || b) o
        (⊎_elim (λ (c : T u). or_left u b c) (λ (c : T x). or_right u b (all_brought s.expected i c)) (or_cases u x a)))
        (λ (a : T o). or_right (u || b) o a)
        (or_cases (u || x) o g)
