-- The tables say exactly which expected entries a choice of payments brings, beyond what it makes itself.
use Rattle.std.specs.Prelude.{◌≡◌, Bool, ◌&&◌, ◌||◌, ℕ, T}
use Rattle.std.proofs.Math.Path.{sym, ap}
use Rattle.std.proofs.Common.{subst, ◌∙◌, ⊎_elim, T_not}
use Rattle.std.proofs.Math.Bool.{not}
use mathlib.Core.List.Memᴰ
use mathlib.Core.List.{List, ◌++◌, Memᴰ}
use Rattle.std.proofs.Math.Dec.{not_T}
use Rattle.sets.specs.Sets.{any, has}
use Rattle.sets.specs.Tests.{or_left, or_right, or_cases, and_left, and_right, and_both, T-cases, same_test}
use Rattle.sets.specs.Laws.{any_intro, any_elim, any_none, any_not, keep_from, keep_holds, keep_intro, gather_intro, gather_elim}
use Rattle.sets.specs.Words.{picked, meets, picked_from, meets_picked}
use Rattle.rules.specs.declared.Number.{Number}
use Rattle.rules.specs.declared.Reference.{Reference}
use Rattle.rules.specs.declared.Entry.{Entry}
use Rattle.rules.specs.Chain.{same_number, same_reference, same_entry, Transaction, makes, made, spent, is_own}
use Rattle.rules.specs.ChainLaws.{same_number_refl, same_number_eq, same_number_of}
use Rattle.rules.specs.States.{State, own_made}
use Rattle.rules.specs.Minimum.{expected_numbers, stands}
use Rattle.future.specs.Forced.{needed, forced}
use Rattle.soundness.specs.Orders.{same_entry_sym}
use Rattle.tables.specs.Tables.{own_makes, brings_hard, brings_soft, bring_of, is_brought}
use Rattle.tables.specs.Present.{Present, one_payment}
use Rattle.tables.specs.Makers.{made_by, by_made, maker_number, chosen_made, number_expected}

-- equal numbers are the same
number_forced :
    (s : State) (ps : List Transaction) (n : Number) → Memᴰ n (expected_numbers s.expected) →
    has same_number n (forced s ps) ≡ any (λ i. same_number i.number n) (needed s ps)
number_forced s ps n h =
    same_test (has same_number n (forced s ps)) (bringing n)
    (λ (t : T (has same_number n (forced s ps))).
    let x = any_elim (same_number n) (forced s ps) t in
    subst (λ (a : Number). T (bringing a)) (sym (same_number_eq n x.0 x.2)) (keep_holds bringing (expected_numbers s.expected) x.1))
    (λ (t : T (bringing n)).
    any_intro (same_number n) (keep_intro bringing (expected_numbers s.expected) h t) (same_number_refl n))
  where
    bringing : Number → Bool
    bringing a = any (λ i. same_number i.number a) (needed s ps)

module _ {own : List ℕ} {s : State} (k : Present own s) (m : ℕ) where
  -- An input of the number is needed when a hard payment is chosen, or a soft one without the owner.
  needed_word :
      (n : Number) →
      any (λ i. same_number i.number n) (needed s (picked m s.pending))
      ≡ (any (brings_hard s n) (picked m s.pending)
      || (any (brings_soft s n) (picked m s.pending) && not (any (λ p. same_number p.number n) (picked m s.pending))))
  needed_word n =
      same_test (any (λ i. same_number i.number n) (needed s ps)) (hard || (soft && not owner)) there back
    where
      ps : List Transaction
      ps = picked m s.pending

      hard : Bool
      hard = any (brings_hard s n) ps

      soft : Bool
      soft = any (brings_soft s n) ps

      owner : Bool
      owner = any (λ p. same_number p.number n) ps

      away : Reference → Bool
      away i = not (stands s.utxo i || stands (made ps) i)

      outside : Reference → Bool
      outside i = same_number i.number n && not (stands s.utxo i)

      -- an input that a pending payment of the number makes, not chosen with it
      no_owner : (i : Reference) → T (same_number i.number n) → T (stands (made s.pending) i) → T (not (stands (made ps) i)) → T (not owner)
      no_owner i c b a =
          any_none (λ (p : Transaction). same_number p.number n) ps
          (λ p h t.
          let q = made_by s.pending i b in
          let e : q.0 ≡ p =
          one_payment k q.0 p q.1 (picked_from m s.pending h)
          (maker_number q.0 i q.2 ∙ same_number_eq i.number n c ∙ sym (same_number_eq p.number n t))
          in
          T_not (stands (made ps) i) a (by_made ps i h (subst (λ (x : Transaction). T (stands (makes x) i)) e q.2)))

      there : T (any (λ i. same_number i.number n) (needed s ps)) → T (hard || (soft && not owner))
      there t =
          let x = any_elim (λ (i : Reference). same_number i.number n) (needed s ps) t in
          let i : Reference = x.0 in
          let p = gather_elim (λ (q : Transaction). q.inputs) ps (keep_from away (spent ps) x.1) in
          let a : T (not (stands s.utxo i || stands (made ps) i)) = keep_holds away (spent ps) x.1 in
          let u : T (not (stands s.utxo i)) =
          not_T (stands s.utxo i) (λ (c : T (stands s.utxo i)). T_not (stands s.utxo i || stands (made ps) i) a (or_left (stands s.utxo i) (stands (made ps) i) c))
          in
          let o : T (not (stands (made ps) i)) =
          not_T (stands (made ps) i) (λ (c : T (stands (made ps) i)). T_not (stands s.utxo i || stands (made ps) i) a (or_right (stands s.utxo i) (stands (made ps) i) c))
          in
          let w : T (outside i) = and_both (same_number i.number n) (not (stands s.utxo i)) x.2 u in
          ⊎_elim
          (λ (b : T (stands (made s.pending) i)).
          or_right hard (soft && not owner)
          (and_both soft (not owner)
          (any_intro (brings_soft s n) p.1
          (any_intro (λ (r : Reference). outside r && stands (made s.pending) r) p.2
          (and_both (outside i) (stands (made s.pending) i) w b)))
          (no_owner i x.2 b o)))
          (λ (b : T (not (stands (made s.pending) i))).
          or_left hard (soft && not owner)
          (any_intro (brings_hard s n) p.1
          (any_intro (λ (r : Reference). outside r && not (stands (made s.pending) r)) p.2
          (and_both (outside i) (not (stands (made s.pending) i)) w b))))
          (T-cases (stands (made s.pending) i))

      -- an input of a chosen payment, outside the UTxO and made by none chosen, is needed
      is_needed : (p : Transaction) (i : Reference) → Memᴰ p ps → Memᴰ i p.inputs → T (outside i) → (T (stands (made ps) i) → ⊥) → T (any (λ j. same_number j.number n) (needed s ps))
      is_needed p i h g w a =
          any_intro (λ (j : Reference). same_number j.number n)
          (keep_intro away (spent ps) (gather_intro (λ (q : Transaction). q.inputs) h g)
          (not_T (stands s.utxo i || stands (made ps) i)
          (λ (c : T (stands s.utxo i || stands (made ps) i)).
          ⊎_elim
          (λ (d : T (stands s.utxo i)). T_not (stands s.utxo i) (and_right (same_number i.number n) (not (stands s.utxo i)) w) d)
          a
          (or_cases (stands s.utxo i) (stands (made ps) i) c))))
          (and_left (same_number i.number n) (not (stands s.utxo i)) w)

      back : T (hard || (soft && not owner)) → T (any (λ i. same_number i.number n) (needed s ps))
      back t =
          ⊎_elim
          (λ (h : T hard).
          let p = any_elim (brings_hard s n) ps h in
          let i = any_elim (λ (r : Reference). outside r && not (stands (made s.pending) r)) p.0.inputs p.2 in
          is_needed p.0 i.0 p.1 i.1
          (and_left (outside i.0) (not (stands (made s.pending) i.0)) i.2)
          (λ (c : T (stands (made ps) i.0)).
          T_not (stands (made s.pending) i.0)
          (and_right (outside i.0) (not (stands (made s.pending) i.0)) i.2)
          (chosen_made m s.pending i.0 c)))
          (λ (h : T (soft && not owner)).
          let p = any_elim (brings_soft s n) ps (and_left soft (not owner) h) in
          let i = any_elim (λ (r : Reference). outside r && stands (made s.pending) r) p.0.inputs p.2 in
          let w : T (outside i.0) = and_left (outside i.0) (stands (made s.pending) i.0) i.2 in
          is_needed p.0 i.0 p.1 i.1 w
          (λ (c : T (stands (made ps) i.0)).
          let q = made_by ps i.0 c in
          any_not (λ (x : Transaction). same_number x.number n) (and_right soft (not owner) h) q.1
          (same_number_of
          (maker_number q.0 i.0 q.2
          ∙ same_number_eq i.0.number n (and_left (same_number i.0.number n) (not (stands s.utxo i.0)) w)))))
          (or_cases hard (soft && not owner) t)

  -- An expected entry stands in the UTxO or among the chosen payments' own outputs when its maker is chosen.
  maker_word :
      (e : Entry) → Memᴰ e s.expected →
      any (λ d. same_entry d e) (s.utxo ++ own_made own (picked m s.pending))
      ≡ any (λ p. stands (own_makes own p) e.reference) (picked m s.pending)
  maker_word e h =
      same_test (any (λ d. same_entry d e) (s.utxo ++ own_made own ps)) (any (λ p. stands (own_makes own p) e.reference) ps) there back
    where
      ps : List Transaction
      ps = picked m s.pending

      there : T (any (λ d. same_entry d e) (s.utxo ++ own_made own ps)) → T (any (λ p. stands (own_makes own p) e.reference) ps)
      there t =
          let d = any_elim (λ (x : Entry). same_entry x e) (s.utxo ++ own_made own ps) t in
          ⊎_elim
          (λ (g : Memᴰ d.0 s.utxo). absurd (k.apart d.0 e g h d.2))
          (λ (g : Memᴰ d.0 (own_made own ps)).
          let p = gather_elim makes ps (keep_from (is_own own) (made ps) g) in
          any_intro (λ (x : Transaction). stands (own_makes own x) e.reference) p.1
          (any_intro (λ (x : Entry). same_reference e.reference x.reference)
          (keep_intro (is_own own) (makes p.0) p.2 (keep_holds (is_own own) (made ps) g))
          (same_entry_sym d.0 e d.2)))
          (Memᴰ.append_cases s.utxo d.1)

      back : T (any (λ p. stands (own_makes own p) e.reference) ps) → T (any (λ d. same_entry d e) (s.utxo ++ own_made own ps))
      back t =
          let p = any_elim (λ (x : Transaction). stands (own_makes own x) e.reference) ps t in
          let d = any_elim (λ (x : Entry). same_reference e.reference x.reference) (own_makes own p.0) p.2 in
          any_intro (λ (x : Entry). same_entry x e)
          (Memᴰ.append_right s.utxo
          (keep_intro (is_own own) (made ps)
          (gather_intro makes p.1 (keep_from (is_own own) (makes p.0) d.1))
          (keep_holds (is_own own) (makes p.0) d.1)))
          (same_entry_sym e d.0 d.2)

  -- The tables bring an expected entry exactly when its number is forced and it is not there already.
  pub table_brings :
      (e : Entry) → Memᴰ e s.expected →
      is_brought m (bring_of own s e)
      ≡ (has same_number e.reference.number (forced s (picked m s.pending))
      && not (any (λ d. same_entry d e) (s.utxo ++ own_made own (picked m s.pending))))
  unfolding is_brought bring_of
  table_brings e h =
      ap (λ (b : Bool). (b || (meets (bring_of own s e).soft m && not (meets (bring_of own s e).owner m))) && not (meets (bring_of own s e).maker m))
      (meets_picked (brings_hard s n) m s.pending)
      ∙ ap (λ (b : Bool). (any (brings_hard s n) ps || (b && not (meets (bring_of own s e).owner m))) && not (meets (bring_of own s e).maker m))
      (meets_picked (brings_soft s n) m s.pending)
      ∙ ap (λ (b : Bool). (any (brings_hard s n) ps || (any (brings_soft s n) ps && not b)) && not (meets (bring_of own s e).maker m))
      (meets_picked (λ (p : Transaction). same_number p.number n) m s.pending)
      ∙ ap (λ (b : Bool). b && not (meets (bring_of own s e).maker m))
      (sym (number_forced s ps n (number_expected s.expected h) ∙ needed_word n))
      ∙ ap (λ (b : Bool). has same_number n (forced s ps) && not b)
      (meets_picked (λ (p : Transaction). stands (own_makes own p) e.reference) m s.pending ∙ sym (maker_word e h))
    where
      ps : List Transaction
      ps = picked m s.pending

      n : Number
      n = e.reference.number
