-- The place at which an output's reference is found among the pool's entries tells whether the output agrees with them.
use Rattle.std.specs.Prelude.{ℕ, suc, ◌≡◌, refl, Bool, true, false, cond, ◌&&◌, List, [], ◌∷◌, Option, None, Some, map}
use Rattle.std.specs.List.{slice_get, zip}
use Rattle.std.proofs.Common.{ap, ap₂, ◌∙◌}
use mathlib.Core.List.{map-map}
use Rattle.sets.specs.Sets.{all}
use Rattle.rules.specs.declared.Reference.{Reference}
use Rattle.rules.specs.declared.Entry.{Entry}
use Rattle.rules.specs.Sizes.{most_references}
use Rattle.rules.specs.Chain.{same_entry, same_value}
use Rattle.pool.specs.declared.Held.{Held}
use Rattle.fixed.specs.Filled.{items_in}
use Rattle.fixed.specs.Laws.{items-filled}
use Rattle.flat.specs.Flat.{Places, Refs, places_of, refs_in, refs_of, seek}
use Rattle.flat.specs.Told.{refs_back}
use Rattle.audit.specs.Audit.{agrees_first}

-- the references of some entries of the pool
abbrev pub held_refs : List Held → List Reference
held_refs es = map (λ h. h.entry.reference) es

-- an output agrees with the entry that was found, if one was
abbrev pub agrees_found : Entry → Option Held → Bool
agrees_found o None = true
agrees_found o (Some h) = same_value o h.entry

-- the place of its reference finds the first entry of it
found_first : (o : Entry) (es : List Held) → agrees_found o (slice_get es (seek o.reference (held_refs es))) ≡ agrees_first o es
found_first o [] = refl
found_first o (h ∷ l) =
    elim (same_entry o h.entry) as
    (λ b.
    agrees_found o (slice_get (h ∷ l) (cond b 0 (suc (seek o.reference (held_refs l)))))
    ≡ cond b (same_value o h.entry) (agrees_first o l)) [
      | true ↦ refl
      | false ↦ found_first o l
    ]

-- so each output, beside the place of its reference, tells whether it agrees
pub all_found_first :
    (es : List Held) (l : List Entry) →
    all (λ (p : Entry × ℕ). agrees_found p.0 (slice_get es p.1)) (zip l (map (λ o. seek o.reference (held_refs es)) l))
    ≡ all (λ o. agrees_first o es) l
all_found_first es [] = refl
all_found_first es (o ∷ l) = ap₂ (λ (a b : Bool). a && b) (found_first o es) (all_found_first es l)

-- the places that a search of all outputs gives
pub places_sought :
    (l : List Entry) (held : List Reference) (a b : Refs) (at : Places) →
    a ≡ refs_of (map (λ e. e.reference) l) → b ≡ refs_of held → at ≡ places_of (map (λ x. seek x (refs_in b)) (refs_in a)) →
    items_in at ≡ map (λ o. seek o.reference held) l
places_sought l held a b at ea eb e =
    let those = ap refs_in eb ∙ refs_back held in
    let these = ap refs_in ea ∙ refs_back (map (λ (o : Entry). o.reference) l) in
    ap items_in e
    ∙ items-filled most_references 0 (map (λ (x : Reference). seek x (refs_in b)) (refs_in a))
    ∙ (λ i. map (λ (x : Reference). seek x (those i)) (these i))
    ∙ map-map (λ (x : Reference). seek x held) (λ (o : Entry). o.reference) l
