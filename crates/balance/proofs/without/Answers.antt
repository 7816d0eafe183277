use Rattle.std.proofs.Common.{[], ◌∷◌, ap, arith, length, length-append, not, refl}
use Rattle.std.proofs.lemmas.List.{length-map}
use Rattle.std.proofs.lemmas.Slice.Zip.{zip_turn, zip_end}
use Rattle.sets.specs.Sets.{has, keep}
use Rattle.rules.specs.declared.Entry.{Entry}
use Rattle.rules.specs.Chain.{same_reference}
use Rattle.fixed.specs.Laws.{all_taken}
use Rattle.flat.specs.Flat.{made_in, refs_in}
use Rattle.balance.specs.Picked.{flags_are, left_pushed, left_passed}
use Rattle.balance.proofs.without.Goals as goal

pub loop-entry-preserved-then-not-is_found : goal.loop-entry-preserved-then-not-is_found
loop-entry-preserved-then-not-is_found c =
    let l = made_in c.args.made in
    let flags = flags_are l (refs_in c.args.refs) _ _ _ c.made_refs.ensures c.found-found.ensures c.as_slice-2.ensures.items in
    let turn =
    zip_turn l c.as_slice-2.result.now c.loop-entry.yielded c.into_iter-entry-iterator.result c.loop-entry.entry-iterator c.next.new.self c.next.result (cc) (cc)
    c.loop-entry.yielded_by (c.in-Some.entry, c.in-Some.is_found) c.in-Some.is c.next.ensures.steps
    in
    left_pushed (λ e. has same_reference e.reference (refs_in c.args.refs)) l c.as_slice-2.result.now flags (length c.loop-entry.yielded) _ _ _
    turn.0 turn.2 turn.3 (length-append c.loop-entry.yielded ((c.in-Some.entry, c.in-Some.is_found) ∷ [])) _ c.loop-entry.invariant _
    (omega (arith, c.as_slice.ensures.most, ap length c.as_slice.ensures.items)) c.if-not-is_found.true c.push.ensures

pub loop-entry-preserved : goal.loop-entry-preserved
loop-entry-preserved c =
    let l = made_in c.args.made in
    let flags = flags_are l (refs_in c.args.refs) _ _ _ c.made_refs.ensures c.found-found.ensures c.as_slice-2.ensures.items in
    let turn =
    zip_turn l c.as_slice-2.result.now c.loop-entry.yielded c.into_iter-entry-iterator.result c.loop-entry.entry-iterator c.next.new.self c.next.result (cc) (cc)
    c.loop-entry.yielded_by (c.in-Some.entry, c.in-Some.is_found) c.in-Some.is c.next.ensures.steps
    in
    left_passed (λ e. has same_reference e.reference (refs_in c.args.refs)) l c.as_slice-2.result.now flags (length c.loop-entry.yielded) _ _ _
    turn.0 turn.2 turn.3 (length-append c.loop-entry.yielded ((c.in-Some.entry, c.in-Some.is_found) ∷ [])) _ c.loop-entry.invariant
    c.if-not-is_found.false

pub returns : goal.returns
returns c =
    let l = made_in c.args.made in
    let flags = flags_are l (refs_in c.args.refs) _ _ _ c.made_refs.ensures c.found-found.ensures c.as_slice-2.ensures.items in
    let end =
    zip_end l c.as_slice-2.result.now c.loop-entry.yielded c.into_iter-entry-iterator.result c.loop-entry.entry-iterator c.next.new.self c.next.result (cc) (cc)
    c.loop-entry.yielded_by c.in-None.is c.next.ensures.steps
    in
    all_taken _ _ (keep (λ (e : Entry). not (has same_reference e.reference (refs_in c.args.refs)))) l l (length c.loop-entry.yielded) _
    c.loop-entry.invariant
    (omega (arith, end, ap length flags, length-map l (λ (e : Entry). has same_reference e.reference (refs_in c.args.refs)))) refl
