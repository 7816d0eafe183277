-- What the look at each output beside its place answers.
use Rattle.std.proofs.Common.{ℕ, ◌∙◌, map, rules, tests}
use Rattle.std.specs.List.{slice_get}
use Rattle.std.proofs.lemmas.Iterator.{YieldsList-from_slice, YieldsList-from_zip}
use Rattle.std.proofs.lemmas.Iterator.Search.{all_from_yields_List}
use Rattle.rules.specs.declared.Entry.{Entry}
use Rattle.pool.specs.View.{entries_of}
use Rattle.flat.specs.Flat.{made_in, seek}
use Rattle.audit.specs.Agreement.{agrees_found, all_found_first, held_refs, places_sought}
use Rattle.audit.proofs.outputs_agree.Goals as goal

pub returns : goal.returns
returns c =
    let es = entries_of c.args.w.now in
    let outs = made_in c.args.made in
    let places =
    places_sought outs (held_refs es) _ _ _ c.made_refs.ensures c.held_refs.ensures c.sought-at.ensures
    in
    all_from_yields_List (λ (p : Entry × ℕ). agrees_found p.0 (slice_get es p.1)) c.all.new.self _ c.all.result c.all.ensures.ran
    (YieldsList-from_zip (YieldsList-from_slice {s = c.zip.result.a} outs (search rules))
    (YieldsList-from_slice {s = c.zip.result.b} (map (λ (o : Entry). seek o.reference (held_refs es)) outs) (search (rules, places))))
    (λ x b q k. search (rules, tests))
    ∙ all_found_first es outs
