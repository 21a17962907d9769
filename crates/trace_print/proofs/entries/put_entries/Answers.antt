use Rattle.std.proofs.Common.{◌≡◌, List, ap, arith, refl, ◌∙◌}
use Rattle.std.proofs.lemmas.List.{take_all}
use Rattle.std.specs.Prelude.{map, slice_get}
use Rattle.tlm_types.specs.declared.entry.Entry.{Entry}
use Rattle.report_model.specs.Report.{entry_words, traced}
use Rattle.run_outcome.specs.Places.{MergedView}
use Rattle.trace_print.specs.Told.{text_of}
use Rattle.trace_print.proofs.EntryLemmas.{entries-next, next-entry, traced-nothing}
use Rattle.trace_print.proofs.Putting.{puts-as, puts-more, puts-nothing}
use Rattle.trace_print.proofs.entries.put_entries.Goals as goal

pub loop-position-init : goal.loop-position-init
loop-position-init g c = (refl, refl, puts-as _ _ _ _ (puts-nothing _) (traced-nothing c.args.names.now.platform c.args.trace))

pub loop-position-preserved : goal.loop-position-preserved
loop-position-preserved g c =
    let before = c.loop-position.invariant in
    let h = c.args.reader.now.entries in
    let i = c.loop-position.position in
    let same : c.loop-position.reader.entries ≡ h = ap (λ (v : MergedView). v.entries) before.0 in
    let next = next-entry h i (omega arith) in
    let at = c.at-index.ensures.same ∙ (ap (λ (es : List Entry). slice_get es i) same ∙ next.1) in
    let put = rw before.1 at (c.put_traced.ensures.puts next.0 at) in
    (c.at-index.ensures.entries ∙ before.0, c.put_traced.ensures.same ∙ before.1, puts-as _ _ _ _ (puts-more _ _ _ _ _ before.2 put) (entries-next c.args.names.now.platform c.args.trace h i next.0 next.2))

pub returns : goal.returns
returns g c =
    puts-as _ _ _ _ c.loop-position.invariant.2 (ap (λ (l : List Entry). text_of (map (entry_words c.args.names.now.platform) (traced c.args.trace l))) (take_all c.loop-position.position c.args.reader.now.entries (omega arith)))
