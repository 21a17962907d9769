-- The report, put together from its parts.
use Rattle.std.proofs.Common.{◌≡◌, ℕ, ◌+◌, List, [], ◌∷◌, ◌++◌, length, map, refl, ap, sym, ◌∙◌, arith}
use Rattle.std.specs.Prelude.{codes}
use Rattle.std.specs.Fmt.{decimal}
use Rattle.std.specs.List.{flat_map}
use Rattle.tlm_model.specs.declared.trace.Trace.{Trace}
use Rattle.tlm_model.specs.History.{last_store}
use Rattle.tlm_model.specs.Plan.{Plan, initiators_of}
use Rattle.report_model.specs.Report.{entry_words, initiator_lines, memories_from, report_lines, report_of, traced}
use Rattle.tlm_model.specs.Text.{line_of}
use Rattle.run_outcome.specs.declared.outcome.Outcome.{Outcome}
use Rattle.run_outcome.specs.Outcome.{IsReportable}
use Rattle.trace_print.specs.Told.{HaveSizes, ends_lines, stores_lines, text_of}
use Rattle.trace_print.proofs.EndLemmas.{ends-are}
use Rattle.trace_print.proofs.StoreLemmas.{have-sizes, length-last, stores-are}
use Rattle.trace_print.proofs.Texts.{text-append, text-one}

pub sizes-of : (p : Plan) (o : Outcome) → IsReportable p o → HaveSizes p.platform.memories o.stores
sizes-of p o is = have-sizes p.platform.memories o.stores is.memories
    (λ k row bytes at stored. ap length (is.stores k bytes stored) ∙ length-last p.platform o.history.entries k row at)

-- the title, the entries, the ends, the memories and the count
pub report-is : (t : Trace) (p : Plan) (o : Outcome) → IsReportable p o →
    line_of (codes "tlm-report" ∷ codes "1" ∷ []) ++ (text_of (map (entry_words p.platform) (traced t o.history.entries))
    ++ (text_of (ends_lines p.platform.initiators o.ends) ++ (text_of (stores_lines p.platform.memories o.stores)
    ++ line_of (codes "end" ∷ decimal (length o.history.entries) ∷ []))))
    ≡ report_of t p o.history.entries
unfolding report_of report_lines
report-is t p o is =
    let h = o.history.entries in
    let title = codes "tlm-report" ∷ codes "1" ∷ [] in
    let entries = map (entry_words p.platform) (traced t h) in
    let inits = flat_map (initiator_lines p h) (initiators_of p) in
    let mems = memories_from 0 p.platform.memories (last_store p.platform h) in
    let last = codes "end" ∷ decimal (length h) ∷ [] in
    let e1 : ends_lines p.platform.initiators o.ends ≡ inits = ends-are p h 0 p.platform.initiators p.scripts o.ends is.scripts is.initiators is.ends in
    let e2 : stores_lines p.platform.memories o.stores ≡ mems = stores-are 0 p.platform.memories o.stores (last_store p.platform h) is.memories
    (λ k bytes at. let same : k ≡ 0 + k = omega arith in is.stores k bytes at ∙ ap (last_store p.platform h) same) in
    let e3 : text_of mems ++ line_of last ≡ text_of (mems ++ last ∷ []) = ap (λ (l : List ℕ). text_of mems ++ l) (sym (text-one last)) ∙ sym (text-append mems (last ∷ [])) in
    let e4 : text_of inits ++ text_of (mems ++ last ∷ []) ≡ text_of (inits ++ (mems ++ last ∷ [])) = sym (text-append inits (mems ++ last ∷ [])) in
    let e5 : text_of entries ++ text_of (inits ++ (mems ++ last ∷ [])) ≡ text_of (entries ++ (inits ++ (mems ++ last ∷ []))) = sym (text-append entries (inits ++ (mems ++ last ∷ []))) in
    rw (e1, e2, e3, e4, e5) refl
