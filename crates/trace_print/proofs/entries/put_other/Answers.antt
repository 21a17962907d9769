use Rattle.std.proofs.Common.{◌≡◌, ◌∙◌, ap, sym}
use Rattle.tlm_types.specs.declared.entry.Head.{Head}
use Rattle.tlm_types.specs.Entries.{head_of}
use Rattle.tlm_model.specs.Plan.{Plan}
use Rattle.tlm_model.specs.declared.platform.Platform.{Platform}
use Rattle.report_model.specs.Report.{entry_words}
use Rattle.tlm_model.specs.Text.{line_of}
use Rattle.trace_print.specs.Hops.{ends_at}
use Rattle.trace_print.proofs.Putting.{puts-as}
use Rattle.trace_print.proofs.entries.put_other.Goals as goal

pub returns-in-Some : goal.returns-in-Some
returns-in-Some g c e here = puts-as _ _ _ _ c.put_whole.ensures (c.in-Some.ensures.text e here)

pub returns-in_default : goal.returns-in_default
returns-in_default g c e here =
    let found = rw here at c.head.ensures in
    let same : c.head.result ≡ head_of e = cc in
    let of_plan = ap (λ (p : Plan). ends_at p.platform c.head.result.object) c.plan.ensures in
    let ends = c.ends_at-ends.ensures ∙ (of_plan ∙ (ap (λ (h : Head). ends_at c.args.names.now.platform h.object) same ∙ ap (λ (r : Platform). ends_at r e.object) (sym c.platform.ensures))) in
    puts-as _ _ _ _ (c.put_entry.ensures e here ends) (ap (λ (r : Platform). line_of (entry_words r e)) c.platform.ensures)
