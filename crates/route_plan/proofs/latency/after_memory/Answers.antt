use Rattle.std.proofs.Common.{length, slice_get, refl, sym, ap, ◌∙◌}
use Rattle.std.proofs.lemmas.Option.{slice_get_past, slice_get_read}
use Rattle.route_plan.specs.Latencies.{memory_latency}
use Rattle.route_plan.proofs.latency.after_memory.Goals as goal

pub returns-in-None : goal.returns-in-None
returns-in-None c =
    sym (ap (λ o. memory_latency o c.args.before) (ap (λ rows. slice_get rows c.args.memory) (sym c.as_slice.ensures) ∙ slice_get_past c.as_slice.result.now c.args.memory c.in-None.ensures.lookup.3))

pub returns-in-Some : goal.returns-in-Some
returns-in-Some c =
    let rows = c.as_slice.result.now in
    c.saturating_add.ensures
    ∙ sym (ap (λ o. memory_latency o c.args.before) (ap (λ rows. slice_get rows c.args.memory) (sym c.as_slice.ensures)
    ∙ slice_get_read rows (length rows) c.args.memory c.in-Some.row.now refl c.in-Some.ensures.lookup.3.0 c.in-Some.ensures.lookup.1))
