use Rattle.std.proofs.Common.{◌∙◌, ap, sym, map}
use Rattle.std.proofs.lemmas.Iterator.Adapters.{YieldsList-from_vec}
use Rattle.std.proofs.lemmas.Iterator.Consumers.{YieldsList-end}
use Rattle.entry_log.specs.Log.{LogView}
use Rattle.tlm_model.specs.Log.{log_bytes}
use Rattle.region_object.specs.Region.{LoggedMemory}
use Rattle.plat_core.specs.Core.{logs_of}
use Rattle.run_outcome.specs.Places.{entries_of_logs}
use Rattle.run_outcome.proofs.ListLemmas.{map-push, map-same, map_push}
use Rattle.plat_core.proofs.steps.into_parts.Goals as goal

pub loop-region-init : goal.loop-region-init
loop-region-init c = (ap (map (λ (log : LogView). log.entries)) c.new-logs.ensures.items, c.new-stores.ensures.items)

pub loop-region-preserved : goal.loop-region-preserved
loop-region-preserved c = (
  map_push (λ (m : LoggedMemory). m.log.entries) c.loop-region.yielded (entries_of_logs c.loop-region.logs.items) (entries_of_logs c.push.new.self.items) c.in-Some.region c.into_parts-log.result.0.entries c.loop-region.invariant.0
      (ap (map (λ (log : LogView). log.entries)) c.in_ok-push.ensures.items ∙ map-push (λ (log : LogView). log.entries) c.loop-region.logs.items c.into_parts-log.result.0) (ap (λ (log : LogView). log.entries) c.into_parts-log.ensures.log),
  map_push (λ (m : LoggedMemory). log_bytes m.traits m.log.entries) c.loop-region.yielded c.loop-region.stores.items c.push-in-loop-region.new.self.items c.in-Some.region c.into_parts-log.result.1 c.loop-region.invariant.1 c.in_ok-push-2.ensures.items c.into_parts-log.ensures.bytes,
)

pub returns-clause-logs : goal.returns-clause-logs
returns-clause-logs c =
    let all = YieldsList-end (YieldsList-from_vec c.args.regions.items c.into_iter-region-iterator.ensures.into_iter_gives.0 (c.into_iter-region-iterator.ensures.into_iter_gives.1 ∙ c.args.regions.ok.0)) c.loop-region.yielded c.loop-region.region-iterator c.loop-region.yielded_by c.next.result c.next.new.self c.in-None.is c.next.ensures.steps in
    c.loop-region.invariant.0 ∙ ap logs_of (sym (map-same c.loop-region.yielded) ∙ all.0)

pub returns-clause-stores : goal.returns-clause-stores
returns-clause-stores c =
    let all = YieldsList-end (YieldsList-from_vec c.args.regions.items c.into_iter-region-iterator.ensures.into_iter_gives.0 (c.into_iter-region-iterator.ensures.into_iter_gives.1 ∙ c.args.regions.ok.0)) c.loop-region.yielded c.loop-region.region-iterator c.loop-region.yielded_by c.next.result c.next.new.self c.in-None.is c.next.ensures.steps in
    c.from_vec.ensures ∙ (c.loop-region.invariant.1 ∙ ap (map (λ (m : LoggedMemory). log_bytes m.traits m.log.entries)) (sym (map-same c.loop-region.yielded) ∙ all.0))
