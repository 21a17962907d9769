use Rattle.std.proofs.Common.{◌∙◌, ap, sym, map}
use Rattle.std.proofs.lemmas.Iterator.Adapters.{YieldsList-from_vec}
use Rattle.std.proofs.lemmas.Iterator.Consumers.{YieldsList-end}
use Rattle.initiator_run.specs.Run.{end_at}
use Rattle.run_outcome.proofs.ListLemmas.{map-same, map_push}
use Rattle.plat_core.proofs.steps.into_ends.Goals as goal

pub loop-run-init : goal.loop-run-init
loop-run-init c = c.new-ends.ensures.items

pub loop-run-preserved : goal.loop-run-preserved
loop-run-preserved c = map_push end_at c.loop-run.yielded c.loop-run.ends.items c.push.new.self.items c.in-Some.run' c.into_end.result c.loop-run.invariant c.in_ok-push.ensures.items c.into_end.ensures

pub returns : goal.returns
returns c =
    let all = YieldsList-end (YieldsList-from_vec c.args.runs.items c.into_iter-run-iterator.ensures.into_iter_gives.0 (c.into_iter-run-iterator.ensures.into_iter_gives.1 ∙ c.args.runs.ok.0)) c.loop-run.yielded c.loop-run.run-iterator c.loop-run.yielded_by c.next.result c.next.new.self c.in-None.is c.next.ensures.steps in
    c.from_vec.ensures ∙ (c.loop-run.invariant ∙ ap (map end_at) (sym (map-same c.loop-run.yielded) ∙ all.0))
