-- How a blocking or direct initiator ended that has finished, in a sound history that others write, too.
use Rattle.std.proofs.Common.{◌≡◌, ◌≢◌, ℕ, List, Some, true, map, sym, ap, ◌∙◌}
use Rattle.std.specs.Prelude.{slice_get}
use Rattle.std.specs.List.{filter}
use Rattle.std.proofs.lemmas.Bool.{false≢true}
use Rattle.tlm_types.specs.declared.ends.EndOf.{EndOf}
use Rattle.tlm_types.specs.declared.entry.Entry.{Entry}
use Rattle.tlm_model.specs.declared.platform.Style.TheVariants.{FourPhase}
use Rattle.tlm_model.specs.Plan.{Plan, Initiator, initiators_of}
use Rattle.tlm_model.specs.Requests.{Request, has_no_route}
use Rattle.report_model.specs.Ends.{IsEndOf}
use Rattle.report_model.proofs.Ending.{ends_by_latencies}
use Rattle.good_history.specs.Good.{IsSound}
use Rattle.script_engine.specs.declared.op.Op.TheVariants as next
use Rattle.script_engine.specs.State.{op_of}
use Rattle.script_engine.proofs.Steps.{ends}
use Rattle.initiator_run.specs.Come.{HasCome}
use Rattle.initiator_run.specs.Run.{IsSoFar, Run, refused_item}
use Rattle.initiator_run.proofs.EndLemmas.{HasCome-ended}
use Rattle.plat_core.specs.NetRuns.{decoupled_part}
use Rattle.plat_core.specs.Rounds.{is_decoupled}
use Rattle.plat_core.proofs.PartLemmas.{part_is_enough}

pub end_by_part : (p : Plan) (h : List Entry) (n : ℕ) (i : Initiator) (r : Run) (end : EndOf) → slice_get (initiators_of p) n ≡ Some i → is_decoupled i.row.style ≡ true → IsSound p h → HasCome p.platform i (decoupled_part p h) r → op_of r.engine ≡ next.Done → IsSoFar r end → IsEndOf p i h end
end_by_part p h n i r end at style sound come done so_far =
    let reached = HasCome-ended ends p.platform i (decoupled_part p h) r come done in
    let tells = part_is_enough p h n i at style sound in
    (ends_by_latencies p i h end apart).1 (record {
      transactions = so_far.transactions ∙ reached.transactions;
      syncs = so_far.syncs ∙ reached.syncs;
      time = so_far.time ∙ reached.end;
      refused = so_far.refused ∙ (reached.refused ∙ ap (λ (rs : List Request). map refused_item (filter (λ (q : Request). has_no_route p.platform i q q.asked) rs)) tells.requests);
    })
  where
    apart : i.row.style ≢ FourPhase
    apart four = false≢true (ap is_decoupled (sym four) ∙ style)
