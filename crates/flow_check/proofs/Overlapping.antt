-- Two writes that are under way at once make a good history.
use Rattle.std.proofs.Common.{◌≡◌, ℕ, zero, suc, Some, refl}
use Rattle.tlm_types.specs.declared.words.ReqMode.TheVariants as Req
use Rattle.tlm_types.specs.declared.words.RespMode.TheVariants as Resp
use Rattle.tlm_types.specs.declared.words.TxnId.{TxnId}
use Rattle.flow_model.specs.Events.{Among, Finds, entries}
use Rattle.flow_model.specs.Platform.{world_of}
use Rattle.flow_model.specs.Points.{IsFreed}
use Rattle.flow_model.specs.World.{IsWorld, Passage}
use Rattle.flow_check.specs.Reported.{overlapping, overlapping_plan}
use Rattle.flow_check.specs.Worked.{IsWorked}
use Rattle.flow_check.proofs.Decide.{find, found}
use Rattle.flow_check.proofs.DecidePremises.{bounded, premises_of, tested}
use Rattle.flow_check.proofs.WorkedHistories.{direct_world, first, is_freed, issues, places, ungranted, worked_by}
use Rattle.flow_check.proofs.WorkedRequests.{RunsRequests}

overlapping_runs : RunsRequests overlapping_plan (entries overlapping)
unfolding overlapping_plan overlapping
overlapping_runs = record {
  keeps = record {
    numbered = (refl, (refl, (refl, (refl, (refl, (refl, (refl, (refl, (refl, (refl, (refl, (refl, (refl, (refl, (refl, (refl, (refl, (refl, tt))))))))))))))))));
    legal = (tt, (tt, (tt, (tt, (tt, (tt, (tt, (tt, ((refl, refl), (tt, ((refl, refl), (tt, (tt, (tt, (tt, (tt, (tt, (tt, tt))))))))))))))))));
    scripts = record {
      replies = (tt, (tt, (tt, (tt, (tt, (tt, (tt, (tt, ((refl, refl), (tt, ((refl, refl), (tt, (tt, (tt, (tt, (tt, (tt, (tt, tt))))))))))))))))));
      ways = (tt, (tt, (tt, (tt, (tt, (tt, (tt, (tt, (refl, (tt, (refl, (tt, (tt, (tt, (tt, (tt, (tt, (tt, tt))))))))))))))))));
      order = (tt, (tt, (tt, (tt, (tt, (tt, (tt, (tt, ((refl, refl), (tt, ((refl, refl), (tt, (tt, (tt, (tt, (tt, (tt, (tt, tt))))))))))))))))));
      places = (refl, (refl, (tt, (refl, (refl, (tt, (tt, (tt, (tt, (tt, (tt, (tt, (refl, (refl, (tt, (tt, (refl, (refl, tt))))))))))))))))));
    };
    times = (tt, (tt, (tt, (tt, (tt, (tt, (tt, (tt, (tt, (tt, (tt, (tt, (tt, (tt, (tt, (tt, (tt, (tt, tt))))))))))))))))));
  };
  ends = record { answers = (refl, tt) };
}

overlapping_world : IsWorld (world_of overlapping_plan)
unfolding overlapping_plan
overlapping_world = direct_world Req.Accept Resp.Accept 16 _

abbrev second : TxnId
second = record { initiator = 0; seq = 1 }

each_freed : (i s : ℕ) (pass : Passage) → (world_of overlapping_plan).passage (record { initiator = i; seq = s }) ≡ Some pass → Finds (Among overlapping) (IsFreed (record { initiator = i; seq = s }))
unfolding overlapping_plan overlapping
each_freed zero zero pass q = found (find (IsFreed first) (is_freed first) overlapping) refl
each_freed zero (suc zero) pass q = found (find (IsFreed second) (is_freed second) overlapping) refl
each_freed zero (suc (suc s)) pass q = cc
each_freed (suc i) s pass q = cc

pub overlapping_works : IsWorked overlapping_plan overlapping
unfolding overlapping_plan overlapping places
overlapping_works = worked_by overlapping_plan overlapping (premises_of _ _ _ places overlapping overlapping_world (found (tested _ _ _ places overlapping) refl) (found (bounded overlapping) refl)) overlapping_runs (found (issues overlapping_plan (entries overlapping)) refl) (found (ungranted overlapping_plan (entries overlapping)) refl) (λ x pass q. each_freed x.initiator x.seq pass q)
