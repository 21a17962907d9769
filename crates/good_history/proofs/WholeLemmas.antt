-- A joined history has the points of requests, and is sound.
use Rattle.std.specs.List.{AllByRecursion, list_all}
use Rattle.std.proofs.Common.{List, [], ◌∷◌, ◌++◌, ap, ◌∙◌}
use Rattle.tlm_types.specs.declared.entry.Entry.{Entry}
use Rattle.tlm_model.specs.Each.{EachFrom}
use Rattle.tlm_model.specs.Plan.{Plan, initiators_of}
use Rattle.tlm_model.specs.Requests.{requests_of}
use Rattle.tlm_model.specs.Scripts.{IsPlaced, RunsScripts, is_settled}
use Rattle.tlm_model.proofs.HistoryLemmas.{AllByRecursion-weaker}
use Rattle.flow_model.specs.Plans.{IsDecoupled}
use Rattle.good_history.specs.Laws.{AllDecoupled}
use Rattle.good_history.proofs.Ungranted.{blocking_is_good, blocking_is_sound}
use Rattle.good_history.specs.Own.{own}
use Rattle.good_history.specs.Joined.{IsJoined, OwnDecoupled}
use Rattle.good_history.specs.JoinedLaws.{JoinedEndsRequests, JoinedIsGood, JoinedIsSound, JoinedKeepsRequests}
use Rattle.good_history.proofs.ScriptLemmas.{all_joined, own_scripts_join, own_times_join}
use Rattle.good_history.proofs.OwnLemmas.{own_is_enough}
use Rattle.good_history.proofs.StoreLemmas.{logs_make_store}

-- what holds of each entry, whatever stands before it
each_all : (P : Entry → Type 0) (before h : List Entry) → EachFrom (λ b e. P e) before h → AllByRecursion P h
each_all P before [] each = tt
each_all P before (e ∷ h) each = (each.0, each_all P (before ++ e ∷ []) h each.1)

pub joined_keeps_requests : JoinedKeepsRequests
joined_keeps_requests p h joined =
    let scripts : RunsScripts p h = own_scripts_join p h joined.owners (AllByRecursion-weaker _ _ (initiators_of p) (λ i k. k.scripts) joined.initiators) in
    record {
      numbered = joined.numbered;
      legal = logs_make_store p.platform h joined.memories (each_all (λ (e : Entry). IsPlaced p.platform e.txn.initiator e.object e.what) [] h scripts.places);
      scripts = scripts;
      times = own_times_join p h joined.owners (AllByRecursion-weaker _ _ (initiators_of p) (λ i k. k.times) joined.initiators);
    }

pub joined_ends_requests : JoinedEndsRequests
joined_ends_requests p h ended = record {
  answers = AllByRecursion-weaker _ _ (initiators_of p) (λ i ends.
      let told = own_is_enough p.platform i h in
      told.all_settled (requests_of p.platform i h) ∙ (ap (list_all (is_settled p.platform i (own i.number h))) told.requests ∙ ends)) ended;
}

-- and stands at memories
pub joined_is_decoupled : (p : Plan) (h : List Entry) → OwnDecoupled p h → IsJoined p h → AllDecoupled h
joined_is_decoupled p h decoupled joined = all_joined p h (λ (e : Entry). IsDecoupled e.object e.what) joined.owners decoupled

pub joined_is_sound : JoinedIsSound
joined_is_sound p h none direct decoupled closes joined =
    blocking_is_sound p h none direct (joined_is_decoupled p h decoupled joined) closes (joined_keeps_requests p h joined)

pub joined_is_good : JoinedIsGood
joined_is_good p h none direct decoupled closes joined ended =
    blocking_is_good p h none direct (joined_is_decoupled p h decoupled joined) closes (joined_keeps_requests p h joined) (joined_ends_requests p h ended)
