-- An initiator that has finished leaves what the end of a run and that of its grants want of it.
use Rattle.std.proofs.Common.{Bool, ◌≡◌, true, List, length, Option, Some, None, ap, subst, arith}
use Rattle.std.specs.Prelude.{IsTrue, MatchOption}
use Rattle.atomic_table.specs.Seated.{TableId}
use Rattle.view_lists.specs.Lists.{Has, Within}
use Rattle.view_lists.proofs.Members.{has_map, has_mapped}
use Rattle.one_history.specs.declared.entry.Entry.{Entry as HistoryEntry}
use Rattle.one_history.specs.declared.view.Frame.{Frame}
use Rattle.one_history.specs.declared.view.View.{View}
use Rattle.one_history.specs.Held.{Held as Noted}
use Rattle.token_book.specs.Purse.{Purse, left_of}
use Rattle.tlm_types.specs.declared.entry.Content.{Content}
use Rattle.tlm_types.specs.declared.entry.Entry.{Entry}
use Rattle.tlm_types.specs.declared.words.ObjectNo.TheVariants.{Memory}
use Rattle.tlm_model.specs.History.{IsNumbered}
use Rattle.tlm_model.specs.Plan.{Plan, Initiator}
use Rattle.good_history.specs.Grants.{asks, last_of}
use Rattle.good_history.specs.Kept.{GivesGatesInOrder}
use Rattle.joined_traffic.specs.Parts.{HasDoneGrants, KnowsAllGiven}
use Rattle.joined_traffic.specs.Places.{AreInPlace}
use Rattle.joined_traffic.proofs.Lists.{numbered_has}
use Rattle.generic_payload.specs.Payload.{PayloadView}
use Rattle.flow_model.specs.Events.{Event, entries}
use Rattle.cargo_model.specs.Known.{event_of, object_number}
use Rattle.cargo_net.proofs.ObjectsOnce.{stands_once}
use Rattle.plat_net.proofs.NumberLemmas.{memory_there}
use Rattle.script_engine.proofs.Steps.{ends}
use Rattle.initiator_run.specs.Run.{Run, end_at}
use Rattle.initiator_run.proofs.EndLemmas.{HasCome-ended}
use Rattle.net_end.specs.Closed.{events_in}
use Rattle.net_end.specs.Finished.{IsRunDone}
use Rattle.dmi_grants.specs.Table.{TableView}
use Rattle.decoupled_run.specs.End.{IsFinished}
use Rattle.decoupled_run.specs.Job.{AreBelow, HasAllOf, IsAtEase, IsInitiator, IsJob}
use Rattle.decoupled_run.specs.Known.{entry_read, known_to}
use Rattle.decoupled_run.proofs.KnownLemmas.{given_on}

module _ (frame : Frame Plan) (r : Run) (v : View Content Plan) (w : Purse) (t : TableView) (ease : IsAtEase frame r v w t) (finished : r.finished ≡ true) where
  abbrev pub p : Plan
  p = frame.world

  abbrev pub job : IsInitiator frame r v w t
  job = ease.is

  abbrev pub i : Initiator
  i = (job).initiator

  module _ (all : List (HistoryEntry Content)) (tells : Within v.known all) where
    abbrev pub h : List Entry
    h = entries (events_in p.platform all)

    -- what its note knows stands in the history
    pub known_there : Within (known_to p v) h
    known_there e has =
        let from = has_map (entry_read p.platform) v.known e has in
        subst (Has h) from.2
        (has_mapped (λ (x : Event). x.entry) (events_in p.platform all) (event_of p.platform from.0) (has_mapped (event_of p.platform) all from.0 (tells from.0 from.1)))

    abbrev pub run_done : IsRunDone p i (events_in p.platform all) (λ o. left_of w (object_number p.platform o)) (end_at r)
    run_done =
        let reached = HasCome-ended ends p.platform i (job).mine r (job).made.come ((job).finished finished) in
        record {
          mine = (job).mine;
          within = λ e has. known_there e ((job).made.known e has);
          own = (job).made.own;
          runs = record { rising = (job).made.rising; keeps = (job).made.keeps; ended = reached.ended };
          all = λ m below.
              let has = ((job).tickets m below).all in
              let same = ap (left_of w) (stands_once p.platform m (Memory m) (memory_there p.platform m below)) in
              omega arith;
          end_is = record { transactions = reached.transactions; syncs = reached.syncs; time = reached.end; refused = reached.refused };
        }

    module _ (numbered : IsNumbered h) (gates : GivesGatesInOrder h) (places : AreInPlace (events_in p.platform all)) where
      has_all : HasAllOf p v h
      has_all = record {
        within = known_there;
        numbered = numbered;
        gates = gates;
        places = λ m e has at. places m (event_of p.platform e) (has_mapped (event_of p.platform) all e (tells e has)) at;
      }

      below : AreBelow (known_to p v) (length h)
      below e has = let b = numbered_has 0 h e numbered (known_there e has) in let less = b.1 in omega arith

      by_last : (o : Option Entry) → MatchOption o (Unit {0}) (λ a. IsTrue (asks p a) → KnowsAllGiven p (known_to p v) v.seen a.object) → MatchOption o (Unit {0}) (λ a. IsTrue (asks p a) → KnowsAllGiven p h (length h) a.object)
      by_last None nothing = tt
      by_last (Some a) nothing = λ ask. given_on p (known_to p v) h v.seen (length h) a.object known_there below (nothing ask)

      pub grants_done : HasDoneGrants p i h (job).mine
      grants_done = record {
        keeps = (job).holds.own h has_all;
        ends = record {
          answered = by_last (last_of (i).number (job).mine) ease.answered;
          returns = (job).holds.returned h (length h) has_all below;
        };
      }

-- so a job leaves what is wanted of one that has finished
pub job_finished : (table tokens : TableId) (frame : Frame Plan) (d : Bool) (r : Run) (payload : PayloadView) (note : Noted Content Plan) (w : Purse) (t : TableView) → IsJob table tokens frame d r payload note w t → r.finished ≡ true → IsFinished table tokens frame.world r.engine.initiator (end_at r) note w
job_finished table tokens frame d r payload note w t job finished = record {
  note_of = job.note_of;
  wallet_of = job.wallet_of;
  no_others = job.is.is.no_others;
  initiator = job.is.is.initiator;
  at = job.is.is.is;
  decoupled = job.is.is.decoupled;
  done = λ all tells. run_done frame r note.knows w t job.is finished all tells;
  grants = λ all tells. grants_done frame r note.knows w t job.is finished all tells;
}
