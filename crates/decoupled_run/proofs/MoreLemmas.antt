-- What an initiator keeps by a note, it keeps by one that knows and has seen more.
use Rattle.std.proofs.Common.{ℕ, refl}
use Rattle.view_lists.specs.Lists.{Within}
use Rattle.one_history.specs.declared.view.Frame.{Frame}
use Rattle.one_history.specs.declared.view.View.{View}
use Rattle.one_history.specs.Lists.{StandBelow}
use Rattle.token_book.specs.Purse.{Purse}
use Rattle.tlm_types.specs.declared.entry.Content.{Content}
use Rattle.tlm_types.specs.declared.words.Command.{Command}
use Rattle.tlm_types.specs.declared.words.TxnId.{TxnId}
use Rattle.tlm_model.specs.Plan.{Plan}
use Rattle.route_plan.specs.declared.step.Route.{Route}
use Rattle.initiator_run.specs.Run.{Run}
use Rattle.dmi_grants.specs.Table.{TableView}
use Rattle.dmi_grants.proofs.Revoking.{revoking_goes_on}
use Rattle.decoupled_run.specs.declared.steps.Owes.{Owes}
use Rattle.decoupled_run.specs.declared.steps.Owes.TheVariants.{Nothing, Grant, Closings}
use Rattle.decoupled_run.specs.Job.{IsAtEase, IsToAsk}
use Rattle.decoupled_run.specs.More.{JobStays}
use Rattle.decoupled_run.specs.Stepped.{IsOwing, SteppedStays}
use Rattle.decoupled_run.proofs.JobLemmas.{learns_more, still_nothing}

module _ (frame : Frame Plan) (r : Run) (note back : View Content Plan) (w : Purse) (t : TableView) (more : Within note.known back.known) (below : StandBelow back.known back.seen) where
  pub ease_more : IsAtEase frame r note w t → IsAtEase frame r back w t
  ease_more ease = record {
    is = learns_more frame r note back w t ease.is w more below (λ k. refl) (λ k. refl) (λ k room. room);
    answered = still_nothing frame.world ease.is.initiator note back ease.is.mine more below ease.answered;
  }

  pub asks_more : (command : Command) (address : ℕ) (route : Route) (txn : TxnId) (time : ℕ) → IsToAsk frame r note w t command address route txn time → IsToAsk frame r back w t command address route txn time
  asks_more command address route txn time asks = record {
    is = learns_more frame r note back w t asks.is w more below (λ k. refl) (λ k. refl) (λ k room. room);
    asking = asks.asking;
  }

  pub owes_more : (owes : Owes) → IsOwing frame r note w t owes → IsOwing frame r back w t owes
  owes_more Nothing is = ease_more is
  owes_more (Grant command address txn at) is = (is.0, asks_more command address is.0 txn at is.1, is.2, is.3)
  owes_more (Closings k) is = record {
    past = is.past;
    before = is.before;
    start = is.start;
    ease = is.ease;
    next = is.next;
    reached = is.reached;
    run = is.run;
    is = is.is;
    revoking = revoking_goes_on frame k is.before note back is.start w is.revoking more;
    roomy = is.roomy;
    of_round = is.of_round;
  }

pub job_stays : JobStays
job_stays table tokens frame direct r payload note back w t job note_of more below = record {
  note_of = note_of;
  wallet_of = job.wallet_of;
  roomy = job.roomy;
  styled = job.styled;
  is = ease_more frame r note.knows back.knows w t more below job.is;
}

pub stepped_stays : SteppedStays
stepped_stays table tokens frame s note back stepped note_of more below = record {
  payload = stepped.payload;
  has_payload = stepped.has_payload;
  roomy = stepped.roomy;
  note_of = note_of;
  below = below;
  wallet_of = stepped.wallet_of;
  styled = stepped.styled;
  is = owes_more frame s.run note.knows back.knows s.wallet s.grants more below s.owes stepped.is;
  settled = stepped.settled;
}
