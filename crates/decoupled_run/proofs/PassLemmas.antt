-- An initiator after moves without an entry.
use Rattle.std.proofs.Common.{◌≡◌, ◌⊎◌, ℕ, zero, suc, ◌+◌, ◌*◌, ◌<◌, inl, inr, Bool, true, List, length, Option, Some, refl, ap, sym, subst, ◌∙◌, arith}
use Rattle.std.specs.Prelude.{slice_get}
use Rattle.std.proofs.lemmas.Grind.{common_steps}
use Rattle.atomic_table.specs.Seated.{TableId}
use Rattle.one_history.specs.declared.view.Frame.{Frame}
use Rattle.one_history.specs.declared.view.View.{View}
use Rattle.one_history.specs.Held.{Held as Noted}
use Rattle.token_book.specs.Purse.{Purse}
use Rattle.tlm_types.specs.declared.entry.Content.{Content}
use Rattle.tlm_types.specs.declared.entry.Entry.{Entry}
use Rattle.tlm_model.specs.declared.operation.Operation.{Operation}
use Rattle.tlm_model.specs.Plan.{Plan, Initiator, initiators_of}
use Rattle.generic_payload.specs.Payload.{PayloadView}
use Rattle.script_engine.specs.declared.op.Op.TheVariants as next
use Rattle.script_engine.specs.State.{Due, State, op_at, op_of}
use Rattle.script_engine.specs.Asking.{numbers_due}
use Rattle.initiator_run.specs.declared.run.Move.{Move}
use Rattle.initiator_run.specs.declared.run.Move.TheVariants.{Ended, Went}
use Rattle.initiator_run.specs.Come.{HasCome}
use Rattle.initiator_run.specs.Moves.{IsMove, IsUnderWay, Keeps, steps_left}
use Rattle.initiator_run.specs.Run.{Run}
use Rattle.initiator_run.specs.Steps.{HasMoved, MovesIn, StepsOnce}
use Rattle.initiator_run.proofs.OnceLemmas.{StepsOnce-same}
use Rattle.initiator_run.proofs.RunLemmas.{Keeps-round}
use Rattle.dmi_grants.specs.Table.{TableView}
use Rattle.decoupled_run.specs.Job.{IsAtEase, IsAtRest, IsInitiator, IsJob, goes_direct}
use Rattle.decoupled_run.specs.Script.{IsInScript}
use Rattle.decoupled_run.proofs.ScriptLemmas.{stands_on}

no_steps_at : (s : ℕ) (due : Option Due) (ops : List Operation) → op_at s due ops ≡ next.Done → 2 * length ops + numbers_due due ≡ 0
no_steps_at s due ops done = grind (arith, common_steps)

-- a script that has ended takes no more steps
no_steps : (e : State) → op_of e ≡ next.Done → steps_left e ≡ 0
no_steps e done = no_steps_at e.seq e.due e.remaining done

-- it is under way
pub under_way : (frame : Frame Plan) (r : Run) (v : View Content Plan) (w : Purse) (t : TableView) → IsInitiator frame r v w t → IsUnderWay frame.world r
under_way frame r v w t job = record { initiator = job.initiator; history = job.mine; mine = job.is; come = job.made.come }

-- what moves without an entry keep, it keeps, where it stands in its script
pub moved_to : (frame : Frame Plan) (old new : Run) (v : View Content Plan) (w : Purse) (t : TableView) (ease : IsAtEase frame old v w t) → Keeps frame.world old new → IsInScript ease.is.initiator new.engine → (new.finished ≡ true → op_of new.engine ≡ next.Done) → IsAtEase frame new v w t
moved_to frame old new v w t ease keeps stands finished =
    let job = ease.is in
    record {
      is = record {
        valid = job.valid;
        initiator = job.initiator;
        mine = job.mine;
        is = ap (slice_get (initiators_of frame.world)) keeps.initiator ∙ job.is;
        decoupled = job.decoupled;
        below = job.below;
        made = record {
          rising = job.made.rising;
          known = job.made.known;
          own = job.made.own;
          come = keeps.come job.initiator job.mine job.is job.made.come;
          stands = stands;
          keeps = job.made.keeps;
          decoupled = job.made.decoupled;
        };
        holds = job.holds;
        tickets = λ m below.
            let has = job.tickets m below in
            let left = keeps.left job.initiator m job.is in
            let bytes = keeps.bytes job.initiator m in
            let asks = has.asks in
            let fits = has.bytes in
            record {
              asks = omega arith;
              bytes = omega arith;
              all = has.all;
            };
        roomy = job.roomy;
        no_others = job.no_others;
        finished = finished;
      };
      answered = ease.answered;
    }

-- by one of them
pub moved : (frame : Frame Plan) (old new : Run) (v : View Content Plan) (w : Purse) (t : TableView) → IsAtEase frame old v w t → Keeps frame.world old new → StepsOnce old.engine new.engine → (new.finished ≡ true → op_of new.engine ≡ next.Done) → IsAtEase frame new v w t
moved frame old new v w t ease keeps once finished =
    let job = ease.is in
    moved_to frame old new v w t ease keeps (stands_on frame.world.platform job.initiator job.mine old new job.made.come (keeps.come job.initiator job.mine job.is job.made.come) once job.made.stands) finished

-- where so many moves have led to
record StandsAfter (p : Plan) (i : Initiator) (h : List Entry) (old new : Run) : Type 0 where
  number : new.engine.initiator ≡ old.engine.initiator
  come : HasCome p.platform i h new
  stands : IsInScript i new.engine

stands_after_moves : (p : Plan) (i : Initiator) (h : List Entry) (n : ℕ) (old new : Run) → slice_get (initiators_of p) old.engine.initiator ≡ Some i → MovesIn n p old new → HasCome p.platform i h old → IsInScript i old.engine → StandsAfter p i h old new
stands_after_moves p i h zero old new is same come stands = record {
  number = ap (λ (r : Run). r.engine.initiator) same;
  come = subst (HasCome p.platform i h) (sym same) come;
  stands = subst (λ (r : Run). IsInScript i r.engine) (sym same) stands;
}
stands_after_moves p i h (suc n) old new is moves come stands =
    let middle = moves.0 in
    let before = stands_after_moves p i h n old middle is moves.1 come stands in
    let on = moves.2.come i h (ap (slice_get (initiators_of p)) before.number ∙ is) before.come in
    record {
      number = moves.2.initiator ∙ before.number;
      come = on;
      stands = stands_on p.platform i h middle new before.come on moves.3 before.stands;
    }

-- by as many as may be
pub moved_along : (frame : Frame Plan) (old new : Run) (v : View Content Plan) (w : Purse) (t : TableView) → IsAtEase frame old v w t → Keeps frame.world old new → HasMoved frame.world old new → (new.finished ≡ true → op_of new.engine ≡ next.Done) → IsAtEase frame new v w t
moved_along frame old new v w t ease keeps moves finished =
    let job = ease.is in
    moved_to frame old new v w t ease keeps (stands_after_moves frame.world job.initiator job.mine moves.count old new job.is moves.moves job.made.come job.made.stands).stands finished

-- a move that goes on leaves a script that had not ended, so that it is none of a job that has finished
moved_on : (frame : Frame Plan) (old new : Run) (v : View Content Plan) (w : Purse) (t : TableView) → IsAtEase frame old v w t → Keeps frame.world old new → StepsOnce old.engine new.engine → steps_left new.engine < steps_left old.engine → new.finished ≡ old.finished → IsAtEase frame new v w t
moved_on frame old new v w t ease keeps once fewer same =
    moved frame old new v w t ease keeps once (λ f. let none = no_steps old.engine (ease.is.finished (sym same ∙ f)) in absurd (omega arith))

job_with : (table tokens : TableId) (frame : Frame Plan) (d : Bool) (old new : Run) (before after : PayloadView) (note : Noted Content Plan) (w : Purse) (t : TableView) → IsJob table tokens frame d old before note w t → after.room ≡ before.room → new.engine.initiator ≡ old.engine.initiator → IsAtEase frame new note.knows w t → IsJob table tokens frame d new after note w t
job_with table tokens frame d old new before after note w t job room same is = record { note_of = job.note_of; wallet_of = job.wallet_of; roomy = room ∙ job.roomy; styled = job.styled ∙ ap (goes_direct frame.world) (sym same); is = is }

-- after a move that goes on or finds the script at its end
pub job_moved : (table tokens : TableId) (frame : Frame Plan) (d : Bool) (q : Plan) (old new : Run) (before after : PayloadView) (note : Noted Content Plan) (w : Purse) (t : TableView) (move : Move) → q ≡ frame.world → IsJob table tokens frame d old before note w t → Keeps q old new → StepsOnce old.engine new.engine → IsMove q old new move → (move ≡ Went) ⊎ (move ≡ Ended) → after.room ≡ before.room → IsJob table tokens frame d new after note w t
job_moved table tokens frame d q old new before after note w t move same job keeps once is (inl went) room =
    let keeps_here : Keeps frame.world old new = subst (λ (x : Plan). Keeps x old new) same keeps in
    let on : IsMove q old new Went = subst (λ (m : Move). IsMove q old new m) went is in
    job_with table tokens frame d old new before after note w t job room keeps_here.initiator (moved_on frame old new note.knows w t job.is keeps_here once on.0 on.1)
job_moved table tokens frame d q old new before after note w t move same job keeps once is (inr ended) room =
    let keeps_here : Keeps frame.world old new = subst (λ (x : Plan). Keeps x old new) same keeps in
    let end : IsMove q old new Ended = subst (λ (m : Move). IsMove q old new m) ended is in
    job_with table tokens frame d old new before after note w t job room keeps_here.initiator (moved frame old new note.knows w t job.is keeps_here once (λ f. end.0.done))

-- at an access with a route it stands where it stood
pub job_reached : (table tokens : TableId) (frame : Frame Plan) (d : Bool) (old new : Run) (before after : PayloadView) (note : Noted Content Plan) (w : Purse) (t : TableView) → IsJob table tokens frame d old before note w t → new ≡ old → after.room ≡ before.room → IsJob table tokens frame d new after note w t
job_reached table tokens frame d old new before after note w t job same room =
    job_with table tokens frame d old new before after note w t job room (ap (λ (r : Run). r.engine.initiator) same) (subst (λ (r : Run). IsAtEase frame r note.knows w t) (sym same) job.is)

-- once its sync has been let through
pub job_let_through : (table tokens : TableId) (frame : Frame Plan) (d : Bool) (old new : Run) (payload : PayloadView) (note : Noted Content Plan) (w : Purse) (t : TableView) (n : ℕ) → IsJob table tokens frame d old payload note w t → new ≡ record old { round = n } → IsJob table tokens frame d new payload note w t
job_let_through table tokens frame d old new payload note w t n job is =
    job_with table tokens frame d old new payload payload note w t job refl (ap (λ (r : Run). r.engine.initiator) is)
    (subst (λ (r : Run). IsAtEase frame r note.knows w t) (sym is) (moved frame old (record old { round = n }) note.knows w t job.is (Keeps-round frame.world old (record old { round = n }) n refl) (StepsOnce-same old.engine) job.is.is.finished))

-- a place has one value
pub one_value : {A : Type 0} (place : Option A) (x y : A) → place ≡ Some x → place ≡ Some y → x ≡ y
one_value {A} place x y first second = same (sym first ∙ second)
  where
    same : Some x ≡ Some y → x ≡ y
    same q = cc

-- the job of one at rest, by what is taken out of its places
pub job_at_rest : (table tokens : TableId) (frame : Frame Plan) (d : Bool) (r : Run) (held : Option PayloadView) (payload : PayloadView) (place : Option (Noted Content Plan)) (note : Noted Content Plan) (w : Purse) (t : TableView) → IsAtRest table tokens frame d r held place w t → held ≡ Some payload → place ≡ Some note → IsJob table tokens frame d r payload note w t
job_at_rest table tokens frame d r held payload place note w t rest its_payload its_note =
    subst (λ (x : PayloadView). IsJob table tokens frame d r x note w t) (one_value held rest.its_payload payload rest.has_payload its_payload)
    (subst (λ (x : Noted Content Plan). IsJob table tokens frame d r rest.its_payload x w t) (one_value place rest.its_note note rest.has_note its_note) rest.job)
