-- What a move of an initiator needs, and what it leaves.
use Rattle.std.specs.Prelude.{ℕ, ◌≡◌, ◌<◌, ⊤, Bool, true, false, List, [], ◌∷◌, ◌++◌, length, Some, slice_get}
use Rattle.atomic_table.specs.Seated.{TableId}
use Rattle.view_lists.specs.Lists.{Within}
use Rattle.one_history.specs.declared.entry.Entry.{Entry as HistoryEntry}
use Rattle.one_history.specs.declared.view.Frame.{Frame}
use Rattle.one_history.specs.declared.view.View.{View}
use Rattle.one_history.specs.Held.{Held as Noted}
use Rattle.shared_object.specs.Steps.{IsNote}
use Rattle.token_book.specs.Purse.{Purse, IsOf}
use Rattle.tlm_types.specs.declared.entry.Content.{Content}
use Rattle.tlm_types.specs.declared.entry.Entry.{Entry}
use Rattle.tlm_types.specs.declared.words.TxnId.{TxnId}
use Rattle.tlm_model.specs.Plan.{Plan, Initiator, initiators_of}
use Rattle.tlm_model.specs.Rounds.{round_of}
use Rattle.tlm_model.specs.Route.{later}
use Rattle.generic_payload.specs.Payload.{PayloadView}
use Rattle.region_object.specs.Call.{IsReadOrWrite}
use Rattle.route_plan.specs.declared.step.Route.{Route}
use Rattle.script_engine.specs.declared.part.Transfer.{Transfer}
use Rattle.script_engine.specs.Part.{command_in, is_fenced_kind}
use Rattle.script_engine.specs.State.{payload_of}
use Rattle.quantum_keeper.specs.Keeper.{current_time}
use Rattle.initiator_run.specs.Come.{HasCome}
use Rattle.initiator_run.specs.Moves.{HasReached}
use Rattle.initiator_run.specs.Run.{Run, accessed}
use Rattle.node_hops.specs.Steps.{HasNew, IsAccessOf}
use Rattle.dmi_grants.specs.declared.access.UseOf.{UseOf}
use Rattle.dmi_grants.specs.declared.access.UseOf.TheVariants.{Used, Stale}
use Rattle.dmi_grants.specs.Table.{TableView}
use Rattle.decoupled_run.specs.Job.{IsAtEase, IsToAsk}
use Rattle.decoupled_run.specs.Known.{entry_read}

-- The access or the debug read that is next has this route, and its payload is filled.
pub record IsToMake (table tokens : TableId) (frame : Frame Plan) (r : Run) (x : Transfer) (route : Route) (payload : PayloadView) (note : Noted Content Plan) (w : Purse) (t : TableView) : Type 0 where
  pub note_of : IsNote table note
  pub wallet_of : IsOf tokens w
  pub is : IsAtEase frame r note.knows w t
  pub reached : HasReached frame.world r x route
  pub filled : payload ≡ payload_of r.engine 4096

-- the transaction that is next
abbrev pub txn_next : Run → TxnId
txn_next r = record { initiator = r.engine.initiator; seq = r.engine.seq }

-- after the access of this transaction it waits for no grant, or it is to ask for one, at this time
abbrev pub IsLeft : Bool → Frame Plan → Transfer → Route → TxnId → ℕ → Run → View Content Plan → Purse → TableView → Type 0
IsLeft false frame x route txn time r v w t = IsAtEase frame r v w t
IsLeft true frame x route txn time r v w t = IsToAsk frame r v w t (command_in x.kind) x.address route txn time × IsReadOrWrite (command_in x.kind)

-- An entry of the run's initiator at a memory, in the round of its syncs so far. With it the run has come on, in any history in which it had come
-- to where it was.
pub record IsEntryOfRun (p : Plan) (old new : Run) (e : HistoryEntry Content) : Type 0 where
  pub access : IsAccessOf p old.engine.initiator e
  pub round : (i : Initiator) → slice_get (initiators_of p) old.engine.initiator ≡ Some i → round_of p.platform i e.content.txn.seq ≡ old.syncs
  pub come : (i : Initiator) (h : List Entry) → slice_get (initiators_of p) old.engine.initiator ≡ Some i → HasCome p.platform i h old → HasCome p.platform i (h ++ entry_read p.platform e ∷ []) new

-- It was made, past all that these entries were: what comes back is what the run needs to go on, which then asks for a grant or not.
pub record HasMadeNext (table tokens : TableId) (frame : Frame Plan) (known : List (HistoryEntry Content)) (r : Run) (x : Transfer) (route : Route) (wants : Bool) (payload : PayloadView) (note : Noted Content Plan) (w : Purse) (t : TableView) : Type 0 where
  pub note_of : IsNote table note
  pub wallet_of : IsOf tokens w
  pub room : payload.room ≡ 4096
  pub whole : is_fenced_kind x.kind ≡ true → length payload.bytes ≡ x.length
  pub knew : Within known note.knows.known
  pub new : HasNew (IsEntryOfRun frame.world r (accessed x route.latency payload.bytes r)) known note.knows.known
  pub left : IsLeft wants frame x route (txn_next r) (later (current_time r.keeper) route.latency) (accessed x route.latency payload.bytes r) note.knows w t

-- by a grant it was made, or it is still to be made
abbrev pub ComesOf : TableId → TableId → Frame Plan → List (HistoryEntry Content) → Run → Transfer → Route → Purse → TableView → UseOf → Type 0
ComesOf table tokens frame known r x route w t (Used payload note at) = HasMadeNext table tokens frame known r x route false payload note w t
ComesOf table tokens frame known r x route w t (Stale payload note) = IsToMake table tokens frame r x route payload note w t × Within known note.knows.known

-- a grant that is stale is held no more
abbrev pub DropsOne : TableView → TableView → UseOf → Type 0
DropsOne old new (Used payload note at) = ⊤
DropsOne old new (Stale payload note) = length new.held < length old.held
