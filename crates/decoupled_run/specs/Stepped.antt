-- A blocking or direct initiator that is stepped an entry at a time.
use Rattle.std.specs.Prelude.{ℕ, ◌≡◌, ◌<◌, Bool, true, false, [], length, Some, slice_get, ◌++◌, ◌∷◌, List, ◌⊎◌}
use Rattle.atomic_table.specs.Seated.{TableId}
use Rattle.view_lists.specs.Lists.{Within}
use Rattle.one_history.specs.declared.entry.Entry.{Entry as HistoryEntry}
use Rattle.one_history.specs.declared.view.Frame.{Frame}
use Rattle.one_history.specs.declared.view.View.{View}
use Rattle.one_history.specs.Held.{Held as Noted}
use Rattle.one_history.specs.Lists.{StandBelow}
use Rattle.shared_object.specs.Steps.{IsNote}
use Rattle.shared_object.specs.Written.{written_at}
use Rattle.token_book.specs.Purse.{Purse, IsOf, left_of}
use Rattle.tlm_types.specs.declared.entry.Content.{Content}
use Rattle.tlm_types.specs.declared.entry.Entry.{Entry}
use Rattle.tlm_types.specs.declared.words.TxnId.{TxnId}
use Rattle.tlm_model.specs.Plan.{Plan, Initiator, initiators_of}
use Rattle.tlm_model.specs.Rounds.{round_of}
use Rattle.tlm_model.specs.Scripts.{is_answer}
use Rattle.generic_payload.specs.Payload.{PayloadView}
use Rattle.region_object.specs.Call.{IsReadOrWrite}
use Rattle.route_plan.specs.declared.step.Route.{Route}
use Rattle.script_engine.specs.declared.part.Transfer.{Transfer}
use Rattle.script_engine.specs.Part.{command_in}
use Rattle.quantum_keeper.specs.Keeper.{current_time}
use Rattle.initiator_run.specs.declared.run.NextInvalidation.{NextInvalidation}
use Rattle.initiator_run.specs.Board.{SyncsOnce}
use Rattle.initiator_run.specs.Come.{HasCome}
use Rattle.initiator_run.specs.Moves.{HasToInvalidate, HasReached, Keeps}
use Rattle.initiator_run.specs.Run.{Run, invalidated}
use Rattle.plat_net.specs.Calls.{HasNoPassage}
use Rattle.node_hops.specs.Steps.{HasNew, IsAccessOf}
use Rattle.plat_build.specs.Kept.{IsBlank}
use Rattle.dmi_grants.specs.declared.invalidation.Revocation.{Revocation}
use Rattle.dmi_grants.specs.declared.ask.Asked.{Asked}
use Rattle.dmi_grants.specs.declared.ask.Asked.TheVariants.{Held, Denied}
use Rattle.dmi_grants.specs.Made.{IsRoomyFor, unclosed}
use Rattle.dmi_grants.specs.Revoking.{IsClosingEntry, IsRevoking, RevokesAll, RevokesMore}
use Rattle.dmi_grants.specs.Table.{TableView}
use Rattle.decoupled_run.specs.declared.steps.Owes.{Owes}
use Rattle.decoupled_run.specs.declared.steps.Owes.TheVariants.{Nothing, Grant, Closings}
use Rattle.decoupled_run.specs.declared.steps.SteppedInitiator.{SteppedInitiator}
use Rattle.decoupled_run.specs.Job.{IsAtEase, IsToAsk, goes_direct}
use Rattle.decoupled_run.specs.Known.{entry_read}
use Rattle.decoupled_run.specs.Moves.{txn_next}

-- a transaction of the run's initiator is of the round that the run is in
abbrev pub IsOfRound : Plan → Run → TxnId → Type 0
IsOfRound p r txn = (i : Initiator) → slice_get (initiators_of p) r.engine.initiator ≡ Some i → round_of p.platform i txn.seq ≡ r.round

-- After moves without an entry a run stood at an access, a debug read or an invalidation that has a route, with its last sync let through. It has
-- been let through no other sync since.
pub record IsNextAfter (p : Plan) (old new : Run) : Type 0 where
  pub middle : Run
  pub keeps : Keeps p old middle
  pub through : middle.round ≡ middle.syncs
  pub round : new.round ≡ middle.round
  pub next : ((x : Transfer) × (route : Route) × HasReached p middle x route) ⊎ ((x : NextInvalidation) × HasToInvalidate p middle x)

-- An entry of a step of the run's initiator at a memory, of the round that the run is in. With it the run has come on, in any history in which it
-- had come to where it was. Where it is an answer, it is what was next.
pub record IsStepEntry (p : Plan) (old new : Run) (e : HistoryEntry Content) : Type 0 where
  pub access : IsAccessOf p old.engine.initiator e
  pub round : (i : Initiator) → slice_get (initiators_of p) old.engine.initiator ≡ Some i → round_of p.platform i e.content.txn.seq ≡ new.round
  pub come : (i : Initiator) (h : List Entry) → slice_get (initiators_of p) old.engine.initiator ≡ Some i → HasCome p.platform i h old → HasCome p.platform i (h ++ entry_read p.platform e ∷ []) new
  pub next : is_answer e.content.what ≡ true → IsNextAfter p old new

-- It has told an invalidation, and has grants left to end: where it told it, it was at ease. Its run has passed the invalidation since.
pub record IsRevokingFor (frame : Frame Plan) (r : Run) (v : View Content Plan) (w : Purse) (t : TableView) (k : Revocation) : Type 0 where
  pub past : Run
  pub before : View Content Plan
  pub start : Purse
  pub ease : IsAtEase frame past before start t
  pub next : NextInvalidation
  pub reached : HasToInvalidate frame.world past next
  pub run : r ≡ invalidated past
  pub is : k ≡ record { memory = next.route.memory; first = next.first; last = next.last; position = k.position; txn = txn_next past; at = current_time past.keeper }
  pub revoking : IsRevoking frame k before v start w
  pub roomy : (m : ℕ) → IsRoomyFor m start → IsRoomyFor m w
  pub of_round : IsOfRound frame.world r k.txn

-- what it is at, by what it owes
abbrev pub IsOwing : Frame Plan → Run → View Content Plan → Purse → TableView → Owes → Type 0
IsOwing frame r v w t Nothing = IsAtEase frame r v w t
IsOwing frame r v w t (Grant command address txn at) = (route : Route) × IsToAsk frame r v w t command address route txn at × IsReadOrWrite command × IsOfRound frame.world r txn
IsOwing frame r v w t (Closings k) = IsRevokingFor frame r v w t k

-- Between two steps: it is of this history and of these tokens, is a direct one or not, and its payload is with it. This note is the one that it
-- is stepped with. Once it has finished, it owes nothing.
pub record IsStepped (table tokens : TableId) (frame : Frame Plan) (s : SteppedInitiator) (note : Noted Content Plan) : Type 0 where
  pub payload : PayloadView
  pub has_payload : s.payload ≡ Some payload
  pub roomy : payload.room ≡ 4096
  pub note_of : IsNote table note
  pub below : StandBelow note.knows.known note.knows.seen
  pub wallet_of : IsOf tokens s.wallet
  pub styled : s.is_direct ≡ goes_direct frame.world s.run.engine.initiator
  pub is : IsOwing frame s.run note.knows s.wallet s.grants s.owes
  pub settled : s.run.finished ≡ true → s.owes ≡ Nothing

-- It is about to begin: it has made no entry and no sync, and owes nothing.
pub record HasBegun (table tokens : TableId) (frame : Frame Plan) (number : ℕ) (s : SteppedInitiator) (note : Noted Content Plan) : Type 0 where
  pub stepped : IsStepped table tokens frame s note
  pub blank : IsBlank table note
  pub number_is : s.run.engine.initiator ≡ number
  pub fresh : (s.run.syncs ≡ 0) × (s.run.round ≡ 0) × (s.run.finished ≡ false)
  pub free : s.owes ≡ Nothing
  pub come : (i : Initiator) → slice_get (initiators_of frame.world) number ≡ Some i → HasCome frame.world.platform i [] s.run

-- It did what it owed, and made an entry, or made none and owes nothing more. Its run is as before.
pub record HasSettled (table tokens : TableId) (frame : Frame Plan) (old new : SteppedInitiator) (note back : Noted Content Plan) (made : Bool) : Type 0 where
  pub stepped : IsStepped table tokens frame new back
  pub run : new.run ≡ old.run
  pub knew : Within note.knows.known back.knows.known
  pub settled : made ≡ false → new.owes ≡ Nothing
  pub adds : made ≡ true → HasNew (IsStepEntry frame.world old.run new.run) note.knows.known back.knows.known

-- It made the entry that was next, with the sync that is due after it.
pub record HasMadeOne (table tokens : TableId) (frame : Frame Plan) (old new : SteppedInitiator) (note back : Noted Content Plan) : Type 0 where
  pub stepped : IsStepped table tokens frame new back
  pub knew : Within note.knows.known back.knows.known
  pub number : new.run.engine.initiator ≡ old.run.engine.initiator
  pub syncs : SyncsOnce old.run new.run
  pub finished : new.run.finished ≡ old.run.finished
  pub adds : HasNew (IsStepEntry frame.world old.run new.run) note.knows.known back.knows.known

-- an invalidation that was told may close gates
pub record MayCloseNext (frame : Frame Plan) (k : Revocation) (v : View Content Plan) (w : Purse) : Type 0 where
  pub before : View Content Plan
  pub start : Purse
  pub revoking : IsRevoking frame k before v start w
  pub there : k.memory < length frame.world.platform.memories
  pub passes : HasNoPassage frame.world k.txn
  pub pays : unclosed frame.world k.memory (written_at k.memory before.known) < left_of start k.memory
  pub roomy : IsRoomyFor k.memory w

-- it has closed one, or none was left
pub record HasClosedNext (table tokens : TableId) (frame : Frame Plan) (k : Revocation) (note back : Noted Content Plan) (old new : Purse) (closed : Bool) : Type 0 where
  pub note_of : IsNote table back
  pub wallet_of : IsOf tokens new
  pub knew : Within note.knows.known back.knows.known
  pub below : StandBelow back.knows.known back.knows.seen
  pub roomy : (m : ℕ) → IsRoomyFor m old → IsRoomyFor m new
  pub more : closed ≡ true → RevokesMore frame k note.knows back.knows old new
  pub all : closed ≡ false → RevokesAll frame k note.knows back.knows old new
  pub adds : closed ≡ true → HasNew (IsClosingEntry frame.world k) note.knows.known back.knows.known

-- whether a wish was granted
abbrev pub is_held : Asked → Bool
is_held (Held which) = true
is_held (Denied denial) = false

-- what is owed after an access that wants a grant, or none
abbrev pub owed_after : Bool → Transfer → TxnId → ℕ → Owes
owed_after true x txn at = Grant (command_in x.kind) x.address txn at
owed_after false x txn at = Nothing

-- it stays so as its note learns more
abbrev pub SteppedStays : Type 0
SteppedStays = (table tokens : TableId) (frame : Frame Plan) (s : SteppedInitiator) (note back : Noted Content Plan)
    → IsStepped table tokens frame s note → IsNote table back → Within note.knows.known back.knows.known → StandBelow back.knows.known back.knows.seen → IsStepped table tokens frame s back
