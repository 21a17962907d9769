-- An access that has arrived is what its port takes back.
use Rattle.std.specs.Prelude.{ℕ, ◌≡◌, ◌+◌, ◌<◌, max, true, false, List, ◌++◌, length, Option, Some, map, slice_get}
use Rattle.view_lists.specs.Lists.{Within}
use Rattle.one_history.specs.declared.entry.Entry.{Entry as HistoryEntry}
pub use Rattle.one_history.specs.Lists.{StandBelow}
use Rattle.tlm_types.specs.declared.entry.Content.{Content}
use Rattle.tlm_types.specs.declared.entry.Entry.{Entry}
use Rattle.tlm_types.specs.declared.words.ObjectNo.{ObjectNo}
use Rattle.tlm_types.specs.declared.words.Phase.TheVariants.{EndResp}
use Rattle.tlm_types.specs.declared.words.TlmSync.TheVariants.{Completed}
use Rattle.tlm_model.specs.declared.platform.Platform.{Platform}
use Rattle.tlm_model.specs.declared.platform.Style.TheVariants.{FourPhase}
use Rattle.tlm_model.specs.Plan.{Plan, Initiator, initiators_of}
use Rattle.token_book.specs.Purse.{Purse, left_of}
use Rattle.generic_payload.specs.Payload.{PayloadView}
use Rattle.flow_model.specs.World.{hop_at}
use Rattle.flow_model.specs.Events.{Event, Finds, IsCall}
use Rattle.flow_model.specs.Valid.{HasNoCycle}
use Rattle.cargo_model.specs.Known.{event_of, object_number}
use Rattle.cargo_model.specs.Laws.{Case, HasEnded, IsBack, knows}
use Rattle.cargo_model.specs.Tickets.{Pulls, PullsOwed}
use Rattle.cargo_model.specs.Travel.{IsReplied, numbers_for}
use Rattle.cargo_end.specs.Arrival.{Asked, HasLeft, calls_by, route}
use Rattle.joined_traffic.specs.Accesses.{txn_of}
use Rattle.script_engine.specs.Part.{IsRead}
use Rattle.script_engine.specs.State.{length_of, op_of, told_by}
use Rattle.script_engine.specs.Asking.{IsAnswered}
use Rattle.port_model.specs.Way.{IsUnderWay, Port}
use Rattle.port_model.specs.Laws.{ComesBack, Removes, replies_of}

-- the entries that a note knows, as the port reads them
abbrev pub events_of : Platform → List (HistoryEntry Content) → List Event
events_of p entries = map (event_of p) entries

-- What an access has left when it arrives: what vouched for it, what its wallet has, and its end on the first hop.
pub record HasArrived (s : Case) (z : Purse) (v : PayloadView) : Type 0 where
  pub asked : Asked s
  pub content : IsReplied s.p s.tokens (knows s) s.x s.pass asked.access (route s asked) v
  pub left : HasLeft s asked z
  pub ended : HasEnded s 0

-- Its payload is back on the first hop. Once the END_RESP that is owed there was made and the last two Releases, the access has arrived.
pub record IsFinished (s : Case) (owed : ℕ) (u : IsBack s owed 0) (z : Purse) : Type 0 where
  pub few : owed < 2
  pub ended : 0 < owed → Finds (knows s) (IsCall s.x (hop_at s.pass 0) EndResp Completed)
  -- the wallet before the first Release, and before the second
  pub first : Purse
  pub second : Purse
  pub pulls_end : PullsOwed s.tokens owed ((numbers_for s.p s.tokens (knows s) s.x s.pass u.asked).hop 0) s.c.baton.wallet first
  pub pulls_first : Pulls s.tokens (numbers_for s.p s.tokens (knows s) s.x s.pass u.asked).pool 0 first second
  pub pulls_second : Pulls s.tokens (numbers_for s.p s.tokens (knows s) s.x s.pass u.asked).pool 0 second z

abbrev pub FinishedArrives : Type 0
FinishedArrives = (s : Case) (owed : ℕ) (u : IsBack s owed 0) (z : Purse) → HasNoCycle s.p.platform → u.asked.initiator.row.style ≡ FourPhase → IsFinished s owed u z → HasArrived s z s.c.baton.payload

-- what is left of its wallet is put back into the port's
abbrev pub PutsBack : Plan → Purse → (ObjectNo → ℕ) → (ObjectNo → ℕ) → Type 0
PutsBack p z left rest = (o : ObjectNo) → rest o ≡ left o + left_of z (object_number p.platform o)

-- it comes back: with its entry at the memory where it has a route; and where the engine waits for it the payload's bytes are the answer,
-- whatever comes after it, and a read's are as many as it asked for
pub record IsTakenBack (s : Case) (i : Initiator) (port : Port) (known : List Event) (seen : ℕ) (left rest : ObjectNo → ℕ) (u : IsUnderWay s.p i port known seen left) (seq end : ℕ) (z : Purse) (v : PayloadView) : Type 0 where
  pub reply : Option Entry
  pub back : ComesBack s.p i u.made (events_of s.p.platform s.entries) seq s.pass reply end (calls_by s z) left rest
  pub long : port.waiting ≡ true → seq ≡ port.engine.seq → IsRead (op_of port.engine) → length v.bytes ≡ length_of (op_of port.engine)
  pub told : port.waiting ≡ true → seq ≡ port.engine.seq →
      (m : List Entry) → IsAnswered s.p.platform i ((u.mine ++ replies_of reply) ++ m) (op_of port.engine) v.bytes

-- An access of a port that has arrived comes back to it, whatever the port knew before.
abbrev pub ArrivedComesBack : Type 0
ArrivedComesBack = (s : Case) (i : Initiator) (port : Port) (known : List Event) (seen : ℕ) (left rest : ObjectNo → ℕ) (u : IsUnderWay s.p i port known seen left)
    → HasNoCycle s.p.platform → slice_get (initiators_of s.p) i.number ≡ Some i → i.row.style ≡ FourPhase
    → (seq : ℕ) → s.x ≡ txn_of i.number seq → (z : Purse) (v : PayloadView) (a : HasArrived s z v) → PutsBack s.p z left rest
    → IsTakenBack s i port known seen left rest u seq a.ended.time z v

-- A plain access of a port that knows `old` has arrived, by all that its note knows now: the port is under way without it.
abbrev pub TakesBackPlain : Type 0
TakesBackPlain = (s : Case) (i : Initiator) (port : Port) (old : List (HistoryEntry Content)) (seen after : ℕ) (left rest : ObjectNo → ℕ)
    → IsUnderWay s.p i port (events_of s.p.platform old) seen left → Within old s.entries → StandBelow s.entries after
    → HasNoCycle s.p.platform → slice_get (initiators_of s.p) i.number ≡ Some i → i.row.style ≡ FourPhase → port.waiting ≡ false
    → (seq : ℕ) (away : List ℕ) → Removes port.away seq away → s.x ≡ txn_of i.number seq → (z : Purse) (v : PayloadView) (a : HasArrived s z v) → PutsBack s.p z left rest
    → IsUnderWay s.p i (record port { latest = max port.latest a.ended.time; away = away }) (events_of s.p.platform s.entries) after rest

-- So has the access that its engine waits for, and the engine is told the payload's bytes.
abbrev pub TakesBackFenced : Type 0
TakesBackFenced = (s : Case) (i : Initiator) (port : Port) (old : List (HistoryEntry Content)) (seen after : ℕ) (left rest : ObjectNo → ℕ)
    → IsUnderWay s.p i port (events_of s.p.platform old) seen left → Within old s.entries → StandBelow s.entries after
    → HasNoCycle s.p.platform → slice_get (initiators_of s.p) i.number ≡ Some i → i.row.style ≡ FourPhase → port.waiting ≡ true
    → (away : List ℕ) → Removes port.away port.engine.seq away → s.x ≡ txn_of i.number port.engine.seq → (z : Purse) (v : PayloadView) (a : HasArrived s z v) → PutsBack s.p z left rest
    → IsUnderWay s.p i (record port { engine = told_by port.engine v.bytes; waiting = false; latest = max port.latest a.ended.time; away = away }) (events_of s.p.platform s.entries) after rest
