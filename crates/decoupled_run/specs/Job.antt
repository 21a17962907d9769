-- What a blocking or direct initiator that runs beside others knows of its own entries and grants, and its tickets.
use Rattle.std.specs.Prelude.{ℕ, ◌≡◌, ◌≢◌, ◌+◌, ◌*◌, ◌<◌, ◌≤◌, Bool, true, false, IsTrue, List, [], length, map, Option, Some, None, MatchOption, IsSomeAnd, slice_get}
use Rattle.atomic_table.specs.Seated.{TableId}
use Rattle.view_lists.specs.Lists.{Has, Within}
use Rattle.one_history.specs.declared.view.Frame.{Frame}
use Rattle.one_history.specs.declared.view.View.{View}
use Rattle.one_history.specs.Held.{Held as Noted}
use Rattle.one_history.specs.Lists.{StandBelow}
use Rattle.shared_object.specs.Steps.{IsNote}
use Rattle.shared_object.specs.Written.{written_at}
use Rattle.token_book.specs.Purse.{Purse, IsOf, bytes_of, left_of}
use Rattle.tlm_types.specs.declared.entry.Content.{Content}
use Rattle.tlm_types.specs.declared.entry.Entry.{Entry}
use Rattle.tlm_types.specs.declared.words.Command.{Command}
use Rattle.tlm_types.specs.declared.words.ObjectNo.TheVariants.{Memory}
use Rattle.tlm_types.specs.declared.words.TxnId.{TxnId}
use Rattle.tlm_model.specs.declared.platform.MemoryRow.{MemoryRow}
use Rattle.tlm_model.specs.declared.platform.InitiatorRow.{InitiatorRow}
use Rattle.tlm_model.specs.declared.platform.Style.TheVariants.{Direct, FourPhase}
use Rattle.tlm_model.specs.History.{entries_at}
use Rattle.tlm_model.specs.Plan.{Plan, Initiator, initiators_of}
use Rattle.tlm_model.specs.Requests.{Request, requests_of}
use Rattle.tlm_model.specs.Route.{latency_of, later}
use Rattle.tlm_model.specs.Scripts.{IsGrantee, first_gate}
use Rattle.tlm_model.specs.Store.{is_allowed}
use Rattle.good_history.specs.Laws.{AllDecoupled}
use Rattle.good_history.specs.Grants.{asks, last_of}
use Rattle.good_history.specs.Plain.{is_direct}
use Rattle.good_history.specs.Counting.{IsRising}
use Rattle.good_history.specs.Joined.{KeepsOwn}
use Rattle.joined_traffic.specs.Parts.{HasReturned, KeepsOwnGrants, KnowsAllGiven, is_invalidation}
use Rattle.joined_traffic.specs.Table.{IsTableOf}
use Rattle.generic_payload.specs.Payload.{PayloadView}
use Rattle.route_plan.specs.declared.step.Route.{Route}
use Rattle.route_plan.specs.Counted.{share_at}
use Rattle.route_plan.specs.Valid.{IsValid}
use Rattle.script_engine.specs.declared.op.Op.TheVariants as next
use Rattle.script_engine.specs.State.{op_of}
use Rattle.initiator_run.specs.Come.{HasCome}
use Rattle.initiator_run.specs.Left.{asks_left, bytes_left}
use Rattle.initiator_run.specs.Run.{Run}
use Rattle.plat_net.specs.Calls.{route_at}
use Rattle.plat_build.specs.Kept.{HasNoOthers}
use Rattle.dmi_grants.specs.declared.table.Held.{Held}
use Rattle.dmi_grants.specs.Asking.{IsInMemory}
use Rattle.dmi_grants.specs.Made.{IsRoomyFor}
use Rattle.dmi_grants.specs.Ranges.{AreAddressesOf}
use Rattle.dmi_grants.specs.Table.{IsUsable, TableView, granted_by}
pub use Rattle.dmi_grants.specs.Known.{AreBelow, HasAllOf, position_of}
use Rattle.decoupled_run.specs.Known.{all_ungiven, gates_left, known_to}
use Rattle.decoupled_run.specs.Script.{IsInScript}

abbrev pub is_direct_row : Option InitiatorRow → Bool
is_direct_row None = false
is_direct_row (Some row) = is_direct row.style

-- whether initiator n is a direct one
abbrev pub goes_direct : Plan → ℕ → Bool
goes_direct p n = is_direct_row (slice_get p.platform.initiators n)

-- These are the entries that a run has made, in order. A note with this view knows them, and by them the run has come to where it is.
pub record HasMade (p : Plan) (i : Initiator) (r : Run) (v : View Content Plan) (mine : List Entry) : Type 0 where
  pub rising : IsRising position_of mine
  pub known : Within mine (known_to p v)
  pub own : (e : Entry) → Has mine e → e.txn.initiator ≡ i.number
  pub come : HasCome p.platform i mine r
  pub stands : IsInScript i r.engine
  pub keeps : KeepsOwn p mine
  pub decoupled : AllDecoupled mine

-- A grant that is held: its entry is an own one, accesses may be made by it, and its addresses are all of its initiator that lead into its range.
pub record IsHeldGrant (frame : Frame Plan) (i : Initiator) (v : View Content Plan) (mine : List Entry) (h : Held) : Type 0 where
  pub own : Has mine (granted_by h)
  pub memory : h.memory < length frame.world.platform.memories
  pub usable : IsUsable frame h.memory (written_at h.memory v.known) h
  pub addresses : AreAddressesOf frame.world i.number h.memory h.first h.last h.low h.high h.base

-- The grants of an initiator with these entries, whose note has this view. In each history that has all that the note knows, the entries keep
-- what a history of grants asks of them, and the invalidations among them have returned; and the table has the own grants but for those that an
-- invalidation is known to have overlapped. It has room for all that may still be given to a direct initiator; one that isn't holds none.
pub record HoldsGrants (frame : Frame Plan) (i : Initiator) (v : View Content Plan) (mine : List Entry) (t : TableView) : Type 0 where
  pub own : (h : List Entry) → HasAllOf frame.world v h → KeepsOwnGrants frame.world h mine
  pub returned : (h : List Entry) (limit : ℕ) → HasAllOf frame.world v h → AreBelow (known_to frame.world v) limit → (y : Entry) → Has mine y → IsTrue (is_invalidation y.what) → HasReturned h limit y
  pub table : (h : List Entry) (limit : ℕ) → HasAllOf frame.world v h → AreBelow (known_to frame.world v) limit → IsTableOf h limit mine (map granted_by t.held)
  pub held : (x : Held) → Has t.held x → IsHeldGrant frame i v mine x
  pub few : length t.held + all_ungiven frame.world v.known (length frame.world.platform.memories) ≤ first_gate frame.world.platform (length frame.world.platform.memories)
  pub room : is_direct i.row.style ≡ true → 2 * first_gate frame.world.platform (length frame.world.platform.memories) ≤ t.room
  pub none : is_direct i.row.style ≡ false → t.held ≡ []

-- The tickets of an initiator for memory m: enough for what it is still to ask for there, and for the gates that it may still be granted and close; and
-- enough bytes. With those that it has spent they are all that it was given.
pub record HasTickets (p : Plan) (i : Initiator) (r : Run) (v : View Content Plan) (w : Purse) (mine : List Entry) (m : ℕ) : Type 0 where
  pub asks : asks_left p i m r.engine + gates_left p i v.known m ≤ left_of w m
  pub bytes : bytes_left p i m r.engine ≤ bytes_of w m
  pub all : length (entries_at (Memory m) mine) + left_of w m ≡ share_at p i.number (Memory m)

-- A blocking or direct initiator under way, with its note, its wallet and the grants that it holds.
pub record IsInitiator (frame : Frame Plan) (r : Run) (v : View Content Plan) (w : Purse) (t : TableView) : Type 0 where
  pub valid : IsValid frame.world
  pub initiator : Initiator
  pub mine : List Entry
  pub is : slice_get (initiators_of frame.world) r.engine.initiator ≡ Some initiator
  pub decoupled : initiator.row.style ≢ FourPhase
  pub below : StandBelow v.known v.seen
  pub made : HasMade frame.world initiator r v mine
  pub holds : HoldsGrants frame initiator v mine t
  pub tickets : (m : ℕ) → m < length frame.world.platform.memories → HasTickets frame.world initiator r v w mine m
  pub roomy : (m : ℕ) → m < length frame.world.platform.memories → IsRoomyFor m w
  pub no_others : HasNoOthers frame.world.platform w
  pub finished : r.finished ≡ true → op_of r.engine ≡ next.Done

-- where the last of these entries asks for a grant, all gates of its memory are known to be given
abbrev pub AsksNothing : Plan → Initiator → View Content Plan → List Entry → Type 0
AsksNothing p i v mine = MatchOption (last_of i.number mine) (Unit {0}) (λ a. IsTrue (asks p a) → KnowsAllGiven p (known_to p v) v.seen a.object)

-- The last of these entries asks for a grant: it is the access of the request with this transaction, whose address leads along this route, at this
-- time. Its command is one that the memory allows and grants direct access for, and the initiator is a direct one.
pub record IsAsking (p : Plan) (i : Initiator) (mine : List Entry) (command : Command) (address : ℕ) (route : Route) (txn : TxnId) (time : ℕ) : Type 0 where
  pub entry : Entry
  pub direct : i.row.style ≡ Direct
  pub last : last_of i.number mine ≡ Some entry
  pub asks_it : IsTrue (asks p entry)
  pub of : entry.txn ≡ txn
  pub own : txn.initiator ≡ i.number
  pub object : entry.object ≡ Memory route.memory
  pub request : Request
  pub asked : slice_get (requests_of p.platform i mine) txn.seq ≡ Some request
  pub grantee : IsGrantee Direct request.asked
  pub at : time ≡ later request.time (latency_of p.platform i request.address)
  pub leads : route_at p i.number address ≡ Some route
  pub inside : IsInMemory p.platform route
  pub allowed : IsSomeAnd (slice_get p.platform.memories route.memory) (λ (row : MemoryRow). (row.traits.dmi ≡ true) × (is_allowed row.traits command ≡ true))

-- It waits for no grant.
pub record IsAtEase (frame : Frame Plan) (r : Run) (v : View Content Plan) (w : Purse) (t : TableView) : Type 0 where
  pub is : IsInitiator frame r v w t
  pub answered : AsksNothing frame.world is.initiator v is.mine

-- It is to ask for a grant.
pub record IsToAsk (frame : Frame Plan) (r : Run) (v : View Content Plan) (w : Purse) (t : TableView) (command : Command) (address : ℕ) (route : Route) (txn : TxnId) (time : ℕ) : Type 0 where
  pub is : IsInitiator frame r v w t
  pub asking : IsAsking frame.world is.initiator is.mine command address route txn time

-- It is of this history and of these tokens, and is a direct one or not.
pub record IsJob (table tokens : TableId) (frame : Frame Plan) (direct : Bool) (r : Run) (payload : PayloadView) (note : Noted Content Plan) (w : Purse) (t : TableView) : Type 0 where
  pub note_of : IsNote table note
  pub wallet_of : IsOf tokens w
  pub roomy : payload.room ≡ 4096
  pub styled : direct ≡ goes_direct frame.world r.engine.initiator
  pub is : IsAtEase frame r note.knows w t

-- The same between its turns: its payload and its note are with it.
pub record IsAtRest (table tokens : TableId) (frame : Frame Plan) (direct : Bool) (r : Run) (payload : Option PayloadView) (note : Option (Noted Content Plan)) (w : Purse) (t : TableView) : Type 0 where
  pub its_payload : PayloadView
  pub its_note : Noted Content Plan
  pub has_payload : payload ≡ Some its_payload
  pub has_note : note ≡ Some its_note
  pub job : IsJob table tokens frame direct r its_payload its_note w t
