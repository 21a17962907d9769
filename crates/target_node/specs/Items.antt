-- What a memory knows of the requests that it fetched and of the responses that it is to send.
use Rattle.std.specs.Prelude.{ℕ, ◌≡◌, ◌⊎◌, ◌≤◌, Bool, true, false, List, [], ◌∷◌, ◌++◌, Option, Some, None}
use Rattle.atomic_table.specs.Seated.{TableId}
use Rattle.one_history.specs.declared.entry.Entry.{Entry}
use Rattle.one_history.specs.declared.view.Frame.{Frame}
use Rattle.one_history.specs.declared.view.View.{View}
use Rattle.tlm_types.specs.declared.entry.Content.{Content}
use Rattle.tlm_types.specs.declared.words.Phase.TheVariants.{BeginReq, BeginResp, EndReq}
use Rattle.tlm_types.specs.declared.words.ReqMode.TheVariants.{Accept}
use Rattle.tlm_types.specs.declared.words.TlmSync.{TlmSync}
use Rattle.tlm_types.specs.declared.words.TlmSync.TheVariants.{Accepted}
use Rattle.tlm_model.specs.declared.platform.Target.TheVariants.{Memory}
use Rattle.tlm_model.specs.Plan.{Plan}
use Rattle.tlm_model.specs.Route.{later}
use Rattle.base_phases.specs.declared.phases.LaneState.{LaneState}
use Rattle.base_phases.specs.declared.phases.LaneState.TheVariants.{Requested, Waiting}
use Rattle.token_book.specs.Ticket.{IsTicket}
use Rattle.token_book.specs.declared.ticket.Ticket.{Ticket}
use Rattle.flow_model.specs.World.{Passage, hop_at, row_of}
use Rattle.flow_model.specs.Events.{Finds, FindsAt, IsAccess, IsCall}
use Rattle.flow_model.specs.Platform.{world_of}
use Rattle.cargo_model.specs.Called.{IsAnswerIn}
use Rattle.cargo_model.specs.Counts.{responses}
use Rattle.cargo_model.specs.Known.{Known}
use Rattle.cargo_model.specs.Travel.{IsFetched}
use Rattle.cargo_net.specs.Hops.{IsLegOfLane}
use Rattle.plat_net.specs.HopCalls.{CanRespond}
use Rattle.plat_net.specs.Places.{LeadsTo, hop_place}
use Rattle.target_node.specs.declared.items.FromHop.{FromHop}
use Rattle.target_node.specs.declared.items.MemoryRequest.{MemoryRequest}
use Rattle.target_node.specs.declared.items.MemoryResponse.{MemoryResponse}

module _ (frame : Frame Plan) (tokens : TableId) (memory : ℕ) (known : List (Entry Content)) where
  -- A request was fetched from a hop to this memory: an access on its way, whose BEGIN_REQ is known with its time, and the leg of its lane.
  pub record IsRequest (r : MemoryRequest) (pass : Passage) (hop : ℕ) (state : LaneState) : Type 0 where
    pub here : hop_at pass hop ≡ r.hop
    pub leads : LeadsTo frame.world.platform r.hop (Memory memory)
    pub fetched : IsFetched frame.world tokens (Known frame.world.platform known) r.cargo.baton.txn pass hop r.cargo
    pub leg_of : IsLegOfLane frame tokens (hop_place frame.world r.hop) known r.cargo.baton.txn state r.leg
    pub answer : TlmSync
    pub begun : FindsAt (Known frame.world.platform known) (IsCall r.cargo.baton.txn (hop_at pass hop) BeginReq answer) r.at
    pub fits : IsAnswerIn (row_of (world_of frame.world) pass hop) answer
    pub responds : responses (row_of (world_of frame.world) pass hop) answer ≡ 1

  -- It waits to be served: END_REQ is known where the row has one.
  pub record IsWaiting (r : MemoryRequest) : Type 0 where
    pub pass : Passage
    pub hop : ℕ
    pub state : LaneState
    pub request : IsRequest r pass hop state
    pub open_lane : (state ≡ Requested) ⊎ (state ≡ Waiting)
    pub ended : row_of (world_of frame.world) pass hop ≡ Accept → Finds (Known frame.world.platform known) (IsCall r.cargo.baton.txn (hop_at pass hop) EndReq Accepted)

  -- END_REQ is owed for it
  pub record IsOwedEnd (r : MemoryRequest) : Type 0 where
    pub pass : Passage
    pub hop : ℕ
    pub request : IsRequest r pass hop Requested
    pub row : row_of (world_of frame.world) pass hop ≡ Accept

  -- with its ticket, exactly where the memory's mode is so
  abbrev pub IsFetchedWith : ℕ → Bool → MemoryRequest → Option Ticket → Type 0
  IsFetchedWith at true r (Some ticket) = (r.hop ≡ at) × IsOwedEnd r × IsTicket tokens (hop_place frame.world at) ticket
  IsFetchedWith at false r None = (r.hop ≡ at) × IsWaiting r
  IsFetchedWith at accepting r ticket = ⊥

abbrev pub IsFetchedAs : Frame Plan → TableId → ℕ → ℕ → Bool → List (Entry Content) → FromHop → Type 0
IsFetchedAs frame tokens memory at accepting known f = IsFetchedWith frame tokens memory known at accepting f.request f.ticket

-- the look of a fetch: 0 for a request, 1 for none
abbrev pub fetch_look : Option FromHop → ℕ
fetch_look None = 1
fetch_look (Some f) = 0

-- The access of a request was made at the time of its BEGIN_REQ, and its response may be sent from the time on that is later by the latency.
pub record HasServedAt (frame : Frame Plan) (tokens : TableId) (latency : ℕ) (r : MemoryRequest) (known : List (Entry Content)) (answer : MemoryResponse) : Type 0 where
  pub hop : answer.hop ≡ r.hop
  pub due : answer.due ≡ later r.at latency
  pub txn : answer.cargo.baton.txn ≡ r.cargo.baton.txn
  pub made : FindsAt (Known frame.world.platform known) (IsAccess r.cargo.baton.txn) r.at
  pub can : CanRespond frame tokens answer.hop answer.leg answer.cargo answer.due known

-- BEGIN_RESP was made at the time at which the response was due or later; or it is refused, and may be sent as before.
abbrev pub HasResponded : Frame Plan → TableId → MemoryResponse → View Content Plan → View Content Plan → Option MemoryResponse → Type 0
HasResponded frame tokens r old new None =
    ((answer : TlmSync) × (time : ℕ) × (r.due ≤ time) × FindsAt (Known frame.world.platform new.known) (IsCall r.cargo.baton.txn r.hop BeginResp answer) time)
    × (new.looks ≡ old.looks ++ (hop_place frame.world r.hop, 0) ∷ [])
HasResponded frame tokens r old new (Some same) =
    (same.hop ≡ r.hop) × (same.leg ≡ r.leg) × (same.due ≡ r.due) × (same.cargo.baton.txn ≡ r.cargo.baton.txn)
    × CanRespond frame tokens same.hop same.leg same.cargo same.due new.known
    × (new.looks ≡ old.looks ++ (hop_place frame.world r.hop, 4) ∷ [])
