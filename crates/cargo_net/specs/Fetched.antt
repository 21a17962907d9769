-- What a component knows of what it fetched from a hop.
use Rattle.std.specs.Prelude.{ℕ, ◌≡◌, ◌⊎◌, Bool, List, Option, Some, None}
use Rattle.atomic_table.specs.Seated.{TableId}
use Rattle.one_history.specs.declared.entry.Entry.{Entry}
use Rattle.one_history.specs.declared.view.Frame.{Frame}
use Rattle.tlm_types.specs.declared.entry.Content.{Content}
use Rattle.tlm_types.specs.declared.words.ObjectNo.TheVariants.{Hop}
use Rattle.tlm_types.specs.declared.words.Phase.TheVariants.{BeginReq, BeginResp}
use Rattle.tlm_types.specs.declared.words.RespMode.{RespMode}
use Rattle.tlm_types.specs.declared.words.RespMode.TheVariants.{Accept, EndResp, Complete}
use Rattle.tlm_types.specs.declared.words.TlmSync.{TlmSync}
use Rattle.tlm_types.specs.declared.words.TxnId.{TxnId}
use Rattle.tlm_model.specs.Plan.{Plan}
use Rattle.base_phases.specs.declared.phases.LaneState.TheVariants.{Free, Requested, Waiting, Responding}
use Rattle.base_phases.specs.Phases.{next_state}
use Rattle.token_book.specs.Account.{Slip}
use Rattle.flow_model.specs.Answers.{response_answer}
use Rattle.flow_model.specs.World.{Passage, hop_at, row_of}
use Rattle.flow_model.specs.Events.{Among, FindsAt, IsCall}
use Rattle.flow_model.specs.Platform.{world_of}
use Rattle.hop_object.specs.declared.call.HopReply.{HopReply}
use Rattle.hop_object.specs.declared.call.HopReply.TheVariants.{Down, Ended, Up}
use Rattle.cargo_model.specs.declared.cargo.Cargo.{Cargo}
use Rattle.cargo_model.specs.Called.{IsAnswerIn}
use Rattle.cargo_model.specs.Counts.{owed_by, responses}
use Rattle.cargo_model.specs.Known.{Known, object_number, objects_of}
use Rattle.cargo_model.specs.Travel.{Back, GoesDown, GoesUp, There}
use Rattle.cargo_net.specs.Hops.{IsLegOfLane}
use Rattle.cargo_net.specs.declared.fetches.FetchedRequest.{FetchedRequest}
use Rattle.cargo_net.specs.declared.fetches.FetchedResponse.{FetchedResponse}

-- a hop of the history has this number
pub record IsHopThere (p : Plan) (number : ℕ) : Type 0 where
  pub hop : ℕ
  pub place : number ≡ object_number p.platform (Hop hop)
  pub there : Among (objects_of p.platform) (Hop hop)

-- the reply is that to a fetch of a request
abbrev pub IsDownReply : HopReply Cargo → Type 0
IsDownReply (Down fetched) = Unit {0}
IsDownReply reply = ⊥

-- the reply of the hop
abbrev pub down_reply : Option FetchedRequest → HopReply Cargo
down_reply None = Down None
down_reply (Some r) = Down (Some (r.leg, r.state, r.txn, r.at, r.cargo))

-- A request of x was fetched, with the leg of its lane: its payload is on its way down there, and its BEGIN_REQ is known, at this time and with an
-- answer that the row has, that left the response to come, and that led to the lane's state.
pub record HasFetchedRequest (frame : Frame Plan) (tokens : TableId) (number : ℕ) (r : FetchedRequest) (known : List (Entry Content)) : Type 0 where
  pub pass : Passage
  pub hop : ℕ
  pub place : number ≡ object_number frame.world.platform (Hop (hop_at pass hop))
  pub down : GoesDown frame.world tokens (Known frame.world.platform known) r.txn pass There hop r.cargo
  pub leg_of : IsLegOfLane frame tokens number known r.txn r.state r.leg
  pub open_lane : (r.state ≡ Requested) ⊎ (r.state ≡ Waiting)
  pub answer : TlmSync
  pub begun : FindsAt (Known frame.world.platform known) (IsCall r.txn (hop_at pass hop) BeginReq answer) r.at
  pub fits : IsAnswerIn (row_of (world_of frame.world) pass hop) answer
  pub responds : responses (row_of (world_of frame.world) pass hop) answer ≡ 1
  pub leads : next_state Free BeginReq answer ≡ Some r.state

-- the reply is that to a fetch of a response
abbrev pub IsUpReply : HopReply Cargo → Type 0
IsUpReply (Up fetched) = Unit {0}
IsUpReply reply = ⊥

-- the reply of the hop
abbrev pub up_reply : Option FetchedResponse → HopReply Cargo
up_reply None = Up None
up_reply (Some r) = Up (Some (r.leg, r.txn, r.at, r.cargo))

-- The leg of END_RESP comes exactly where one is owed: to a component that accepts responses.
abbrev pub HasEndLeg : Frame Plan → TableId → ℕ → List (Entry Content) → TxnId → RespMode → Option Slip → Type 0
HasEndLeg frame tokens number known x Accept (Some leg) = IsLegOfLane frame tokens number known x Responding leg
HasEndLeg frame tokens number known x EndResp None = Unit {0}
HasEndLeg frame tokens number known x Complete None = Unit {0}
HasEndLeg frame tokens number known x mode leg = ⊥

-- how the component above hop k of a way answers responses
abbrev pub mode_above : Plan → Passage → ℕ → RespMode
mode_above p pass k = ((world_of p).hop (hop_at pass k)).resp

-- A response of x was fetched, with the leg of its lane where END_RESP is owed: its payload is back, with the ticket of that END_RESP, and its
-- BEGIN_RESP is known, at this time and with the answer of the component above.
pub record HasFetchedResponse (frame : Frame Plan) (tokens : TableId) (number : ℕ) (r : FetchedResponse) (known : List (Entry Content)) : Type 0 where
  pub pass : Passage
  pub hop : ℕ
  pub place : number ≡ object_number frame.world.platform (Hop (hop_at pass hop))
  pub up : GoesUp frame.world tokens (Known frame.world.platform known) r.txn pass (Back (owed_by (mode_above frame.world pass hop))) hop r.cargo
  pub leg_of : HasEndLeg frame tokens number known r.txn (mode_above frame.world pass hop) r.leg
  pub made : FindsAt (Known frame.world.platform known) (IsCall r.txn (hop_at pass hop) BeginResp (response_answer (mode_above frame.world pass hop))) r.at

-- the reply is that to whether a transaction has ended
abbrev pub IsEndedReply : HopReply Cargo → Type 0
IsEndedReply (Ended answer) = Unit {0}
IsEndedReply reply = ⊥

-- the reply of the hop
abbrev pub ended_reply : Bool → HopReply Cargo
ended_reply ended = Ended ended
