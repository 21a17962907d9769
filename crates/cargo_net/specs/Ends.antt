-- What a component needs to know to make END_REQ or END_RESP by a leg, and what it knows then.
use Rattle.std.specs.Prelude.{ℕ, ◌≡◌, ◌+◌, ◌<◌, ◌≤◌, List}
use Rattle.atomic_table.specs.Seated.{TableId}
use Rattle.one_history.specs.declared.entry.Entry.{Entry}
use Rattle.one_history.specs.declared.view.Frame.{Frame}
use Rattle.tlm_types.specs.declared.entry.Content.{Content}
use Rattle.tlm_types.specs.declared.words.Phase.TheVariants.{BeginReq, EndReq, EndResp}
use Rattle.tlm_types.specs.declared.words.ReqMode.TheVariants.{Accept}
use Rattle.tlm_types.specs.declared.words.TlmSync.TheVariants.{Accepted, Completed}
use Rattle.tlm_types.specs.declared.words.TxnId.{TxnId}
use Rattle.tlm_model.specs.Plan.{Plan}
use Rattle.base_phases.specs.declared.phases.LaneState.TheVariants.{Requested, Waiting, Responding}
use Rattle.token_book.specs.Account.{Slip}
use Rattle.flow_model.specs.World.{Passage, hop_at, hop_count, row_of}
use Rattle.flow_model.specs.Events.{Finds, FindsAt, IsCall, IsPhase}
use Rattle.flow_model.specs.Numbers.{IsEnder, NumberOf, ReqIs, served_hop}
use Rattle.flow_model.specs.Platform.{world_of}
use Rattle.hop_object.specs.declared.call.HopReply.{HopReply}
use Rattle.hop_object.specs.declared.call.HopReply.TheVariants.{EndedReq, EndedResp}
use Rattle.cargo_model.specs.declared.cargo.Cargo.{Cargo}
use Rattle.cargo_model.specs.Known.{Known}
use Rattle.cargo_net.specs.Hops.{IsLegOfLane, IsOnWay}

-- the reply is that to END_REQ
abbrev pub IsEndedReq : HopReply Cargo → Type 0
IsEndedReq (EndedReq leg time) = Unit {0}
IsEndedReq reply = ⊥

-- and to END_RESP
abbrev pub IsEndedResp : HopReply Cargo → Type 0
IsEndedResp (EndedResp time) = Unit {0}
IsEndedResp reply = ⊥

-- END_REQ may be made by this leg, tried at this time: an access passes the hop, whose row has END_REQ, and the leg is that of its lane
pub record MayEndRequest (frame : Frame Plan) (tokens : TableId) (number : ℕ) (leg : Slip) (at : ℕ) (known : List (Entry Content)) : Type 0 where
  pub x : TxnId
  pub pass : Passage
  pub hop : ℕ
  pub way : IsOnWay frame.world number known x pass hop
  pub leg_of : IsLegOfLane frame tokens number known x Requested leg
  pub row : row_of (world_of frame.world) pass hop ≡ Accept
  -- a router makes it once the request has gone on
  pub passed : hop + 1 < hop_count pass → Finds (Known frame.world.platform known) (IsPhase x (hop_at pass (hop + 1)) BeginReq)
  pub least : ReqIs (world_of frame.world) (Known frame.world.platform known) x (served_hop ((world_of frame.world).hop (hop_at pass hop)).to_memory pass hop) at

-- END_REQ was made at this time, and the leg is that of the same lane, which waits for its response
pub record HasEndedRequest (frame : Frame Plan) (tokens : TableId) (number at : ℕ) (x : TxnId) (pass : Passage) (hop : ℕ) (leg : Slip) (time : ℕ) (known : List (Entry Content)) : Type 0 where
  pub leg_of : IsLegOfLane frame tokens number known x Waiting leg
  pub late : at ≤ time
  pub made : FindsAt (Known frame.world.platform known) (IsCall x (hop_at pass hop) EndReq Accepted) time

-- END_RESP may be made by this leg, tried at this time: the access has ended on the hop before
pub record MayEndResponse (frame : Frame Plan) (tokens : TableId) (number : ℕ) (leg : Slip) (at : ℕ) (known : List (Entry Content)) : Type 0 where
  pub x : TxnId
  pub pass : Passage
  pub hop : ℕ
  pub way : IsOnWay frame.world number known x pass hop
  pub leg_of : IsLegOfLane frame tokens number known x Responding leg
  pub ended : (j : ℕ) → hop ≡ j + 1 → Finds (Known frame.world.platform known) (IsEnder x (hop_at pass j))
  pub least : NumberOf (world_of frame.world) (Known frame.world.platform known) x pass hop EndResp at

-- END_RESP was made at this time
pub record HasEndedResponse (frame : Frame Plan) (at : ℕ) (x : TxnId) (pass : Passage) (hop time : ℕ) (known : List (Entry Content)) : Type 0 where
  pub late : at ≤ time
  pub made : FindsAt (Known frame.world.platform known) (IsCall x (hop_at pass hop) EndResp Completed) time
