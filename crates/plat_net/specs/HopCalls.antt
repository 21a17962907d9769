-- What a component needs to know for a call at a hop of a net. What the plan gives isn't asked: where the hop stands in the history, that it is there,
-- and that the objects of an access differ.
use Rattle.std.specs.Prelude.{ℕ, ◌≡◌, ◌+◌, ◌<◌, ◌⊎◌, List, Some}
use Rattle.atomic_table.specs.Seated.{TableId}
use Rattle.one_history.specs.declared.entry.Entry.{Entry}
use Rattle.one_history.specs.declared.view.Frame.{Frame}
use Rattle.tlm_types.specs.declared.entry.Content.{Content}
use Rattle.tlm_types.specs.declared.words.Phase.TheVariants.{BeginReq, EndReq, EndResp}
use Rattle.tlm_types.specs.declared.words.ReqMode.TheVariants.{Accept}
use Rattle.tlm_types.specs.declared.words.TlmSync.{TlmSync}
use Rattle.tlm_types.specs.declared.words.TlmSync.TheVariants.{Accepted}
use Rattle.tlm_types.specs.declared.words.TxnId.{TxnId}
use Rattle.tlm_model.specs.Plan.{Plan}
use Rattle.base_phases.specs.declared.phases.LaneState.{LaneState}
use Rattle.base_phases.specs.declared.phases.LaneState.TheVariants.{Requested, Waiting, Responding}
use Rattle.token_book.specs.Account.{Slip}
use Rattle.flow_model.specs.World.{Passage, hop_at, hop_count, row_of}
use Rattle.flow_model.specs.Events.{Finds, IsCall, IsPhase, IsTake}
use Rattle.flow_model.specs.Numbers.{ArrIs, IsEnder, NumberOf, ReqIs, UpIs, served_hop}
use Rattle.flow_model.specs.Platform.{passage_of, world_of}
use Rattle.cargo_model.specs.declared.cargo.Cargo.{Cargo}
use Rattle.cargo_model.specs.Called.{IsAnswerIn}
use Rattle.cargo_model.specs.Counts.{responses}
use Rattle.cargo_model.specs.Known.{Known}
use Rattle.cargo_model.specs.Travel.{GoesDown, GoesUp, Ready}
use Rattle.cargo_net.specs.Hops.{IsLegOfLane}
use Rattle.plat_net.specs.Places.{hop_place}

-- hop h is hop k of the way of x, whose Take is known
pub record IsOnHop (p : Plan) (h : ℕ) (known : List (Entry Content)) (x : TxnId) (pass : Passage) (k : ℕ) : Type 0 where
  pub passes : passage_of p x ≡ Some pass
  pub below : k < hop_count pass
  pub here : hop_at pass k ≡ h
  pub taken : Finds (Known p.platform known) (IsTake x)

module _ (frame : Frame Plan) (tokens : TableId) (h : ℕ) where
  -- BEGIN_REQ may be made on hop h with this payload, tried at this time
  pub record CanBegin (c : Cargo) (at : ℕ) (known : List (Entry Content)) : Type 0 where
    pub pass : Passage
    pub hop : ℕ
    pub here : hop_at pass hop ≡ h
    pub down : GoesDown frame.world tokens (Known frame.world.platform known) c.baton.txn pass Ready hop c
    pub least : ArrIs (world_of frame.world) (Known frame.world.platform known) c.baton.txn pass hop at

  -- END_REQ may be made on hop h by this leg, tried at this time: an access passes the hop, whose row has END_REQ, and the leg is that of its lane
  pub record CanEndRequest (leg : Slip) (at : ℕ) (known : List (Entry Content)) : Type 0 where
    pub x : TxnId
    pub pass : Passage
    pub hop : ℕ
    pub way : IsOnHop frame.world h known x pass hop
    pub leg_of : IsLegOfLane frame tokens (hop_place frame.world h) known x Requested leg
    pub row : row_of (world_of frame.world) pass hop ≡ Accept
    -- a router makes it once the request has gone on
    pub passed : hop + 1 < hop_count pass → Finds (Known frame.world.platform known) (IsPhase x (hop_at pass (hop + 1)) BeginReq)
    pub least : ReqIs (world_of frame.world) (Known frame.world.platform known) x (served_hop ((world_of frame.world).hop (hop_at pass hop)).to_memory pass hop) at

  -- BEGIN_RESP may be made on hop h with this payload by this leg, tried at this time
  pub record CanRespond (leg : Slip) (c : Cargo) (at : ℕ) (known : List (Entry Content)) : Type 0 where
    pub pass : Passage
    pub hop : ℕ
    pub here : hop_at pass hop ≡ h
    pub up : GoesUp frame.world tokens (Known frame.world.platform known) c.baton.txn pass Ready hop c
    pub state : LaneState
    pub open_lane : (state ≡ Requested) ⊎ (state ≡ Waiting)
    pub leg_of : IsLegOfLane frame tokens (hop_place frame.world h) known c.baton.txn state leg
    -- the calls before it: BEGIN_REQ, whose answer left the response to come, and END_REQ where the row has one
    pub answer : TlmSync
    pub begun : Finds (Known frame.world.platform known) (IsCall c.baton.txn (hop_at pass hop) BeginReq answer)
    pub fits : IsAnswerIn (row_of (world_of frame.world) pass hop) answer
    pub responds : responses (row_of (world_of frame.world) pass hop) answer ≡ 1
    pub ended : row_of (world_of frame.world) pass hop ≡ Accept → Finds (Known frame.world.platform known) (IsCall c.baton.txn (hop_at pass hop) EndReq Accepted)
    pub least : UpIs (world_of frame.world) (Known frame.world.platform known) c.baton.txn pass hop at

  -- END_RESP may be made on hop h by this leg, tried at this time: the access has ended on the hop before
  pub record CanEndResponse (leg : Slip) (at : ℕ) (known : List (Entry Content)) : Type 0 where
    pub x : TxnId
    pub pass : Passage
    pub hop : ℕ
    pub way : IsOnHop frame.world h known x pass hop
    pub leg_of : IsLegOfLane frame tokens (hop_place frame.world h) known x Responding leg
    pub ended : (j : ℕ) → hop ≡ j + 1 → Finds (Known frame.world.platform known) (IsEnder x (hop_at pass j))
    pub least : NumberOf (world_of frame.world) (Known frame.world.platform known) x pass hop EndResp at
