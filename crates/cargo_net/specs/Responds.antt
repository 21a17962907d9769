-- What a component needs to know to make BEGIN_RESP by a leg with a payload, and what it knows then.
use Rattle.std.specs.Prelude.{ℕ, ◌≡◌, ◌⊎◌, ◌≤◌, List}
use Rattle.atomic_table.specs.Seated.{TableId}
use Rattle.one_history.specs.declared.entry.Entry.{Entry}
use Rattle.one_history.specs.declared.view.Frame.{Frame}
use Rattle.tlm_types.specs.declared.entry.Content.{Content}
use Rattle.tlm_types.specs.declared.words.Phase.TheVariants.{BeginReq, EndReq, BeginResp}
use Rattle.tlm_types.specs.declared.words.ReqMode.TheVariants.{Accept}
use Rattle.tlm_types.specs.declared.words.TlmSync.{TlmSync}
use Rattle.tlm_types.specs.declared.words.TlmSync.TheVariants.{Accepted}
use Rattle.tlm_types.specs.declared.words.TxnId.{TxnId}
use Rattle.tlm_model.specs.Plan.{Plan}
use Rattle.base_phases.specs.declared.phases.LaneState.{LaneState}
use Rattle.base_phases.specs.declared.phases.LaneState.TheVariants.{Requested, Waiting}
use Rattle.token_book.specs.Account.{Slip}
use Rattle.flow_model.specs.Answers.{response_answer}
use Rattle.flow_model.specs.World.{Passage, hop_at, hop_count, row_of}
use Rattle.flow_model.specs.Events.{Finds, FindsAt, IsCall}
use Rattle.flow_model.specs.Numbers.{UpIs}
use Rattle.flow_model.specs.Platform.{world_of}
use Rattle.hop_object.specs.declared.call.HopReply.{HopReply}
use Rattle.hop_object.specs.declared.call.HopReply.TheVariants.{Responded as Answer}
use Rattle.cargo_model.specs.declared.cargo.Cargo.{Cargo}
use Rattle.cargo_model.specs.Called.{IsAnswerIn}
use Rattle.cargo_model.specs.Counts.{responses}
use Rattle.cargo_model.specs.Known.{Known}
use Rattle.cargo_model.specs.Tickets.{AreApart}
use Rattle.cargo_model.specs.Travel.{GoesUp, Ready, numbers_for}
use Rattle.cargo_net.specs.Hops.{IsLegOfLane, IsOnWay}

-- the reply is that to BEGIN_RESP
abbrev pub IsResponded : HopReply Cargo → Type 0
IsResponded (Answer r) = Unit {0}
IsResponded reply = ⊥

-- BEGIN_RESP may be made with this payload by this leg, tried at this time
pub record MayRespond (frame : Frame Plan) (tokens : TableId) (number : ℕ) (leg : Slip) (c : Cargo) (at : ℕ) (known : List (Entry Content)) : Type 0 where
  pub pass : Passage
  pub hop : ℕ
  pub way : IsOnWay frame.world number known c.baton.txn pass hop
  pub up : GoesUp frame.world tokens (Known frame.world.platform known) c.baton.txn pass Ready hop c
  pub apart : AreApart (hop_count pass) (numbers_for frame.world tokens (Known frame.world.platform known) c.baton.txn pass up.asked)
  pub state : LaneState
  pub open_lane : (state ≡ Requested) ⊎ (state ≡ Waiting)
  pub leg_of : IsLegOfLane frame tokens number known c.baton.txn state leg
  -- the calls before it: BEGIN_REQ, whose answer left the response to come, and END_REQ where the row has one
  pub answer : TlmSync
  pub begun : Finds (Known frame.world.platform known) (IsCall c.baton.txn (hop_at pass hop) BeginReq answer)
  pub fits : IsAnswerIn (row_of (world_of frame.world) pass hop) answer
  pub responds : responses (row_of (world_of frame.world) pass hop) answer ≡ 1
  pub ended : row_of (world_of frame.world) pass hop ≡ Accept → Finds (Known frame.world.platform known) (IsCall c.baton.txn (hop_at pass hop) EndReq Accepted)
  pub least : UpIs (world_of frame.world) (Known frame.world.platform known) c.baton.txn pass hop at

-- BEGIN_RESP was made at this time, with the answer of the component above
pub record HasResponded (frame : Frame Plan) (at : ℕ) (x : TxnId) (pass : Passage) (hop : ℕ) (answer : TlmSync) (time : ℕ) (known : List (Entry Content)) : Type 0 where
  pub late : at ≤ time
  pub answer_is : answer ≡ response_answer ((world_of frame.world).hop (hop_at pass hop)).resp
  pub made : FindsAt (Known frame.world.platform known) (IsCall x (hop_at pass hop) BeginResp answer) time
