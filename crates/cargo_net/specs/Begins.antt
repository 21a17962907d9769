-- What a component needs to know to make BEGIN_REQ with a payload, and what it knows then.
use Rattle.std.specs.Prelude.{ℕ, ◌≡◌, ◌≤◌, List, Option, Some, None}
use Rattle.atomic_table.specs.Seated.{TableId}
use Rattle.one_history.specs.declared.entry.Entry.{Entry}
use Rattle.one_history.specs.declared.view.Frame.{Frame}
use Rattle.tlm_types.specs.declared.entry.Content.{Content}
use Rattle.tlm_types.specs.declared.words.Phase.TheVariants.{BeginReq, BeginResp}
use Rattle.tlm_types.specs.declared.words.TlmSync.{TlmSync}
use Rattle.tlm_types.specs.declared.words.TlmSync.TheVariants.{Completed, Updated}
use Rattle.tlm_types.specs.declared.words.TxnId.{TxnId}
use Rattle.tlm_model.specs.Plan.{Plan}
use Rattle.base_phases.specs.declared.phases.LaneState.TheVariants.{Responding}
use Rattle.token_book.specs.Account.{Slip}
use Rattle.flow_model.specs.World.{Passage, hop_at, hop_count, row_of}
use Rattle.flow_model.specs.Events.{FindsAt, IsCall}
use Rattle.flow_model.specs.Numbers.{ArrIs}
use Rattle.flow_model.specs.Platform.{world_of}
use Rattle.hop_object.specs.declared.call.HopReply.{HopReply}
use Rattle.hop_object.specs.declared.call.HopReply.TheVariants.{Begun as Answer}
use Rattle.cargo_model.specs.declared.cargo.Cargo.{Cargo}
use Rattle.cargo_model.specs.Called.{IsAnswerIn}
use Rattle.cargo_model.specs.Counts.{responses}
use Rattle.cargo_model.specs.Known.{Known}
use Rattle.cargo_model.specs.Tickets.{AreApart}
use Rattle.cargo_model.specs.Travel.{GoesDown, Ready, numbers_for}
use Rattle.cargo_net.specs.Hops.{IsLegOfLane, IsOnWay}

-- the reply is that to BEGIN_REQ
abbrev pub IsBegunReply : HopReply Cargo → Type 0
IsBegunReply (Answer r) = Unit {0}
IsBegunReply reply = ⊥

-- BEGIN_REQ may be made with this payload, tried at this time
pub record MayBegin (frame : Frame Plan) (tokens : TableId) (number : ℕ) (c : Cargo) (at : ℕ) (known : List (Entry Content)) : Type 0 where
  pub pass : Passage
  pub hop : ℕ
  pub way : IsOnWay frame.world number known c.baton.txn pass hop
  pub down : GoesDown frame.world tokens (Known frame.world.platform known) c.baton.txn pass Ready hop c
  pub apart : AreApart (hop_count pass) (numbers_for frame.world tokens (Known frame.world.platform known) c.baton.txn pass down.asked)
  pub least : ArrIs (world_of frame.world) (Known frame.world.platform known) c.baton.txn pass hop at

-- BEGIN_REQ was made at this time, with an answer that the row has, and so many BEGIN_RESPs are to come
pub record HasRequested (frame : Frame Plan) (at : ℕ) (x : TxnId) (pass : Passage) (hop : ℕ) (answer : TlmSync) (to_come time : ℕ) (known : List (Entry Content)) : Type 0 where
  pub late : at ≤ time
  pub fits : IsAnswerIn (row_of (world_of frame.world) pass hop) answer
  pub responds : responses (row_of (world_of frame.world) pass hop) answer ≡ to_come
  pub made : FindsAt (Known frame.world.platform known) (IsCall x (hop_at pass hop) BeginReq answer) time

-- The response came with the answer: by COMPLETED the transaction has ended, by UPDATED with BEGIN_RESP the leg of its lane comes, for END_RESP.
abbrev pub HasOwedLeg : Frame Plan → TableId → ℕ → List (Entry Content) → TxnId → TlmSync → Option Slip → Type 0
HasOwedLeg frame tokens number known x Completed None = Unit {0}
HasOwedLeg frame tokens number known x (Updated BeginResp) (Some leg) = IsLegOfLane frame tokens number known x Responding leg
HasOwedLeg frame tokens number known x answer leg = ⊥
