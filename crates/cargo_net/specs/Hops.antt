-- A hop that a call meets at a place of the history, and what its answer is.
use Rattle.std.specs.Prelude.{ℕ, ◌≡◌, ◌+◌, ◌<◌, List, map, length, Option, Some}
use Rattle.std.specs.Option.{unwrap_or}
use Rattle.atomic_table.specs.Seated.{TableId}
use Rattle.view_lists.specs.Lists.{Has}
use Rattle.one_history.specs.declared.entry.Entry.{Entry}
use Rattle.one_history.specs.declared.view.Frame.{Frame}
use Rattle.one_history.specs.declared.view.View.{View}
use Rattle.tlm_types.specs.declared.entry.Content.{Content}
use Rattle.tlm_types.specs.declared.words.ObjectNo.TheVariants.{Hop}
use Rattle.tlm_types.specs.declared.words.TxnId.{TxnId}
use Rattle.tlm_model.specs.Plan.{Plan}
use Rattle.base_phases.specs.declared.phases.LaneState.{LaneState}
use Rattle.token_book.specs.Account.{Slip}
use Rattle.token_book.specs.declared.ticket.Ticket.{Ticket}
use Rattle.shared_object.specs.Standing.{AreVouched, Meets, place}
use Rattle.shared_object.specs.Steps.{Enters, unspent}
use Rattle.flow_model.specs.World.{Passage, hop_at, hop_count}
use Rattle.flow_model.specs.Events.{Among, Finds, IsTake}
use Rattle.flow_model.specs.Platform.{passage_of}
use Rattle.numbered_log.specs.Logged.{written_by}
use Rattle.hop_object.specs.View.{HopView}
use Rattle.hop_object.specs.Hops.{Follows}
use Rattle.hop_object.specs.Lanes.{name_at}
use Rattle.hop_object.specs.Objects.{Applied, built_of, content_by, given_by, is_admitted}
use Rattle.hop_object.specs.declared.call.HopCall.{HopCall}
use Rattle.hop_object.specs.declared.call.HopReply.{HopReply}
use Rattle.hop_object.specs.declared.call.HopTraits.{HopTraits}
use Rattle.cargo_model.specs.declared.cargo.Cargo.{Cargo}
use Rattle.cargo_model.specs.Known.{Known, object_number, objects_of}
use Rattle.cargo_net.specs.Carried.{IsCarried}
use Rattle.cargo_net.specs.Traffic.{IsHopBuilt}

-- a hop that may stand at this place, where these entries are known
abbrev pub MeetsHop : Frame Plan → TableId → ℕ → ℕ → List (Entry Content) → HopView Cargo → Type 0
MeetsHop frame tokens number own known h = Meets {G = Plan} {M = HopTraits} IsHopBuilt built_of (λ (v : HopView Cargo). map written_by v.log.events) Follows (place frame tokens number own) known h

-- The hop of this number made a call: a hop that it may be stood there before the call, this is its answer by the definitions of a hop, and what
-- it logged is known to the note that comes back.
pub record HasAnswered (frame : Frame Plan) (tokens : TableId) (number own : ℕ) (note back : View Content Plan) (call : HopCall Cargo) (reply : HopReply Cargo) : Type 0 where
  pub before : HopView Cargo
  pub after : HopView Cargo
  pub position : Option ℕ
  pub met : MeetsHop frame tokens number own note.known before
  pub enters : Enters frame number (map written_by before.log.events) (map written_by after.log.events) (is_admitted before call) (content_by before call) note back position
  pub applied : Applied before (unwrap_or position 0) call reply after

-- The same, and what came of it: the hop is one that its log gives, known entries vouch for what it gave, and the ticket is back where no entry was
-- made.
pub record HasStepped (frame : Frame Plan) (tokens : TableId) (number own : ℕ) (note back : View Content Plan) (call : HopCall Cargo) (ticket : Option Ticket) (reply : HopReply Cargo) (left : Option Ticket) : Type 0 where
  pub answered : HasAnswered frame tokens number own note back call reply
  pub follows : Follows answered.after
  pub given : AreVouched (IsCarried frame.world tokens number) (given_by answered.before call reply) back.known
  pub left_is : left ≡ unspent answered.position ticket

-- hop k of the way of x has this number in the history, and the Take of x is known
pub record IsOnWay (p : Plan) (number : ℕ) (known : List (Entry Content)) (x : TxnId) (pass : Passage) (k : ℕ) : Type 0 where
  pub passes : passage_of p x ≡ Some pass
  pub below : k < hop_count pass
  pub place : number ≡ object_number p.platform (Hop (hop_at pass k))
  pub there : Among (objects_of p.platform) (Hop (hop_at pass k))
  pub taken : Finds (Known p.platform known) (IsTake x)

-- A leg of the hop of this number, for a lane in this state that x holds: the entry of x at the position that the leg names is known, which is
-- the BEGIN_REQ of the lane.
pub record IsLegOfLane (frame : Frame Plan) (tokens : TableId) (number : ℕ) (known : List (Entry Content)) (x : TxnId) (state : LaneState) (leg : Slip) : Type 0 where
  pub table : leg.table ≡ tokens
  pub owner : leg.owner ≡ length frame.planned + number
  pub entry : Entry Content
  pub has : Has known entry
  pub object : entry.object ≡ number
  pub txn : entry.content.txn ≡ x
  pub name : leg.name ≡ name_at entry.position state
