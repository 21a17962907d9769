-- A pool that a call meets at a place of the history, what its answer is, and what a component needs to know to call it.
use Rattle.std.specs.Prelude.{ℕ, ◌≡◌, ◌+◌, ◌<◌, ◌≤◌, Bool, List, length, map, Option, Some}
use Rattle.std.specs.Option.{unwrap_or}
use Rattle.atomic_table.specs.Seated.{TableId}
use Rattle.one_history.specs.declared.entry.Entry.{Entry}
use Rattle.one_history.specs.declared.view.Frame.{Frame}
use Rattle.one_history.specs.declared.view.View.{View}
use Rattle.tlm_types.specs.declared.entry.Content.{Content}
use Rattle.tlm_types.specs.declared.words.ObjectNo.TheVariants.{Pool}
use Rattle.tlm_types.specs.declared.words.TxnId.{TxnId}
use Rattle.tlm_model.specs.Plan.{Plan}
use Rattle.token_book.specs.Account.{Slip}
use Rattle.token_book.specs.Purse.{IsOf, empty_purse, left_of}
use Rattle.token_book.specs.declared.ticket.Ticket.{Ticket}
use Rattle.generic_payload.specs.Payload.{new_payload}
use Rattle.shared_object.specs.Standing.{Meets, place}
use Rattle.shared_object.specs.Steps.{Enters, unspent}
use Rattle.numbered_log.specs.Logged.{written_by}
use Rattle.payload_pool.specs.Calls.{Applied, admitted, built_of, content_of}
use Rattle.payload_pool.specs.Pool.{Follows, PoolView}
use Rattle.payload_pool.specs.declared.baton.Baton.{Baton}
use Rattle.payload_pool.specs.declared.call.PoolCall.{PoolCall}
use Rattle.payload_pool.specs.declared.call.PoolCall.TheVariants.{Acquire}
use Rattle.payload_pool.specs.declared.call.PoolReply.{PoolReply}
use Rattle.payload_pool.specs.declared.call.PoolReply.TheVariants.{Acquired, Live, Released, Took}
use Rattle.payload_pool.specs.declared.pool.PoolMade.{PoolMade}
use Rattle.flow_model.specs.World.{Passage}
use Rattle.flow_model.specs.Events.{Among, Finds, FindsAt, IsAcquire, IsRelease}
use Rattle.flow_model.specs.Backed.{AcquireBacked, ReleaseBacked}
use Rattle.flow_model.specs.Platform.{passage_of, world_of}
use Rattle.cargo_model.specs.Known.{Known, object_number, objects_of}
use Rattle.cargo_model.specs.Tickets.{Pulls}
use Rattle.cargo_model.specs.Travel.{IsTaken, IsTakenAt, reference}
use Rattle.cargo_net.specs.Traffic.{IsPoolBuilt}

-- a pool that may stand at this place, where these entries are known
abbrev pub MeetsPool : Frame Plan → TableId → ℕ → ℕ → List (Entry Content) → PoolView → Type 0
MeetsPool frame tokens number own known v = Meets {G = Plan} {M = PoolMade} IsPoolBuilt built_of (λ (o : PoolView). map written_by o.log.events) Follows (place frame tokens number own) known v

-- The pool of this number made a call: a pool that it may be stood there before the call, this is its answer by the definitions of a pool, and what
-- it logged is known to the note that comes back.
pub record HasPooled (frame : Frame Plan) (tokens : TableId) (number own : ℕ) (note back : View Content Plan) (call : PoolCall) (reply : PoolReply) : Type 0 where
  pub before : PoolView
  pub after : PoolView
  pub position : Option ℕ
  pub met : MeetsPool frame tokens number own note.known before
  pub enters : Enters frame number (map written_by before.log.events) (map written_by after.log.events) (admitted before call) (content_of before call) note back position
  pub applied : Applied before (unwrap_or position 0) call reply after

-- the same, and what came back of the ticket: all of it where no entry was made
pub record HasPooledWith (frame : Frame Plan) (tokens : TableId) (number own : ℕ) (note back : View Content Plan) (call : PoolCall) (ticket : Option Ticket) (reply : PoolReply) (left : Option Ticket) : Type 0 where
  pub pooled : HasPooled frame tokens number own note back call reply
  pub left_is : left ≡ unspent pooled.position ticket

-- the pool of this number has acquired one reference more, at this time
pub record HasAcquiredOne (frame : Frame Plan) (tokens : TableId) (number own : ℕ) (note back : View Content Plan) (at : ℕ) : Type 0 where
  pub baton : Baton
  pub next : Baton
  pub hold : Slip
  pub pooled : HasPooled frame tokens number own note back (Acquire baton at) (Acquired next hold)

-- the pool of x's initiator has this number in the history, which has a planned number for each object
pub record IsPoolOf (frame : Frame Plan) (number : ℕ) (x : TxnId) : Type 0 where
  pub place : number ≡ object_number frame.world.platform (Pool x.initiator)
  pub there : Among (objects_of frame.world.platform) (Pool x.initiator)
  pub planned : length frame.planned ≡ length (objects_of frame.world.platform)

-- the reply is that to a Take
abbrev pub IsTookReply : PoolReply → Type 0
IsTookReply (Took baton) = Unit {0}
IsTookReply reply = ⊥

-- to an Acquire
abbrev pub IsAcquiredReply : PoolReply → Type 0
IsAcquiredReply (Acquired baton hold) = Unit {0}
IsAcquiredReply reply = ⊥

-- to how many slots are live
abbrev pub IsLiveReply : PoolReply → Type 0
IsLiveReply (Live live) = Unit {0}
IsLiveReply reply = ⊥

-- and to a Release
abbrev pub IsReleasedReply : PoolReply → Type 0
IsReleasedReply (Released freed) = Unit {0}
IsReleasedReply reply = ⊥

-- A payload may be taken for x: it is a four-phase access, and this is its initiator's pool.
pub record MayTake (frame : Frame Plan) (number : ℕ) (x : TxnId) : Type 0 where
  pub pass : Passage
  pub passes : passage_of frame.world x ≡ Some pass
  pub pool : IsPoolOf frame number x

-- It was taken at this time: the Take is known and stands after all that the note had seen, and the baton has its slot and its reference, a payload as
-- new, and an empty wallet.
pub record HasTaken (frame : Frame Plan) (tokens : TableId) (x : TxnId) (at : ℕ) (seen : ℕ) (b : Baton) (known : List (Entry Content)) : Type 0 where
  pub position : ℕ
  pub late : seen ≤ position
  pub taken : FindsAt (Known frame.world.platform known) (IsTaken x position b.slot) at
  pub baton : b ≡ record { payload = new_payload 4096; wallet = empty_purse 12; slot = b.slot; txn = x; own = reference frame.world tokens x position 16 }

-- One reference more may be acquired at this time: so many were, of the known Take, and what the Acquire stands after is known.
pub record MayAcquire (frame : Frame Plan) (tokens : TableId) (number : ℕ) (b : Baton) (at : ℕ) (known : List (Entry Content)) : Type 0 where
  pub pass : Passage
  pub passes : passage_of frame.world b.txn ≡ Some pass
  pub pool : IsPoolOf frame number b.txn
  pub position : ℕ
  pub taken : Finds (Known frame.world.platform known) (IsTaken b.txn position b.slot)
  pub count : ℕ
  pub few : count < 15
  pub own : b.own ≡ reference frame.world tokens b.txn position (16 + count)
  pub of : IsOf tokens b.wallet
  pub ticket : 0 < left_of b.wallet number
  pub after : AcquireBacked (world_of frame.world) (Known frame.world.platform known) b.txn pass count at

-- It was acquired: the Acquire is known, the baton counts it, and the hold is its reference. The wallet has one ticket of the pool less.
pub record HasAcquired (frame : Frame Plan) (tokens : TableId) (number : ℕ) (b : Baton) (at position count : ℕ) (new : Baton) (hold : Slip) (known : List (Entry Content)) : Type 0 where
  pub made : FindsAt (Known frame.world.platform known) (IsAcquire b.txn count) at
  pub baton : new ≡ (let w = new.wallet in record b { wallet = w; own = reference frame.world tokens b.txn position (16 + (count + 1)) })
  pub held : hold ≡ reference frame.world tokens b.txn position count
  pub pulls : Pulls tokens number 0 b.wallet new.wallet

-- A hold may be given up at this time: it is a reference of a known Take, and what its Release stands after is known.
pub record MayRelease (frame : Frame Plan) (tokens : TableId) (number : ℕ) (hold : Slip) (at : ℕ) (known : List (Entry Content)) : Type 0 where
  pub x : TxnId
  pub pass : Passage
  pub passes : passage_of frame.world x ≡ Some pass
  pub pool : IsPoolOf frame number x
  pub position : ℕ
  pub taken : Finds (Known frame.world.platform known) (IsTakenAt x position)
  pub count : ℕ
  pub few : count < 15
  pub is : hold ≡ reference frame.world tokens x position count
  pub after : ReleaseBacked (world_of frame.world) (Known frame.world.platform known) x pass count at

-- A baton may be given up at this time: it has what it was given, and nothing is left in its wallet.
pub record MayStow (frame : Frame Plan) (tokens : TableId) (number : ℕ) (b : Baton) (at : ℕ) (known : List (Entry Content)) : Type 0 where
  pub pass : Passage
  pub passes : passage_of frame.world b.txn ≡ Some pass
  pub pool : IsPoolOf frame number b.txn
  pub position : ℕ
  pub taken : Finds (Known frame.world.platform known) (IsTakenAt b.txn position)
  pub count : ℕ
  pub few : count < 16
  pub own : b.own ≡ reference frame.world tokens b.txn position (16 + count)
  pub room : b.payload.room ≡ 4096
  pub spent : b.wallet ≡ empty_purse 12
  pub after : ReleaseBacked (world_of frame.world) (Known frame.world.platform known) b.txn pass 15 at

-- the Release of this number is known, with its time and whether it freed the slot
abbrev pub HasReleased : Frame Plan → TxnId → ℕ → ℕ → Bool → List (Entry Content) → Type 0
HasReleased frame x count at freed known = FindsAt (Known frame.world.platform known) (IsRelease x count freed) at
