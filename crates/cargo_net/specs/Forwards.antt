-- What a component needs to know to send a payload on over a hop, and what it knows then.
use Rattle.std.specs.Prelude.{ℕ, ◌≡◌, ◌+◌, ◌<◌, ◌++◌, List, [], ◌∷◌, Option, Some, None, slice_get}
use Rattle.atomic_table.specs.Seated.{TableId}
use Rattle.view_lists.specs.Lists.{Within}
use Rattle.one_history.specs.Held.{Held}
use Rattle.one_history.specs.declared.entry.Entry.{Entry}
use Rattle.one_history.specs.declared.view.Frame.{Frame}
use Rattle.one_history.specs.declared.view.View.{View}
use Rattle.tlm_types.specs.declared.entry.Content.{Content}
use Rattle.tlm_types.specs.declared.words.ObjectNo.TheVariants.{Memory}
use Rattle.tlm_types.specs.declared.words.ReqMode.{ReqMode}
use Rattle.tlm_types.specs.declared.words.ReqMode.TheVariants.{Accept, EndReq}
use Rattle.tlm_types.specs.declared.words.TlmSync.{TlmSync}
use Rattle.tlm_types.specs.declared.words.TxnId.{TxnId}
use Rattle.tlm_model.specs.declared.platform.MemoryRow.{MemoryRow}
use Rattle.tlm_model.specs.declared.platform.Target.TheVariants.{Memory as to_memory}
use Rattle.tlm_model.specs.Plan.{Plan}
use Rattle.tlm_model.specs.Route.{Route, later}
use Rattle.token_book.specs.Account.{Slip}
use Rattle.flow_model.specs.World.{Passage, hop_at, hop_count, row_of}
use Rattle.flow_model.specs.Events.{Among, FindsAt, IsAccess}
use Rattle.flow_model.specs.Numbers.{UpIs}
use Rattle.flow_model.specs.Platform.{world_of}
use Rattle.hop_object.specs.declared.call.Begun.TheVariants as Replies
use Rattle.hop_object.specs.declared.call.HopCall.TheVariants.{BeginReq}
use Rattle.hop_object.specs.declared.call.HopReply.{HopReply}
use Rattle.hop_object.specs.declared.call.HopReply.TheVariants.{Begun}
use Rattle.cargo_model.specs.declared.cargo.Cargo.{Cargo}
use Rattle.cargo_model.specs.Counts.{response_ends}
use Rattle.cargo_model.specs.Known.{Known, object_number, objects_of}
use Rattle.cargo_model.specs.Laws.{with_contents}
use Rattle.cargo_model.specs.Travel.{Back, GoesDown, GoesUp, IsAsked, Ready, route_for, stop_for, with_wallet}
use Rattle.cargo_net.specs.declared.forwards.Forwarded.{Forwarded}
use Rattle.cargo_net.specs.declared.forwards.Forwarded.TheVariants.{Left, Now, Busy}
use Rattle.cargo_net.specs.Begins.{HasOwedLeg, HasRequested, MayBegin}
use Rattle.cargo_net.specs.Fetched.{mode_above}
use Rattle.cargo_net.specs.Hops.{HasAnswered}
use Rattle.cargo_net.specs.Wallets.{HoldsSame, item_given}

-- a router doesn't give the response with the answer
abbrev pub IsRouterMode : ReqMode → Type 0
IsRouterMode Accept = Unit {0}
IsRouterMode EndReq = Unit {0}
IsRouterMode mode = ⊥

-- the way of an access with this route ends at hop k, at the memory with this number in the history
pub record EndsAt (p : Plan) (pass : Passage) (k : ℕ) (route : Option Route) (memory : ℕ) : Type 0 where
  pub last : k + 1 ≡ hop_count pass
  pub to : Route
  pub routed : route ≡ Some to
  pub place : memory ≡ object_number p.platform (Memory to.memory)
  pub there : Among (objects_of p.platform) (Memory to.memory)

-- Where hop k leads an access to a memory of the plan, its way ends there.
abbrev pub MemoriesEndWays : Type 0
MemoriesEndWays = (p : Plan) (tokens : TableId) (known : List (Entry Content)) (x : TxnId) (pass : Passage) (asked : IsAsked p tokens (Known p.platform known) x pass) (k m : ℕ) (row : MemoryRow) →
    k < hop_count pass → k < 9 → (stop_for p tokens (Known p.platform known) x pass asked k).to ≡ to_memory m → slice_get p.platform.memories m ≡ Some row → Among (objects_of p.platform) (Memory m) →
    EndsAt p pass k (route_for p tokens (Known p.platform known) x pass asked) (object_number p.platform (Memory m))

-- the component that hop k leads to: this memory, or a router
abbrev pub LeadsTo : Plan → Passage → ℕ → Option Route → Option ℕ → Type 0
LeadsTo p pass k route None = IsRouterMode ((world_of p).hop (hop_at pass k)).req
LeadsTo p pass k route (Some memory) = EndsAt p pass k route memory

-- BEGIN_REQ may be made with this payload, tried at this time, on a hop to this memory or to a router, whose latency this is
pub record MayForward (frame : Frame Plan) (tokens : TableId) (number : ℕ) (memory : Option ℕ) (latency : ℕ) (c : Cargo) (at : ℕ) (known : List (Entry Content)) : Type 0 where
  pub begins : MayBegin frame tokens number c at known
  pub leads : LeadsTo frame.world begins.pass begins.hop (route_for frame.world tokens (Known frame.world.platform known) c.baton.txn begins.pass begins.down.asked) memory
  pub latency_is : latency ≡ ((world_of frame.world).hop (hop_at begins.pass begins.hop)).latency

-- the note that comes back
abbrev pub forwarded_note : Forwarded → Held Content Plan
forwarded_note (Left answer time note) = note
forwarded_note (Now answer time due leg cargo note) = note
forwarded_note (Busy holder live cargo note) = note

-- the reply of the hop, with the item as it was given
abbrev pub forwarded_reply : Cargo → Forwarded → HopReply Cargo
forwarded_reply item (Left answer time note) = Begun (Replies.Left answer time)
forwarded_reply item (Now answer time due leg cargo note) = Begun (Replies.Now answer time leg item)
forwarded_reply item (Busy holder live cargo note) = Begun (Replies.Busy holder live item)

-- the hop answered so, and what its step told is known
pub record HasForwarded (frame : Frame Plan) (tokens : TableId) (number own : ℕ) (c : Cargo) (at : ℕ) (note back : View Content Plan) (answer : Forwarded) : Type 0 where
  pub stepped : View Content Plan
  pub answered : HasAnswered frame tokens number own note stepped (BeginReq c.baton.txn at (item_given tokens number c)) (forwarded_reply (item_given tokens number c) answer)
  pub knew : Within stepped.known back.known

-- The response came by return: the access was made at the time of the BEGIN_REQ, and the payload is back, with the ticket of the END_RESP that is
-- owed, for which the leg is. The response has this time at least, which is after the memory's latency.
pub record HasReturned (frame : Frame Plan) (tokens : TableId) (number : ℕ) (c : Cargo) (pass : Passage) (hop latency : ℕ) (answer : TlmSync) (time due : ℕ) (leg : Option Slip) (new : Cargo) (known : List (Entry Content)) : Type 0 where
  pub leg_of : HasOwedLeg frame tokens number known c.baton.txn answer leg
  pub same : new ≡ with_contents c new.baton.payload new.baton.wallet
  pub served : FindsAt (Known frame.world.platform known) (IsAccess c.baton.txn) time
  pub up : GoesUp frame.world tokens (Known frame.world.platform known) c.baton.txn pass (Back (response_ends (row_of (world_of frame.world) pass hop) (mode_above frame.world pass hop) answer)) hop new
  pub due_is : due ≡ later time latency
  pub due_up : UpIs (world_of frame.world) (Known frame.world.platform known) c.baton.txn pass hop due

-- the look at a memory that was called
abbrev pub looks_at : Option ℕ → List (ℕ × ℕ)
looks_at None = []
looks_at (Some memory) = (memory, 0) ∷ []

-- BEGIN_REQ was made, and is known with its time: the payload waits below, or it was served and its response came by return. Or a request is open
-- or no lane free, and the same payload may go down as before, with all its tickets.
abbrev pub IsForwarded : Frame Plan → TableId → ℕ → Option ℕ → ℕ → Cargo → ℕ → Passage → ℕ → View Content Plan → Forwarded → Type 0
IsForwarded frame tokens number memory latency c at pass hop old (Left answer time note) =
    HasRequested frame at c.baton.txn pass hop answer 1 time note.knows.known
    × (note.knows.looks ≡ old.looks ++ (number, 0) ∷ [])
IsForwarded frame tokens number memory latency c at pass hop old (Now answer time due leg cargo note) =
    HasRequested frame at c.baton.txn pass hop answer 0 time note.knows.known
    × HasReturned frame tokens number c pass hop latency answer time due leg cargo note.knows.known
    × (note.knows.looks ≡ (old.looks ++ (number, 0) ∷ []) ++ looks_at memory)
IsForwarded frame tokens number memory latency c at pass hop old (Busy holder live cargo note) =
    (cargo ≡ with_wallet c cargo.baton.wallet) × HoldsSame cargo.baton.wallet c.baton.wallet
    × GoesDown frame.world tokens (Known frame.world.platform note.knows.known) c.baton.txn pass Ready hop cargo
    × (note.knows.looks ≡ old.looks ++ (number, 3) ∷ [])
