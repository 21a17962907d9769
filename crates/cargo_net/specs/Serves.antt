-- What a memory needs to know to make the access of a request, and what it knows then.
use Rattle.std.specs.Prelude.{ℕ, ◌≡◌, ◌+◌, List, Some}
use Rattle.atomic_table.specs.Seated.{TableId}
use Rattle.one_history.specs.declared.entry.Entry.{Entry}
use Rattle.one_history.specs.declared.view.Frame.{Frame}
use Rattle.tlm_types.specs.declared.entry.Access.{Access}
use Rattle.tlm_types.specs.declared.entry.Content.{Content}
use Rattle.tlm_types.specs.declared.words.ObjectNo.TheVariants.{Memory}
use Rattle.tlm_types.specs.declared.words.Way.TheVariants.{FourPhase}
use Rattle.tlm_model.specs.Plan.{Plan}
use Rattle.tlm_model.specs.Route.{Route, later}
use Rattle.generic_payload.specs.Payload.{access_of}
use Rattle.region_object.specs.declared.call.RegionCall.{RegionCall}
use Rattle.region_object.specs.declared.call.RegionCall.TheVariants.{Access as AccessCall}
use Rattle.flow_model.specs.World.{Passage, hop_at, hop_count}
use Rattle.flow_model.specs.Events.{Among, FindsAt}
use Rattle.flow_model.specs.Numbers.{ReqIs, UpIs}
use Rattle.flow_model.specs.Platform.{world_of}
use Rattle.cargo_model.specs.declared.cargo.Cargo.{Cargo}
use Rattle.cargo_model.specs.Known.{Known, object_number, objects_of}
use Rattle.cargo_model.specs.Laws.{with_contents}
use Rattle.cargo_model.specs.Tickets.{AreApart, Pulls}
use Rattle.cargo_model.specs.Travel.{GoesUp, IsFetched, IsServed, Ready, logged_by, numbers_for, route_for}

-- the call at the memory
abbrev pub access_call : Cargo → ℕ → RegionCall
access_call c at = AccessCall c.baton.txn at FourPhase c.baton.payload

-- A fetched request may be served by the memory of this number, at this time: its way ends there, and the time is that of its BEGIN_REQ there.
pub record MayServe (frame : Frame Plan) (tokens : TableId) (number : ℕ) (c : Cargo) (at : ℕ) (known : List (Entry Content)) : Type 0 where
  pub pass : Passage
  pub hop : ℕ
  pub fetched : IsFetched frame.world tokens (Known frame.world.platform known) c.baton.txn pass hop c
  pub last : hop + 1 ≡ hop_count pass
  pub apart : AreApart (hop_count pass) (numbers_for frame.world tokens (Known frame.world.platform known) c.baton.txn pass fetched.down.asked)
  pub route : Route
  pub routed : route_for frame.world tokens (Known frame.world.platform known) c.baton.txn pass fetched.down.asked ≡ Some route
  pub place : number ≡ object_number frame.world.platform (Memory route.memory)
  pub there : Among (objects_of frame.world.platform) (Memory route.memory)
  pub begun : ReqIs (world_of frame.world) (Known frame.world.platform known) c.baton.txn (hop_at pass hop) at

-- The access was made at this time: its entry is known, with the answer that the payload has. The payload may go up, its response has at least the
-- time after the memory's latency, and the wallet has one ticket of the memory and the bytes of the access less.
pub record HasServed (frame : Frame Plan) (tokens : TableId) (number : ℕ) (c : Cargo) (at : ℕ) (pass : Passage) (hop : ℕ) (asked : Access) (route : Route) (new : Cargo) (known : List (Entry Content)) : Type 0 where
  pub made : FindsAt (Known frame.world.platform known) (IsServed c.baton.txn asked route new.baton.payload) at
  pub same : new ≡ with_contents c new.baton.payload new.baton.wallet
  pub pulls : Pulls tokens number (logged_by (access_of c.baton.payload)) c.baton.wallet new.baton.wallet
  pub up : GoesUp frame.world tokens (Known frame.world.platform known) c.baton.txn pass Ready hop new
  pub due : UpIs (world_of frame.world) (Known frame.world.platform known) c.baton.txn pass hop (later at ((world_of frame.world).hop (hop_at pass hop)).latency)
