-- What a component needs to know to make the access of a request at a memory of a net. What the plan gives isn't asked: that the way of the access ends
-- at a hop that leads to a memory, and that this is its route.
use Rattle.std.specs.Prelude.{ℕ, ◌≡◌, List}
use Rattle.atomic_table.specs.Seated.{TableId}
use Rattle.one_history.specs.declared.entry.Entry.{Entry}
use Rattle.one_history.specs.declared.view.Frame.{Frame}
use Rattle.tlm_types.specs.declared.entry.Access.{Access}
use Rattle.tlm_types.specs.declared.entry.Content.{Content}
use Rattle.tlm_model.specs.declared.platform.Target.TheVariants.{Memory}
use Rattle.tlm_model.specs.Plan.{Plan}
use Rattle.tlm_model.specs.Route.{Route}
use Rattle.flow_model.specs.Numbers.{ReqIs}
use Rattle.flow_model.specs.Platform.{world_of}
use Rattle.flow_model.specs.World.{Passage, hop_at}
use Rattle.cargo_model.specs.declared.cargo.Cargo.{Cargo}
use Rattle.cargo_model.specs.Known.{Known}
use Rattle.cargo_model.specs.Travel.{IsFetched}
use Rattle.cargo_net.specs.Serves.{HasServed}
use Rattle.plat_net.specs.Places.{LeadsTo, memory_place}

-- A fetched request may be served by this memory, to which its hop leads, at this time, which is that of its BEGIN_REQ there.
pub record CanServe (frame : Frame Plan) (tokens : TableId) (memory : ℕ) (c : Cargo) (at : ℕ) (known : List (Entry Content)) : Type 0 where
  pub pass : Passage
  pub hop : ℕ
  pub fetched : IsFetched frame.world tokens (Known frame.world.platform known) c.baton.txn pass hop c
  pub leads : LeadsTo frame.world.platform (hop_at pass hop) (Memory memory)
  pub begun : ReqIs (world_of frame.world) (Known frame.world.platform known) c.baton.txn (hop_at pass hop) at

-- the access of a request was made at this memory, by the route of its address
pub record IsServedAt (frame : Frame Plan) (tokens : TableId) (memory : ℕ) (c : Cargo) (at : ℕ) (pass : Passage) (hop : ℕ) (asked : Access) (new : Cargo) (known : List (Entry Content)) : Type 0 where
  pub route : Route
  pub memory_is : route.memory ≡ memory
  pub served : HasServed frame tokens (memory_place frame.world memory) c at pass hop asked route new known
