-- A history that is closed, and what the objects of a net leave.
use Rattle.std.specs.Prelude.{ℕ, ◌≡◌, ◌+◌, ◌≤◌, List, length, map, All, Some, slice_get, slice_index_or}
use mathlib.Core.Option.{some}
use lib.ListN.{get_elem?}
use Rattle.atomic_table.specs.Seated.{TableId}
use Rattle.one_history.specs.declared.entry.Entry.{Entry as HistoryEntry}
use Rattle.one_history.specs.declared.view.Frame.{Frame}
use Rattle.one_history.specs.Closing.{AreBacked, ArePlanned}
use Rattle.one_history.specs.Held.{Held}
use Rattle.one_history.specs.Moves.{own_of}
use Rattle.one_history.specs.Seats.{IsMerge, Tell}
use Rattle.tlm_types.specs.declared.entry.Content.{Content}
use Rattle.tlm_types.specs.declared.entry.Entry.{Entry}
use Rattle.tlm_types.specs.declared.words.ObjectNo.{ObjectNo}
use Rattle.tlm_types.specs.declared.words.ObjectNo.TheVariants.{Memory, Hop, Pool}
use Rattle.tlm_model.specs.declared.platform.MemoryRow.{MemoryRow}
use Rattle.tlm_model.specs.declared.platform.Platform.{Platform}
use Rattle.tlm_model.specs.Log.{IsLog}
use Rattle.tlm_model.specs.Plan.{Plan, initiators_of}
use Rattle.tlm_model.specs.Route.{greatest_time}
use Rattle.shared_object.specs.Standing.{IsSeat}
use Rattle.region_object.specs.Grants.{IsGrantLog}
use Rattle.region_object.specs.Written.{written_from}
use Rattle.numbered_log.specs.Logged.{written_by}
use Rattle.flow_model.specs.Events.{Event}
use Rattle.flow_model.specs.Platform.{hop_in}
use Rattle.flow_model.specs.Traffic.{slots_of}
use Rattle.hop_object.specs.Hops.{Follows}
use Rattle.hop_object.specs.View.{HopView}
use Rattle.payload_pool.specs.Pool.{IsPool, PoolView, live_of}
use Rattle.route_plan.specs.Planned.{planned_at}
use Rattle.cargo_model.specs.declared.cargo.Cargo.{Cargo}
use Rattle.cargo_model.specs.Known.{event_of, object_number, objects_of}
use Rattle.cargo_net.specs.Traffic.{Backs}
use Rattle.joined_traffic.specs.Accesses.{sum_below}

-- the entries of a history as the definitions of traffic read them
abbrev pub events_in : Platform → List (HistoryEntry Content) → List Event
events_in p all = map (event_of p) all

-- The history is closed: its entries are those that the seats have of their own, in the order of their positions. Each is backed by those before it,
-- no object has more than planned, and what the notes know stands there.
pub record IsClosed (frame : Frame Plan) (seats notes : List (Held Content Plan)) (all : List (HistoryEntry Content)) : Type 0 where
  pub merge : IsMerge seats all
  pub planned : ArePlanned frame all
  pub told : Tell notes 0 all
  pub backed : AreBacked Backs frame.world all

-- of each object the history has room for what the plan counts, and it has no other objects
pub record IsPlanned (frame : Frame Plan) : Type 0 where
  pub count : length frame.planned ≡ length (objects_of frame.world.platform)
  pub each : (k : ℕ) (o : ObjectNo) → slice_get (objects_of frame.world.platform) k ≡ Some o → slice_index_or frame.planned k 0 ≡ planned_at frame.world o

-- the times of a log are those that there are
abbrev pub IsTimed : List Event → Type 0
IsTimed log = All (λ (e : Event). e.time ≤ greatest_time) log

-- memory m is done with: its lawful log, whose entries are its own, and whose grants and closings are those of its gates, numbered from its first
pub record IsMemoryLeft (table : TableId) (frame : Frame Plan) (m : ℕ) (seat : Held Content Plan) : Type 0 where
  pub log : List Entry
  pub row : MemoryRow
  pub at : slice_get frame.world.platform.memories m ≡ Some row
  pub lawful : IsLog row.traits log
  pub first : ℕ
  pub granted : IsGrantLog first row.traits log
  pub own : All (λ (e : Entry). e.object ≡ Memory m) log
  pub timed : All (λ (e : Entry). e.time ≤ greatest_time) log
  pub seat_is : IsSeat table frame (object_number frame.world.platform (Memory m)) (written_from 0 log) seat

-- hop h is done with: it followed its log, by the modes of the components at its ends
pub record IsHopLeft (table : TableId) (frame : Frame Plan) (h : ℕ) (seat : Held Content Plan) : Type 0 where
  pub hop : HopView Cargo
  pub number : hop.number ≡ h
  pub lanes : hop.traits.lanes ≡ (hop_in frame.world.platform h).limit
  pub req : hop.traits.req ≡ (hop_in frame.world.platform h).req
  pub resp : hop.traits.resp ≡ (hop_in frame.world.platform h).resp
  pub follows : Follows hop
  pub timed : IsTimed hop.log.events
  pub seat_is : IsSeat table frame (object_number frame.world.platform (Hop h)) (map written_by hop.log.events) seat

-- the pool of initiator i is done with: all of its slots are free
pub record IsPoolLeft (table : TableId) (frame : Frame Plan) (i : ℕ) (seat : Held Content Plan) : Type 0 where
  pub pool : PoolView
  pub number : pool.initiator ≡ i
  pub slots : length pool.slots ≡ slots_of frame.world i
  pub is : IsPool pool
  pub free : live_of pool ≡ 0
  pub timed : IsTimed pool.log.events
  pub seat_is : IsSeat table frame (object_number frame.world.platform (Pool i)) (map written_by pool.log.events) seat

-- an object is done with, by its kind
abbrev pub IsLeft : TableId → Frame Plan → ObjectNo → Held Content Plan → Type 0
IsLeft table frame (Memory m) seat = IsMemoryLeft table frame m seat
IsLeft table frame (Hop h) seat = IsHopLeft table frame h seat
IsLeft table frame (Pool i) seat = IsPoolLeft table frame i seat

-- all are, and these are their seats in order
pub record AreLeft (table : TableId) (frame : Frame Plan) (seats : List (Held Content Plan)) : Type 0 where
  pub count : length seats ≡ length (objects_of frame.world.platform)
  pub each : (k : ℕ) (o : ObjectNo) (seat : Held Content Plan) → slice_get (objects_of frame.world.platform) k ≡ Some o → get_elem? seats k ≡ some seat → IsLeft table frame o seat

-- The tickets that the initiators have left were handed back: of each object they are, with its entries, no more than planned, and there are none of others.
pub record AreHandedBack (frame : Frame Plan) (seats : List (Held Content Plan)) (left : ℕ → ObjectNo → ℕ) : Type 0 where
  pub each : (k : ℕ) (o : ObjectNo) (seat : Held Content Plan) → slice_get (objects_of frame.world.platform) k ≡ Some o → get_elem? seats k ≡ some seat →
      length (own_of seat.knows) + sum_below (λ i. left i o) (length (initiators_of frame.world)) ≤ slice_index_or frame.planned k 0
  pub others : (o : ObjectNo) → ((k : ℕ) → slice_get (objects_of frame.world.platform) k ≡ Some o → ⊥) → (i : ℕ) → left i o ≡ 0
