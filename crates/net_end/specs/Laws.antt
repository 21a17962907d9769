-- What a net leaves is what the law of ended runs wants of objects.
use Rattle.std.specs.Prelude.{ℕ, ◌≡◌, ◌<◌, List, [], length, Option, Some, None, slice_get}
use Rattle.atomic_table.specs.Seated.{TableId}
use Rattle.one_history.specs.declared.entry.Entry.{Entry as HistoryEntry}
use Rattle.one_history.specs.declared.view.Frame.{Frame}
use Rattle.one_history.specs.Held.{Held}
use Rattle.tlm_types.specs.declared.entry.Content.{Content}
use Rattle.tlm_types.specs.declared.entry.Entry.{Entry}
use Rattle.tlm_types.specs.declared.words.ObjectNo.{ObjectNo}
use Rattle.tlm_types.specs.declared.words.ObjectNo.TheVariants.{Memory}
use Rattle.tlm_types.specs.declared.ends.EndOf.{EndOf}
use Rattle.tlm_model.specs.declared.platform.MemoryRow.{MemoryRow}
use Rattle.tlm_model.specs.History.{entries_at}
use Rattle.tlm_model.specs.declared.platform.Style.TheVariants.{FourPhase}
use Rattle.tlm_model.specs.Plan.{Plan, Initiator, initiators_of}
use Rattle.region_object.specs.Grants.{IsGrantLog}
use Rattle.flow_model.specs.Events.{Event, entries}
use Rattle.flow_model.specs.Valid.{HasNoCycle}
use Rattle.joined_traffic.specs.Parts.{EndsOwnGrants, KeepsOwnGrants}
use Rattle.good_history.specs.Own.{own}
use Rattle.joined_traffic.specs.Ended.{HaveLeft}
use Rattle.port_model.specs.Closings.{HasAllOf}
use Rattle.net_end.specs.Finished.{HasEndedWhole, IsDone}
use Rattle.net_end.specs.Closed.{AreHandedBack, AreLeft, IsClosed, IsPlanned, events_in}

-- The objects of a net have left all that the end of a run wants of them.
abbrev pub ObjectsLeave : Type 0
ObjectsLeave = (table : TableId) (frame : Frame Plan) (seats notes : List (Held Content Plan)) (all : List (HistoryEntry Content)) (left : ℕ → ObjectNo → ℕ)
    → IsPlanned frame → IsClosed frame seats notes all → AreLeft table frame seats → AreHandedBack frame seats left → HaveLeft frame.world (events_in frame.world.platform all) left

-- the grants and closings of a log are those of the gates of a memory with this row, numbered from its first
pub record HasGates (row : MemoryRow) (log : List Entry) : Type 0 where
  pub first : ℕ
  pub granted : IsGrantLog first row.traits log

-- what a memory's part of a history tells of gates, by its row; a memory that isn't there has no part
abbrev pub HasGatesOf : Option MemoryRow → List Entry → Type 0
HasGatesOf None log = log ≡ []
HasGatesOf (Some row) log = HasGates row log

-- Each memory of a net has left a log whose grants and closings are those of its gates.
abbrev pub MemoriesLeaveGates : Type 0
MemoriesLeaveGates = (table : TableId) (frame : Frame Plan) (seats notes : List (Held Content Plan)) (all : List (HistoryEntry Content)) (left : ℕ → ObjectNo → ℕ)
    → IsPlanned frame → IsClosed frame seats notes all → AreLeft table frame seats → AreHandedBack frame seats left
    → (m : ℕ) → HasGatesOf (slice_get frame.world.platform.memories m) (entries_at (Memory m) (entries (events_in frame.world.platform all)))

-- Where all initiators have finished and all objects are done with, and the history is numbered, gives each gate in order and has each entry in its
-- place, a four-phase initiator has kept what a history of grants asks of its entries, at the end too, also with invalidations.
abbrev pub PortsTellGrants : Type 0
PortsTellGrants = (p : Plan) (h : List Event) (left : ℕ → ObjectNo → ℕ) (end : ℕ → EndOf)
    → HasNoCycle p.platform → HaveLeft p h left → ((k : ℕ) → k < length (initiators_of p) → IsDone p h k (left k) (end k)) → HasAllOf h (entries h)
    → (k : ℕ) (i : Initiator) → slice_get (initiators_of p) k ≡ Some i → i.row.style ≡ FourPhase
    → KeepsOwnGrants p (entries h) (own k (entries h)) × EndsOwnGrants p (entries h) k (own k (entries h))

-- Where all initiators have finished and all objects are done with, the whole run has ended.
abbrev pub InitiatorsEnd : Type 0
InitiatorsEnd = (p : Plan) (h : List Event) (left : ℕ → ObjectNo → ℕ) (end : ℕ → EndOf)
    → HasNoCycle p.platform → HaveLeft p h left → ((k : ℕ) → k < length (initiators_of p) → IsDone p h k (left k) (end k)) → HasEndedWhole p h left end
