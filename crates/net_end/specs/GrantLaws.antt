-- The points of grants of a whole run.
use Rattle.std.specs.Prelude.{ℕ, ◌<◌, IsTrue, List, length}
use Rattle.view_lists.specs.Lists.{Has}
use Rattle.atomic_table.specs.Seated.{TableId}
use Rattle.one_history.specs.declared.entry.Entry.{Entry as HistoryEntry}
use Rattle.one_history.specs.declared.view.Frame.{Frame}
use Rattle.one_history.specs.Gates.{NoneAfterClosed}
use Rattle.one_history.specs.Held.{Held}
use Rattle.tlm_types.specs.declared.ends.EndOf.{EndOf}
use Rattle.tlm_types.specs.declared.entry.Content.{Content}
use Rattle.tlm_types.specs.declared.entry.Entry.{Entry}
use Rattle.tlm_types.specs.declared.words.ObjectNo.{ObjectNo}
use Rattle.tlm_types.specs.declared.words.ObjectNo.TheVariants.{Memory}
use Rattle.tlm_model.specs.History.{entries_at}
use Rattle.tlm_model.specs.Plan.{Plan, initiators_of}
use Rattle.flow_model.specs.Events.{Event, entries}
use Rattle.flow_model.specs.Valid.{HasNoCycle}
use Rattle.good_history.specs.Kept.{EndsGrants, KeepsGrants}
use Rattle.good_history.specs.Grants.{closes}
use Rattle.joined_traffic.specs.Parts.{KeepsGateLog, uses_gate}
use Rattle.joined_traffic.specs.Ended.{HaveLeft}
use Rattle.net_end.specs.Closed.{AreHandedBack, AreLeft, IsClosed, IsPlanned, events_in}
use Rattle.joined_traffic.specs.Places.{AreInPlace}
use Rattle.net_end.specs.Done.{IsDoneWithGrants}

-- no direct access by a gate stands after its closing
abbrev pub ClosesLast : List Entry → Type 0
ClosesLast h = (d c : Entry) (g : ℕ) → Has h d → Has h c → IsTrue (uses_gate g d.what) → IsTrue (closes g c.what) → d.position < c.position

-- Where all initiators have finished, all objects are done with, each memory's log keeps what a history of grants asks of it and has its entries in their
-- places, and no gate is used after its closing, the history has the points of grants, and those of the end.
abbrev pub DoneHasGrants : Type 0
DoneHasGrants = (p : Plan) (h : List Event) (left : ℕ → ObjectNo → ℕ) (end : ℕ → EndOf)
    → HasNoCycle p.platform → HaveLeft p h left → ((k : ℕ) → k < length (initiators_of p) → IsDoneWithGrants p h k (left k) (end k))
    → ((m : ℕ) → KeepsGateLog p (entries_at (Memory m) (entries h))) → AreInPlace h → ClosesLast (entries h) → KeepsGrants p (entries h) × EndsGrants p (entries h)

-- So where all initiators have finished, and all objects of the net are taken apart, the closed history has the points of grants, and those of the end.
abbrev pub ClosedHasGrants : Type 0
ClosedHasGrants = (table : TableId) (frame : Frame Plan) (seats notes : List (Held Content Plan)) (all : List (HistoryEntry Content)) (left : ℕ → ObjectNo → ℕ) (end : ℕ → EndOf)
    → HasNoCycle frame.world.platform → IsPlanned frame → IsClosed frame seats notes all → NoneAfterClosed all → AreLeft table frame seats → AreHandedBack frame seats left
    → ((k : ℕ) → k < length (initiators_of frame.world) → IsDoneWithGrants frame.world (events_in frame.world.platform all) k (left k) (end k))
    → KeepsGrants frame.world (entries (events_in frame.world.platform all)) × EndsGrants frame.world (entries (events_in frame.world.platform all))
