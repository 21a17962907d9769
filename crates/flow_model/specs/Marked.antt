-- The marks of a hop's log: by its number, a BEGIN_RESP tells whether it ended the request of its lane.
use Rattle.std.specs.Prelude.{ℕ, ◌≡◌, List, [], ◌∷◌, if◌then◌else◌}
use Rattle.tlm_types.specs.declared.words.Phase.TheVariants.{BeginResp}
use Rattle.tlm_types.specs.declared.entry.What.{What}
use Rattle.tlm_types.specs.declared.entry.What.TheVariants.{Call as Called}
use Rattle.base_phases.specs.declared.phases.LaneState.{LaneState}
use Rattle.flow_model.specs.Answers.{is_requested}
use Rattle.flow_model.specs.Board.{Board, Reaches, Rules, StepsBy}
use Rattle.flow_model.specs.Events.{Event, entries}

-- the mark of a BEGIN_RESP on a lane in this state
abbrev pub mark_of : LaneState → ℕ
mark_of state = if is_requested state then 1 else 0

-- a BEGIN_RESP is marked exactly where the request of its lane is open, and no other call is
abbrev pub MarkedBy : (r : Rules) (b : Board) (e : Event) (w : What) (c : Board) → StepsBy r b e.entry w c → Type 0
MarkedBy r b e (Called BeginResp answer) c step = e.number ≡ mark_of step.lane.state
MarkedBy r b e _ c step = e.number ≡ 0

-- a step of the hop, with its mark
pub record Marks (r : Rules) (b : Board) (e : Event) (c : Board) : Type 0 where
  pub steps : StepsBy r b e.entry e.what c
  pub marked : MarkedBy r b e e.what c steps

-- the entries of a log with their marks, one after another
abbrev pub ReachesMarked : Rules → Board → List Event → Board → Type 0
ReachesMarked r b [] d = b ≡ d
ReachesMarked r b (e ∷ es) d = (c : Board) × Marks r b e c × ReachesMarked r c es d

-- the same without their marks
abbrev pub unmarked : (r : Rules) (b : Board) (es : List Event) (d : Board) → ReachesMarked r b es d → Reaches r b (entries es) d
unmarked r b [] d there = there
unmarked r b (e ∷ es) d there = (there.0, there.1.steps, unmarked r there.0 es d there.2)
