-- A port that is stepped an entry at a time: what it keeps by the note of who steps it, and what a step comes to that makes no entry.
use Rattle.std.specs.Prelude.{◌≡◌, Bool, true, false, Option, Some, None}
use Rattle.atomic_table.specs.Seated.{TableId}
use Rattle.view_lists.specs.Lists.{Within}
use Rattle.one_history.specs.Held.{Held}
use Rattle.one_history.specs.Lists.{StandBelow}
use Rattle.one_history.specs.declared.view.Frame.{Frame}
use Rattle.shared_object.specs.Steps.{IsNote}
use Rattle.tlm_types.specs.declared.entry.Content.{Content}
use Rattle.tlm_model.specs.Plan.{Plan}
use Rattle.node_hops.specs.declared.node.OneStep.{OneStep}
use Rattle.node_hops.specs.declared.node.OneStep.TheVariants as steps
use Rattle.dmi_grants.specs.declared.invalidation.Ending.{Ending}
use Rattle.dmi_grants.specs.declared.invalidation.Ending.TheVariants.{Closed, ByOthers, Returned}
use Rattle.dmi_grants.specs.declared.invalidation.Revocation.{Revocation}
use Rattle.port_moves.specs.State.{IsPort, PortView, StateView, with_note}
use Rattle.port_moves.specs.declared.hand.Hand.TheVariants.{Free}
use Rattle.port_moves.specs.Moved.{ends, made}
use Rattle.port_moves.specs.declared.hand.Moved.{Moved}
use Rattle.port_moves.specs.declared.hand.Pumped.{Pumped}
use Rattle.port_moves.specs.declared.hand.Pumped.TheVariants.{Did, Nothing, Finished}
use Rattle.fourphase_port.specs.Closing.{IsClosing}
use Rattle.fourphase_port.specs.Pumps.{IsMove, IsPump}
use Rattle.fourphase_port.specs.declared.steps.SteppedPort.{SteppedPort}

-- where a port stands between two steps: at a move, or between two closings of an invalidation
abbrev pub Stands : TableId → TableId → Frame Plan → StateView → Option Revocation → Held Content Plan → Type 0
Stands table tokens frame s None note = IsPort table tokens frame (with_note s note)
Stands table tokens frame s (Some r) note = IsClosing table tokens frame s r note

-- a port with the note of who steps it
abbrev pub stepped_with : SteppedPort → Held Content Plan → PortView
stepped_with s note = with_note s.state note

-- A port between two steps, by a note that knows all that it has come to know.
pub record IsSteppedPort (table tokens : TableId) (frame : Frame Plan) (s : SteppedPort) (note : Held Content Plan) : Type 0 where
  pub note_of : IsNote table note
  pub below : StandBelow note.knows.known note.knows.seen
  pub stands : Stands table tokens frame s.state s.closes note

-- What a move is for a step: its entry, or that it waits or has finished. After any other move it goes on.
abbrev pub step_by : Bool → Option Pumped → Option OneStep
step_by true pumped = Some steps.Made
step_by false None = None
step_by false (Some Did) = None
step_by false (Some Nothing) = Some steps.Waits
step_by false (Some Finished) = Some steps.Finished

abbrev pub step_of : Moved → Option OneStep
step_of m = step_by m.entry m.pumped

-- what the end of a grant is: an entry where this port has closed it, and else its pump begins again
abbrev pub moved_by : Ending → Moved
moved_by Closed = made
moved_by ByOthers = ends Did
moved_by Returned = ends Did

-- a move of a step that makes no entry, and doesn't end a pump by which something was done, is a move of a pump
abbrev pub MovesOn : Frame Plan → Bool → PortView → PortView → Moved → Type 0
MovesOn frame fetched old new m = m.entry ≡ false → (m.pumped ≡ Some Did → ⊥) → IsMove frame fetched old new m

-- The last pump of a step has ended so, without an entry: it began with nothing in hand, in this step, and knew all that the step knew when it began.
pub record HasPumpedLast (frame : Frame Plan) (pumped : Pumped) (old new : PortView) : Type 0 where
  pub began : PortView
  pub free : began.hand ≡ Free
  pub knew : Within old.note.knows.known began.note.knows.known
  pub pump : IsPump frame false began new pumped

-- What a port is by one note it is by any note of the same history that knows more.
abbrev pub SteppedKnowsMore : Type 0
SteppedKnowsMore = (table tokens : TableId) (frame : Frame Plan) (s : SteppedPort) (note back : Held Content Plan) → IsSteppedPort table tokens frame s note
    → IsNote table back → Within note.knows.known back.knows.known → StandBelow back.knows.known back.knows.seen → IsSteppedPort table tokens frame s back
