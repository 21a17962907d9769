-- What an actor keeps while others make entries.
use Rattle.atomic_table.specs.Seated.{TableId}
use Rattle.view_lists.specs.Lists.{Within}
use Rattle.one_history.specs.declared.view.Frame.{Frame}
use Rattle.one_history.specs.Held.{Held}
use Rattle.one_history.specs.Lists.{StandBelow}
use Rattle.shared_object.specs.Steps.{IsNote}
use Rattle.tlm_types.specs.declared.entry.Content.{Content}
use Rattle.tlm_model.specs.Plan.{Plan}
use Rattle.stepped_actors.specs.declared.actor.SteppedActor.{SteppedActor}
use Rattle.stepped_actors.specs.Actors.{KeepsBy}

abbrev pub ActorsStay : Type 0
ActorsStay = (table tokens : TableId) (frame : Frame Plan) (a : SteppedActor) (note back : Held Content Plan) → KeepsBy table tokens frame a note
    → IsNote table back → Within note.knows.known back.knows.known → StandBelow back.knows.known back.knows.seen → KeepsBy table tokens frame a back
