-- What a port keeps while others make entries.
use Rattle.atomic_table.specs.Seated.{TableId}
use Rattle.view_lists.specs.Lists.{Within}
use Rattle.one_history.specs.Held.{Held}
use Rattle.one_history.specs.Lists.{StandBelow}
use Rattle.one_history.specs.declared.view.Frame.{Frame}
use Rattle.shared_object.specs.Steps.{IsNote}
use Rattle.tlm_types.specs.declared.entry.Content.{Content}
use Rattle.tlm_model.specs.Plan.{Plan}
use Rattle.port_moves.specs.State.{IsPort, StateView, with_note}

-- A port by one note is a port by any note of the same history that knows more: nothing that it needs is that an entry isn't there.
abbrev pub PortKnowsMore : Type 0
PortKnowsMore = (table tokens : TableId) (frame : Frame Plan) (s : StateView) (note back : Held Content Plan) → IsPort table tokens frame (with_note s note)
    → IsNote table back → Within note.knows.known back.knows.known → StandBelow back.knows.known back.knows.seen → IsPort table tokens frame (with_note s back)
