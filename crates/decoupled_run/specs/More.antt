-- What an initiator keeps by a note, it keeps by one that knows and has seen more.
use Rattle.std.specs.Prelude.{Bool}
use Rattle.atomic_table.specs.Seated.{TableId}
use Rattle.view_lists.specs.Lists.{Within}
use Rattle.one_history.specs.declared.view.Frame.{Frame}
use Rattle.one_history.specs.Held.{Held as Noted}
use Rattle.one_history.specs.Lists.{StandBelow}
use Rattle.shared_object.specs.Steps.{IsNote}
use Rattle.token_book.specs.Purse.{Purse}
use Rattle.tlm_types.specs.declared.entry.Content.{Content}
use Rattle.tlm_model.specs.Plan.{Plan}
use Rattle.generic_payload.specs.Payload.{PayloadView}
use Rattle.initiator_run.specs.Run.{Run}
use Rattle.dmi_grants.specs.Table.{TableView}
use Rattle.decoupled_run.specs.Job.{IsJob}

abbrev pub JobStays : Type 0
JobStays = (table tokens : TableId) (frame : Frame Plan) (direct : Bool) (r : Run) (payload : PayloadView) (note back : Noted Content Plan) (w : Purse) (t : TableView)
    → IsJob table tokens frame direct r payload note w t → IsNote table back → Within note.knows.known back.knows.known → StandBelow back.knows.known back.knows.seen → IsJob table tokens frame direct r payload back w t
