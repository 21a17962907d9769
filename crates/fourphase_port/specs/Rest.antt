-- What contracts see of a port between its moves.
use Rattle.std.specs.Prelude.{◌≡◌, Option, Some}
use Rattle.atomic_table.specs.Seated.{TableId}
use Rattle.one_history.specs.Held.{Held}
use Rattle.one_history.specs.declared.view.Frame.{Frame}
use Rattle.tlm_types.specs.declared.entry.Content.{Content}
use Rattle.tlm_model.specs.Plan.{Plan}
use Rattle.port_moves.specs.State.{IsPort, StateView, with_note}

-- it has its note
pub record RestView : Type 0 where
  pub state : StateView
  pub open state use *
  pub note : Option (Held Content Plan)

pub record IsAtRest (table tokens : TableId) (frame : Frame Plan) (v : RestView) : Type 0 where
  pub its_note : Held Content Plan
  pub has_note : v.note ≡ Some its_note
  pub is_port : IsPort table tokens frame (with_note v.state its_note)
